use Rattle.std.proofs.Common.{refl, sym}
use Rattle.silo_state.specs.Shown.{request_of, entry_of}
use Rattle.silo_state.proofs.OpenTurns.{not_open, is_open}
use Rattle.silo_state.proofs.finding.open_turn.Goals as goal

pub returns-in_default-opened-clause-none : goal.returns-in_default-opened-clause-none
returns-in_default-opened-clause-none c = not_open c.args.activation.now c.in-Ready.state c.in-Ready.version c.in-Ready.is c.args.turn (sym c.in_default-opened.ensures)

pub returns-clause-found : goal.returns-clause-found
returns-clause-found c =
    let a = c.args.activation.now in
    let request = c.in-Some.request.now in
    record {
      entry = entry_of a;
      request = request_of request;
      is_open = is_open a c.in-Ready.state c.in-Ready.version c.in-Ready.is c.args.turn request (sym c.in-Some.ensures);
      idle_after_is = c.none_waits.ensures;
      message_is = refl;
    }
