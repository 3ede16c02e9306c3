use Rattle.std.proofs.Common.{ap, sym, ◌∙◌}
use Rattle.silo_state.specs.Shown.{phase_of}
use Rattle.silo_state.proofs.Shows.{idle_mail}
use Rattle.silo_state.proofs.activations.idle.idle_state.Goals as goal

pub returns : goal.returns
returns c =
    let a = c.args.activation.now in
    record {
      version = c.in-Ready.version;
      phase_is = ap phase_of c.in-Ready.is;
      idle = sym (idle_mail a c.in-Ready.state c.in-Ready.version c.in-Ready.is) ∙ sym c.if-not-is_idle.ensures;
      stays = c.if-activation.false;
    }
