use Rattle.std.proofs.Common.{sym, ap, ◌∙◌}
use Rattle.grain_logic.specs.Logic.{Plan}
use Rattle.grain_logic.specs.Finished.{plan_at}
use Rattle.silo_state.specs.Finds.{turn_of}
use Rattle.silo_state.proofs.OpenTurns.{own_turn}
use Rattle.silo_state.proofs.finding.ask_open.Goals as goal

pub returns : goal.returns
returns g c =
    let found = c.in-Some.found in
    record {
      input = turn_of c.args.grain.now c.args.turn found.state.now found.message.now;
      own = own_turn c.args.grain.now _ c.args.turn found.state.now found.message.now found.at_close c.in-Some.ensures.found;
      state_is = sym c.in_ok-state.ensures.cases;
      call_is = ap (λ (p : Plan). p.storage) (c.in_ok-planned.ensures.plan ∙ ap (λ state. plan_at g.L.GrainLogic.logic c.args.grain.now state found.message.now) c.in_ok-state.ensures.cases);
    }
