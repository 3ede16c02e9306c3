use Rattle.silo_state.specs.Finds.{turn_of}
use Rattle.silo_state.proofs.OpenTurns.{own_turn}
use Rattle.silo_state.proofs.finding.plan_open.Goals as goal

pub returns : goal.returns
returns g c =
    let found = c.in-Some.found in
    record {
      input = turn_of c.args.grain.now c.args.turn found.state.now found.message.now;
      own = own_turn c.args.grain.now _ c.args.turn found.state.now found.message.now found.at_close c.in-Some.ensures.found;
      plan_is = c.in_ok-planned.ensures.plan;
    }
