use Rattle.std.proofs.Common.{List, [], ◌∷◌, ◌++◌, length, ap, sym, ◌∙◌, arith, length-append}
use Rattle.std.specs.Prelude.{map as map_list}
use Rattle.std.proofs.lemmas.List.{map-append}
use Rattle.silo_event.specs.declared.opened_turn.OpenedTurn.{OpenedTurn}
use Rattle.lane_workers.specs.Turns.{Ran, turn_of}
use Rattle.lane_workers.proofs.Batched.{one_ran}
use Rattle.lane_workers.proofs.bodies.run_all.Goals as goal

pub turns-preserved : goal.turns-preserved
turns-preserved g c =
    let had = c.turns.ran.items in
    let left = c.pop_front.new.self.items in
    let turn = c.run.result in
    let grown = c.push_reserved.ensures.items in
    let front = c.in-Some.ensures.items in
    record {
      turns = one_ran had left turn c.in-Some.opened c.push_reserved.new.self.items c.turns.taken.items grown front c.run.ensures ∙ c.turns.invariant.turns;
      room = omega (arith, ap length grown, length-append had (turn ∷ []), ap length front, c.turns.invariant.room, c.push_reserved.ensures.capacity);
    }
