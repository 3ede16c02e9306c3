use Rattle.turn_arena.specs.NodeValue.{node_value}
use Rattle.grain_logic.proofs.Nodes.{nodes_fit}
use Rattle.grain_logic.proofs.turn.plan_in.Goals as goal

pub written-requires : goal.written-requires
written-requires g c =
    let state = node_value c.in_ok-read.read in
    let keeps = g.met.L.GrainLogic.lawful.plans_keep_limits c.kind-kind.result.now c.in_ok-method.method.now state (node_value c.in_ok-method.argument) c.in_ok-read.ensures.fits c.in_ok-method.ensures.fits in
    nodes_fit state c.in_ok-plan.plan _ c.in_ok-plan.ensures keeps
