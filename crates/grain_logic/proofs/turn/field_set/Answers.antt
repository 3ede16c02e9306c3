use Rattle.std.proofs.Common.{sym, subst}
use Rattle.turn_arena.specs.NodeValue.{node_value}
use Rattle.grain_logic.specs.Shortcuts.{IsShortcut}
use Rattle.grain_logic.proofs.turn.field_set.Goals as goal

pub returns-clause-sets : goal.returns-clause-sets
returns-clause-sets g c = λ state.
    let sets = subst (IsShortcut (g.L.GrainLogic.logic.plan c.args.kind.now c.args.method.now)) c.in-Sets.is c.shortcut.ensures in
    sets state (node_value c.args.argument) (c.in_ok-name.name.now, node_value c.in_ok-name.value) (sym c.in_ok-name.ensures)
