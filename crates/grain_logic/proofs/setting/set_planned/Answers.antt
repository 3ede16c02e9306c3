use Rattle.turn_arena.specs.NodeValue.{node_value}
use Rattle.grain_logic.specs.LawsOfSetting.{put_fits}
use Rattle.grain_logic.proofs.setting.set_planned.Goals as goal

pub put_spelled-requires-clause-formed : goal.put_spelled-requires-clause-formed
put_spelled-requires-clause-formed c = (put_fits c.args.state.now c.args.name.now (node_value c.args.value) c.requires.state_fits c.utf8.name c.requires.value_fits).0

pub put_spelled-requires-clause-shallow : goal.put_spelled-requires-clause-shallow
put_spelled-requires-clause-shallow c = (put_fits c.args.state.now c.args.name.now (node_value c.args.value) c.requires.state_fits c.utf8.name c.requires.value_fits).1
