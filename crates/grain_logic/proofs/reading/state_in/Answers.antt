use Rattle.std.proofs.lemmas.Result.{IfOk-weaker}
use Rattle.turn_arena.specs.NodeValue.{node_value}
use Rattle.grain_logic.proofs.Fits.{state_fits}
use Rattle.grain_logic.proofs.reading.state_in.Goals as goal

pub returns-clause-fits : goal.returns-clause-fits
returns-clause-fits c = IfOk-weaker c.formed_in.result _ _ (λ node is. state_fits (node_value node) _ is) c.formed_in.ensures.spelled
