use Rattle.std.proofs.lemmas.Result.{IfOk-weaker}
use Rattle.turn_arena.specs.NodeValue.{node_value}
use Rattle.grain_logic.proofs.Fits.{message_fits}
use Rattle.grain_logic.proofs.reading.asked_in.Goals as goal

pub returns-clause-fits : goal.returns-clause-fits
returns-clause-fits c = IfOk-weaker c.formed_call_in.result _ _ (λ found is. message_fits found.0.now (node_value found.1) _ is) c.formed_call_in.ensures.spelled
