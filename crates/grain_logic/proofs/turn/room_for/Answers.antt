use Rattle.grain_logic.proofs.Fits.{state_fits}
use Rattle.grain_logic.proofs.turn.room_for.Goals as goal

pub returns : goal.returns
returns c = state_fits c.args.state.now c.bytes-bytes.result.now c.bytes-bytes.ensures.spelled
