use Rattle.std.proofs.Common.{take}
use Rattle.silo_state.specs.KeptParts.{AllKnown}
use Rattle.silo_state.proofs.state.resumed.knows_all.Given as goal

-- the kinds of the grains so far are known
abbrev pub invariant-grains : goal.invariant-grains
invariant-grains g l = AllKnown g.L.GrainLogic.logic (take l.grain-index l.grains)
