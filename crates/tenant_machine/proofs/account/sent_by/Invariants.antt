use Rattle.std.proofs.Common.{◌≡◌, take, map}
use Rattle.grain_logic.specs.Finished.{sent}
use Rattle.silo_model.specs.Turns.{sent_by}
use Rattle.tenant_machine.specs.inside.Sends.{sends_of}
use Rattle.tenant_machine.proofs.account.sent_by.Given as goal

-- the calls so far
abbrev pub invariant-loop-target : goal.invariant-loop-target
invariant-loop-target l = sends_of l.calls.items ≡ sent_by l.source (map sent (take l.target-index l.sends))
