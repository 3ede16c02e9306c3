use Rattle.std.proofs.Common.{◌∙◌, ap}
use Rattle.log_host.specs.Memory.{acts_of}
use Rattle.log_host.proofs.Known.{tells_whole}
use Rattle.log_host.proofs.memory.MemoryLogLogHost.tell.Goals as goal

pub returns-in-Err-clause-err : goal.returns-in-Err-clause-err
returns-in-Err-clause-err g c =
    let noted = ap (λ log. acts_of log.did.items) c.fail-in-Err.ensures ∙ c.in_ok-told-2.ensures.ok in
    tells_whole _ _ _ _ _ noted c.in-Err.ensures.err
