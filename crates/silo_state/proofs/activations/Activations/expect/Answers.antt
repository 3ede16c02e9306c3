use Rattle.std.proofs.Common.{ap, sym, ◌∙◌, true≢false}
use Rattle.idle_collector.specs.Notes.{Collection}
use Rattle.silo_state.proofs.activations.Activations.expect.Goals as goal

-- a request waits
pub returns-then-not-idle_after-clause-room : goal.returns-then-not-idle_after-clause-room
returns-then-not-idle_after-clause-room g c e found none = absurd (true≢false (sym none ∙ sym (c.requires e found) ∙ c.if-not-idle_after.true))

pub returns-clause-room : goal.returns-clause-room
returns-clause-room g c e found none = ap (λ (k : Collection). k.expected) c.in_ok-expect.ensures.expected
