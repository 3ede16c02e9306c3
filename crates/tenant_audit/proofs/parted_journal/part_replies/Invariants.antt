use Rattle.silo_model.proofs.Common.{◌++◌, ◌≡◌, List, filter, length, ℕ}
use Rattle.audit_model.specs.Parts.{is_told}
use Rattle.tenant_audit.specs.inside.Parted.{held_for, pointees}
use Rattle.tenant_audit.proofs.parted_journal.part_replies.Given as goal

-- what is held, and what is left of the replies, are all of them
abbrev pub invariant-replies : goal.invariant-replies
invariant-replies l = (tenant : List ℕ) → pointees (held_for l.told tenant) ++ filter (is_told tenant) l.rest ≡ filter (is_told tenant) l.fn.replies

abbrev pub decreases-replies : goal.decreases-replies
decreases-replies l = length l.rest
