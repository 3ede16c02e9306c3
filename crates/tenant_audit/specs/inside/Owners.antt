-- Of whom a journal has something, as they are found.
use Rattle.std.specs.Prelude.{◌≡◌, ℕ, ◌||◌, List, flat_map, map, option_to_list}
use Rattle.grain_id.specs.Names.{Grain}
use Rattle.grain_storage.specs.declared.row.Row.{Row}
use Rattle.silo_event.specs.Owner.{owner_of, tenant_of}
use Rattle.silo_event.specs.declared.step.Step.{Step}
use Rattle.journal_text.specs.declared.recorded.RecordedReply.{RecordedReply}
use Rattle.audit_model.specs.Parts.{is_listed}

-- The names are those of before and these.
abbrev pub Gains : List (List ℕ) → List (List ℕ) → List (List ℕ) → Type 0
Gains old more new = (name : List ℕ) → is_listed new name ≡ (is_listed old name || is_listed more name)

-- whose the steps are
abbrev pub step_owners : List Step → List (List ℕ)
step_owners steps = flat_map (λ s. option_to_list (owner_of s)) steps

-- whose the replies are
abbrev pub reply_owners : List RecordedReply → List (List ℕ)
reply_owners replies = map (λ (reply : RecordedReply). tenant_of reply.recipient) replies

-- whose the rows are
abbrev pub row_owners : List (Grain × Row) → List (List ℕ)
row_owners rows = map (λ (row : Grain × Row). row.0.tenant) rows
