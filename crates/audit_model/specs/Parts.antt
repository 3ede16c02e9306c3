-- What a journal has of each tenant, and the tenants of whom it has something.
use Rattle.std.specs.Prelude.{◌≡◌, ℕ, Bool, false, not, List, ◌++◌, Option, Some, None, filter, flat_map, map as map_list, option_to_list}
use Rattle.std.specs.List.{list_any}
use Rattle.std.specs.FinMap as map
use Rattle.grain_id.specs.Names.{Grain, text_cmp, same_text}
use Rattle.tenant_gate.specs.Table.{names_of}
use Rattle.grain_storage.specs.declared.row.Row.{Row}
use Rattle.silo_event.specs.Owner.{owner_of, tenant_of}
use Rattle.silo_event.specs.declared.reply.Reply.{Reply}
use Rattle.silo_event.specs.declared.step.Step.{Step}
use Rattle.silo_model.specs.Opening.{Setup, new_setup}
use Rattle.silo_model.specs.Run.{restricted_to}
use Rattle.silo_model.specs.Whole.{Whole, is_of}
use Rattle.journal_text.specs.RecordedReply.{recorded_of}
use Rattle.journal_text.specs.Text.{History}
use Rattle.journal_text.specs.declared.recorded.RecordedReply.{RecordedReply}

-- ---- the silo of a journal

-- the journal's table and ages, no rows, and nothing kept: a journal is of a silo that opened with none
abbrev pub setup_of : History → Setup
setup_of journal = new_setup journal.tenants journal.age journal.ages map.empty

-- replies as a journal records them
abbrev pub all_recorded : List Reply → List RecordedReply
all_recorded replies = map_list recorded_of replies

-- The journal records the replies and the rows that a silo holds.
pub record Records (journal : History) (w : Whole) : Type 0 where
  pub replies : journal.replies ≡ all_recorded w.replies
  pub rows : journal.rows ≡ map.entries w.rows

-- ---- one tenant's

-- the steps that concern the tenant
abbrev pub steps_for : List ℕ → History → List Step
steps_for tenant journal = restricted_to tenant journal.steps

-- the owner of a step, if it has one, is the tenant
abbrev pub is_owned_by : List ℕ → Option (List ℕ) → Bool
is_owned_by tenant None = false
is_owned_by tenant (Some owner) = same_text owner tenant

-- the steps that are the tenant's own, without nobody's
abbrev pub own_steps : List ℕ → History → List Step
own_steps tenant journal = filter (λ s. is_owned_by tenant (owner_of s)) journal.steps

-- the recorded reply belongs to the tenant
abbrev pub is_told : List ℕ → RecordedReply → Bool
is_told tenant reply = same_text (tenant_of reply.recipient) tenant

-- the recorded replies that belong to the tenant
abbrev pub replies_for : List ℕ → History → List RecordedReply
replies_for tenant journal = filter (is_told tenant) journal.replies

-- the recorded rows of the tenant's grains
abbrev pub rows_for : List ℕ → History → List (Grain × Row)
rows_for tenant journal = filter (λ row. is_of tenant row.0) journal.rows

-- ---- the tenants of a journal

-- whose the steps, the replies and the rows are
abbrev pub owners_in : History → List (List ℕ)
owners_in journal =
    flat_map (λ s. option_to_list (owner_of s)) journal.steps
    ++ map_list (λ (reply : RecordedReply). tenant_of reply.recipient) journal.replies
    ++ map_list (λ (row : Grain × Row). row.0.tenant) journal.rows

-- the tenant is one of these
abbrev pub is_listed : List (List ℕ) → List ℕ → Bool
is_listed tenants tenant = list_any (same_text tenant) tenants

-- each once, ascending
abbrev pub ascending : List (List ℕ) → List (List ℕ)
ascending tenants = map.keys (map.from_entries {R = text_cmp} (map_list (λ t. (t, tt {0})) tenants))

-- those owners whom the table doesn't have, ascending
abbrev pub others_in : History → List (List ℕ)
others_in journal = filter (λ t. not (is_listed (names_of journal.tenants) t)) (ascending (owners_in journal))

-- the table's in its order, and then the others
abbrev pub tenants_in : History → List (List ℕ)
tenants_in journal = names_of journal.tenants ++ others_in journal
