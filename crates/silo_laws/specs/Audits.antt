-- What an audit finds, how it counts, and whom it reports first.
use Rattle.std.specs.Prelude.{◌++◌, ◌+◌, ◌∷◌, ◌≡◌, ◌≢◌, All, Bool, List, None, Ok, Some, ℕ, ℤ, [], count_by, is_some, length, not, take}
use Rattle.std.specs.Prelude.{true}
use Rattle.grain_id.specs.Names.{Client, Grain}
use Rattle.request_codec.specs.Tree.{integer}
use Rattle.tenant_gate.specs.Table.{names_of}
use Rattle.silo_event.specs.Owner.{owner_of}
use Rattle.silo_event.specs.declared.reply.Party.TheVariants as party
use Rattle.silo_event.specs.declared.step.Step.{Step}
use Rattle.grain_logic.specs.Adding.{fits_64}
use Rattle.grain_logic.specs.Counters.{counters}
use Rattle.grain_logic.specs.Logic.{Logic}
use Rattle.silo_model.specs.FirstCall.{first_call}
use Rattle.silo_model.specs.Journal.{LeadsTo}
use Rattle.silo_model.specs.Run.{restricted_to}
use Rattle.silo_model.specs.Whole.{Whole, shown_to, whole_step}
use Rattle.journal_text.specs.Text.{History}
use Rattle.journal_text.specs.declared.recorded.RecordedReply.{RecordedReply}
use Rattle.audit_model.specs.Parts.{all_recorded, own_steps, replies_for, setup_of, tenants_in}
use Rattle.audit_model.specs.Difference.{at_reply, at_step}
use Rattle.audit_model.specs.Report.{IsFirstDifference, IsReport, TenantReport}
use Rattle.silo_laws.specs.Counting.{MayCount}

-- ---- what is found

-- If all steps are done and a tenant's recorded replies are those to it up to one that is another, the audit finds it, by its
-- place counted from 1.
abbrev pub ChangedReplyFound : Type 0
ChangedReplyFound =
    (logic : Logic) (journal : History) (w : Whole) (tenant : List ℕ) (before left right : List RecordedReply)
    (recorded given : RecordedReply)
    → LeadsTo logic (setup_of journal) journal.steps w
    → replies_for tenant journal ≡ before ++ recorded ∷ left → all_recorded (shown_to tenant w).replies ≡ before ++ given ∷ right
    → recorded ≢ given
    → IsFirstDifference logic journal tenant (Some (at_reply (length before + 1)))

-- If the first steps are done and the next isn't possible then, the audit finds it for its owner, by its place among those
-- that concern this tenant, counted from 1.
abbrev pub StopFound : Type 0
StopFound =
    (logic : Logic) (journal : History) (w : Whole) (tenant : List ℕ) (before after : List Step) (step : Step)
    → LeadsTo logic (setup_of journal) before w → whole_step logic w step ≡ None → journal.steps ≡ before ++ step ∷ after
    → owner_of step ≡ Some tenant
    → IsFirstDifference logic journal tenant (Some (at_step (length (restricted_to tenant before) + 1)))

-- A new counter's first call with another number recorded as its reply: the audit says that the first reply differs.
abbrev pub FirstReplyChecked : Type 0
FirstReplyChecked = (journal : History) (caller : Client) (id : ℕ) (grain : Grain) (n other : ℤ) → MayCount (setup_of journal) caller grain
    → fits_64 n ≡ true → journal.steps ≡ first_call caller id grain n
    → journal.replies ≡ record { recipient = party.Client caller id; outcome = Ok (integer other) } ∷ [] → other ≢ n
    → IsFirstDifference counters journal caller.tenant (Some (at_reply 1))

-- ---- how it counts, and in which order

-- nobody's: the clock or a sweep
abbrev pub is_nobodys : Step → Bool
is_nobodys s = not (is_some (owner_of s))

-- A report counts a tenant's own steps, and nobody's.
abbrev pub StepsCounted : Type 0
StepsCounted = (logic : Logic) (journal : History) (reports : List TenantReport) → IsReport logic journal reports
    → All (λ (r : TenantReport). r.steps ≡ length (own_steps r.tenant journal) + count_by is_nobodys journal.steps) reports

-- The table's tenants come first, in the table's order.
abbrev pub TableComesFirst : Type 0
TableComesFirst = (journal : History) → take (length journal.tenants) (tenants_in journal) ≡ names_of journal.tenants
