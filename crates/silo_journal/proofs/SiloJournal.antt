-- The journal of a silo has no difference, and its numbers, its tables and its rows are those of a journal.
use Rattle.silo_model.proofs.Common.{[], ◌∙◌, ◌∷◌, ◌≡◌, AllByRecursion, Grain, LeadsTo, Less, List, Logic, None, Option, Row, Rows, Setup, Some, and_from, ap, grain_cmp, refl, subst, sym, true, ℕ}
use Rattle.std.specs.Prelude.{All}
use Rattle.std.specs.FinMap as map
use Rattle.std.specs.List.Sorted.{IsStrictlySortedBy}
use Rattle.std.specs.Map.{keys_of}
use Rattle.std.specs.Ordering.{is_lt}
use Rattle.finite_maps.proofs.Ascending.{keys_ascend}
use Rattle.tenant_gate.specs.Age.{IsAge}
use Rattle.idle_collector.specs.Ages.{IsTable as AreAges}
use Rattle.silo_core.specs.History as silo
use Rattle.silo_core.specs.Reopening.{OpensEmpty}
use Rattle.silo_core.specs.inside.Shown.{rows_in}
use Rattle.silo_core.proofs.Opened.{rows_again}
use Rattle.journal_text.specs.Rules.{AsksInRange, IsInRange, IsKinds, IsTable, are_ascending, comes_after}
use Rattle.audit_model.specs.Parts.{setup_of}
use Rattle.audit_model.specs.Report.{IsFirstDifference}
use Rattle.audit_model.proofs.Numbers.{numbers_in_range}
use Rattle.audit_model.proofs.Reports.{no_difference}
use Rattle.silo_journal.specs.SiloJournal.{journal_of}

no_rows : (rows : Rows) → map.entries rows ≡ [] → rows ≡ map.empty
no_rows rows none = sym (rows_again rows) ∙ ap rows_in none

opened_so : (kinds : ℕ) (h : silo.History) → OpensEmpty h.setup → h.setup ≡ setup_of (journal_of kinds h)
opened_so kinds h empty = λ i. record { tenants = h.setup.tenants; age = h.setup.age; ages = h.setup.ages; rows = no_rows h.setup.rows empty.no_rows i; kept = empty.nothing i }

leads_so : (logic : Logic) (kinds : ℕ) (h : silo.History) → OpensEmpty h.setup → LeadsTo logic h.setup h.journal h.whole
    → LeadsTo logic (setup_of (journal_of kinds h)) h.journal h.whole
leads_so logic kinds h empty leads = subst (λ (s : Setup). LeadsTo logic s h.journal h.whole) (opened_so kinds h empty) leads

-- what the silo's logic did is what is recorded
pub own_journal : (logic : Logic) (kinds : ℕ) (h : silo.History) (tenant : List ℕ) → OpensEmpty h.setup → LeadsTo logic h.setup h.journal h.whole → IsFirstDifference logic (journal_of kinds h) tenant None
own_journal logic kinds h tenant empty leads =
    no_difference logic (journal_of kinds h) h.whole tenant (leads_so logic kinds h empty leads) (record { replies = refl; rows = refl })

-- ---- what no type keeps

rest_ascends : (last : Grain) (rows : List (Grain × Row)) → AllByRecursion (λ g. grain_cmp last g ≡ Less) (keys_of rows)
    → IsStrictlySortedBy grain_cmp (keys_of rows) → are_ascending (Some last) rows ≡ true
unfolding IsStrictlySortedBy
rest_ascends last [] above sorted = refl
rest_ascends last (row ∷ rows) above sorted =
    and_from (comes_after (Some last) row.0) (are_ascending (Some row.0) rows) (ap is_lt above.0) (rest_ascends row.0 rows sorted.0 sorted.1)

all_ascend : (rows : List (Grain × Row)) → IsStrictlySortedBy grain_cmp (keys_of rows) → are_ascending None rows ≡ true
unfolding IsStrictlySortedBy
all_ascend [] sorted = refl
all_ascend (row ∷ rows) sorted = rest_ascends row.0 rows sorted.0 sorted.1

pub in_range : (logic : Logic) (kinds : ℕ) (h : silo.History) → OpensEmpty h.setup → LeadsTo logic h.setup h.journal h.whole
    → IsKinds kinds → IsAge h.setup.age → AreAges h.setup.ages → IsTable h.setup.tenants → All AsksInRange h.journal → IsInRange (journal_of kinds h)
in_range logic kinds h empty leads named aged ages table asked = record {
  kinds = named;
  age = aged;
  ages = ages;
  is_table = table;
  numbers = numbers_in_range logic (journal_of kinds h) h.whole (leads_so logic kinds h empty leads) (record { replies = refl; rows = refl }) asked;
  ascending = all_ascend (map.entries h.whole.rows) (keys_ascend grain_cmp h.whole.rows);
}
