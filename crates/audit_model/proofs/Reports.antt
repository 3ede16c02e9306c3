-- A journal has one report; that of a silo has no difference; and what a report without difference says.
use Rattle.silo_model.proofs.Common.{◌∙◌, ◌∷◌, ◌≡◌, AllByRecursion, Grain, Less, List, Logic, Machine, None, Reply, Row, Some, Step, []}
use Rattle.silo_model.proofs.Common.{all_weaker, and_parts, ap, cond, filter, grain_cmp, grain_cmp_exact, grain_cmp_total, is_of, is_to}
use Rattle.silo_model.proofs.Common.{length, machine_all_done, machine_run, machine_step, map_list, refl, same_Some, same_head, same_tail}
use Rattle.silo_model.proofs.Common.{shown_to, some_from_and_then, start_of, subst, sym, true, unwrap_or, ℕ}
use Rattle.std.specs.List.Sorted.{IsStrictlySortedBy}
use Rattle.std.specs.Map.{keys_of}
use Rattle.std.specs.FinMap as map
use Rattle.std.proofs.lemmas.List.Elements.{recursion_from_All}
use Rattle.std.proofs.lemmas.List.Kept.{IsStrictlySortedBy-filter}
use Rattle.finite_maps.proofs.Ascending.{entries-ascending, less_from_is_lt}
use Rattle.finite_maps.proofs.Parts.{from_entries-filter, keys_of-filter}
use Rattle.grain_storage.specs.Memory.{rows_of}
use Rattle.silo_model.proofs.Journals.{parts_lead}
use Rattle.journal_text.specs.RecordedReply.{recorded_of}
use Rattle.journal_text.specs.Rules.{are_ascending, comes_after}
use Rattle.journal_text.specs.Text.{History}
use Rattle.audit_model.specs.Parts.{all_recorded, is_told, replies_for, rows_for, setup_of, steps_for}
use Rattle.audit_model.specs.Report.{IsFirstDifference, IsTenantReport, NoDifference, NoneIsMachines, OneReport, TenantReport}
use Rattle.audit_model.proofs.Differences.{one_difference}
use Rattle.silo_model.proofs.Tests.{on_test}

-- ---- a journal has one report

module _ (logic : Logic) (journal : History) where
  same_report : (r o : TenantReport) → r.tenant ≡ o.tenant → IsTenantReport logic journal r → IsTenantReport logic journal o → r ≡ o
  same_report r o same is others = λ i. record {
    tenant = same i;
    steps = (is.steps ∙ ap (λ t. length (steps_for t journal)) same ∙ sym others.steps) i;
    replies = (is.replies ∙ ap (λ t. length (replies_for t journal)) same ∙ sym others.replies) i;
    rows = (is.rows ∙ ap (λ t. length (rows_for t journal)) same ∙ sym others.rows) i;
    difference = one_difference logic (start_of (setup_of journal) r.tenant) (steps_for r.tenant journal) (replies_for r.tenant journal) (rows_of (rows_for r.tenant journal)) r.difference o.difference
        is.difference
        (subst (λ t. IsFirstDifference logic journal t o.difference) (sym same) others.difference)
        i;
  }

  same_reports : (reports others : List TenantReport) → map_list (λ (r : TenantReport). r.tenant) reports ≡ map_list (λ (r : TenantReport). r.tenant) others
      → AllByRecursion (IsTenantReport logic journal) reports → AllByRecursion (IsTenantReport logic journal) others → reports ≡ others
  same_reports [] [] same each each_too = refl
  same_reports [] (o ∷ others) same each each_too = absurd cc
  same_reports (r ∷ reports) [] same each each_too = absurd cc
  same_reports (r ∷ reports) (o ∷ others) same each each_too =
      λ i. same_report r o (same_head r.tenant o.tenant _ _ same) each.0 each_too.0 i ∷ same_reports reports others (same_tail r.tenant o.tenant _ _ same) each.1 each_too.1 i

pub one_report : OneReport
one_report logic journal reports others is is_too =
    same_reports logic journal reports others (is.tenants ∙ sym is_too.tenants) (recursion_from_All _ reports is.each) (recursion_from_All _ others is_too.each)

-- ---- the journal of a silo

-- the replies to a tenant that are recorded are those to it, recorded
told_recorded : (tenant : List ℕ) (replies : List Reply) → filter (is_told tenant) (all_recorded replies) ≡ all_recorded (filter (is_to tenant) replies)
told_recorded tenant [] = refl
told_recorded tenant (r ∷ replies) =
    let told = filter (is_told tenant) (all_recorded replies) in
    let own = filter (is_to tenant) replies in
    on_test (λ b. cond b (recorded_of r ∷ told) told ≡ all_recorded (cond b (r ∷ own) own)) (is_to tenant r)
    (λ _. ap (λ rs. recorded_of r ∷ rs) (told_recorded tenant replies)) (λ _. told_recorded tenant replies)

pub no_difference : NoDifference
unfolding shown_to
no_difference logic journal w tenant leads records = (
  shown_to tenant w,
  parts_lead logic (setup_of journal) journal.steps w tenant leads,
  (
    ap (filter (is_told tenant)) records.replies ∙ told_recorded tenant w.replies,
    ap (λ rows. rows_of (filter (λ (row : Grain × Row). is_of tenant row.0) rows)) records.rows ∙ from_entries-filter grain_cmp_total grain_cmp_exact w.rows (is_of tenant),
  ),
)

-- ---- rows that ascend

ascend_after : (last : Grain) (rows : List (Grain × Row)) → are_ascending (Some last) rows ≡ true → AllByRecursion (λ g. grain_cmp last g ≡ Less) (keys_of rows) × IsStrictlySortedBy grain_cmp (keys_of rows)
unfolding IsStrictlySortedBy
ascend_after last [] e = (tt, tt)
ascend_after last (row ∷ rows) e =
    let parts = and_parts (comes_after (Some last) row.0) (are_ascending (Some row.0) rows) e in
    let rest = ascend_after row.0 rows parts.1 in
    let below = less_from_is_lt (grain_cmp last row.0) parts.0 in
    ((below, all_weaker _ _ (keys_of rows) (λ g above. grain_cmp_total.trans last row.0 g below above) rest.0), rest)

-- each of the rows is above all before it
pub ascend : (rows : List (Grain × Row)) → are_ascending None rows ≡ true → IsStrictlySortedBy grain_cmp (keys_of rows)
unfolding IsStrictlySortedBy
ascend [] e = tt
ascend (row ∷ rows) e = ascend_after row.0 rows e

own_ascend : (tenant : List ℕ) (journal : History) → are_ascending None journal.rows ≡ true → map.entries (rows_of (rows_for tenant journal)) ≡ rows_for tenant journal
own_ascend tenant journal ascending =
    entries-ascending grain_cmp_total grain_cmp_exact (rows_for tenant journal)
    (subst (IsStrictlySortedBy grain_cmp) (sym (keys_of-filter (is_of tenant) journal.rows)) (IsStrictlySortedBy-filter grain_cmp (is_of tenant) (keys_of journal.rows) (ascend journal.rows ascending)))

-- ---- a report without difference

done_run : (logic : Logic) (m end : Machine) (steps : List Step) → machine_all_done logic m steps ≡ Some end → end ≡ machine_run logic m steps
done_run logic m end [] e = sym (same_Some m end e)
done_run logic m end (s ∷ steps) e =
    let next = some_from_and_then (λ x. machine_all_done logic x steps) (machine_step logic m s) end e in
    done_run logic next.0 end steps next.2 ∙ ap (λ o. machine_run logic (unwrap_or o m) steps) (sym next.1)

pub none_is_machines : NoneIsMachines
none_is_machines logic journal tenant ascending none =
    let same = done_run logic (start_of (setup_of journal) tenant) none.0 (steps_for tenant journal) none.1 in
    (none.2.0 ∙ ap (λ (m : Machine). all_recorded m.replies) same, sym (own_ascend tenant journal ascending) ∙ ap map.entries none.2.1 ∙ ap (λ (m : Machine). map.entries m.rows) same)
