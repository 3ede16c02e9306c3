-- Recorded rows beside a machine's, as far as both were walked.
use Rattle.silo_model.proofs.Common.{[], ◌++◌, ◌∙◌, ◌∷◌, ◌≡◌, Grain, List, None, Row, Rows, ap, append-nil, grain_cmp, is_of, subst, sym, true}
use Rattle.std.specs.FinMap as map
use Rattle.std.specs.List.Sorted.{IsStrictlySortedBy}
use Rattle.std.specs.Map.{keys_of}
use Rattle.std.proofs.lemmas.List.Kept.{IsStrictlySortedBy-filter}
use Rattle.finite_maps.proofs.Ascending.{keys_ascend}
use Rattle.grain_storage.specs.Memory.{rows_of}
use Rattle.silo_core.proofs.Opened.{rows_again}
use Rattle.journal_text.specs.Rules.{are_ascending}
use Rattle.journal_text.specs.Text.{History}
use Rattle.audit_model.specs.Difference.{RowsDifferAt}
use Rattle.audit_model.specs.Parts.{rows_for}
use Rattle.finite_maps.proofs.Parts.{keys_of-filter}
use Rattle.audit_model.proofs.Reports.{ascend}
use Rattle.tenant_audit.specs.inside.Comparison.{lesser_of}
use Rattle.tenant_audit.proofs.RowsApart.{Entries, Sorted, only_recorded, only_own, both_part}
use Rattle.tenant_audit.proofs.Walked.{Walked, all_walked}

-- a tenant's rows ascend as all of them do
pub own_ascend : (tenant : List _) (journal : History) (rows : Entries) → are_ascending None journal.rows ≡ true → rows ≡ rows_for tenant journal → Sorted rows
own_ascend tenant journal rows ascending its =
    subst Sorted (sym its)
    (subst (IsStrictlySortedBy grain_cmp) (sym (keys_of-filter (is_of tenant) journal.rows)) (IsStrictlySortedBy-filter grain_cmp (is_of tenant) (keys_of journal.rows) (ascend journal.rows ascending)))

module _ (recorded own : Entries) (rows : Rows) (sorted : Sorted recorded) (listed : own ≡ map.entries rows) (left right : Entries) (walked : Walked recorded own left right) where
  abbrev common : Entries
  common = walked.common

  -- the machine's rows, by what is left of them
  rows_are : (rest : Entries) → right ≡ rest → map.entries rows ≡ common ++ rest
  rows_are rest is = sym listed ∙ walked.right_parts ∙ ap (λ es. common ++ es) is

  own_sorted : (rest : Entries) → right ≡ rest → Sorted (common ++ rest)
  own_sorted rest is = subst Sorted (rows_are rest is) (keys_ascend grain_cmp rows)

  recorded_are : (rest : Entries) → left ≡ rest → recorded ≡ common ++ rest
  recorded_are rest is = walked.left_parts ∙ ap (λ es. common ++ es) is

  module _ (e : Grain × Row) (later : Entries) (first : left ≡ e ∷ later) where
    -- the machine has no more
    pub row_over : right ≡ [] → RowsDifferAt (rows_of recorded) rows e.0
    row_over none =
        subst (λ (es : Entries). RowsDifferAt (rows_of es) rows e.0) (sym (recorded_are (e ∷ later) first))
        (only_recorded rows common later e (rows_are [] none ∙ append-nil common) (subst Sorted (recorded_are (e ∷ later) first) sorted))

    -- both have more, and not alike
    pub row_apart : (f : Grain × Row) (others : Entries) → right ≡ f ∷ others → (e ≡ f → ⊥) → RowsDifferAt (rows_of recorded) rows (lesser_of e.0 f.0)
    row_apart f others next unlike =
        subst (λ (es : Entries). RowsDifferAt (rows_of es) rows (lesser_of e.0 f.0)) (sym (recorded_are (e ∷ later) first))
        (both_part rows common later others e f (rows_are (f ∷ others) next) (subst Sorted (recorded_are (e ∷ later) first) sorted) (own_sorted (f ∷ others) next) (λ same. unlike (λ i. (same.0 i, same.1 i))))

  -- the machine has one more
  pub row_left : (f : Grain × Row) (others : Entries) → left ≡ [] → right ≡ f ∷ others → RowsDifferAt (rows_of recorded) rows f.0
  row_left f others none next =
      subst (λ (es : Entries). RowsDifferAt (rows_of es) rows f.0) (sym (recorded_are [] none)) (only_own rows common others f (rows_are (f ∷ others) next) (own_sorted (f ∷ others) next))

  pub rows_same : left ≡ [] → right ≡ [] → rows_of recorded ≡ rows
  rows_same none none_too = ap rows_of (all_walked recorded own left right walked none none_too ∙ listed) ∙ rows_again rows
