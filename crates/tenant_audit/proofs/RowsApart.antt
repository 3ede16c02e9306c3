-- The least grain at which two lists of rows differ, by where they part.
use Rattle.silo_model.proofs.Common.{[], ◌++◌, ◌∙◌, ◌∷◌, ◌≡◌, ◌≢◌, AllByRecursion, Bool, Grain, Less, List, None, Ordering, Row, Rows, Some, ap, append-nil, cond, eq_by_cmp, false, grain_cmp, grain_cmp_exact, grain_cmp_total, none-some, refl, same_Some, sym, tied_itself, true}
use Rattle.std.specs.List.Sorted.{IsStrictlySortedBy}
use Rattle.std.specs.Map.{keys_of}
use Rattle.std.specs.declared.cmp.Ordering.TheVariants.{Equal, Greater}
use Rattle.std.specs.Ordering.{is_eq, is_lt, ordering_reverse}
use Rattle.std.specs.FinMap as map
use Rattle.std.specs.FinMap.{find}
use Rattle.grain_storage.specs.Memory.{rows_of}
use Rattle.audit_model.specs.Difference.{RowsDifferAt}
use Rattle.tenant_audit.specs.inside.Comparison.{lesser_of}

abbrev pub Entries : Type 0
Entries = List (Grain × Row)

abbrev Below : Grain → Entries → Type 0
Below g es = AllByRecursion (λ k. grain_cmp g k ≡ Less) (keys_of es)

abbrev pub Sorted : Entries → Type 0
Sorted es = IsStrictlySortedBy grain_cmp (keys_of es)

less_greater : Less ≡ Greater → ⊥
less_greater e = absurd cc

-- ---- what is found

untied : (g k : Grain) → grain_cmp g k ≡ Less → eq_by_cmp grain_cmp g k ≡ false
untied g k e = ap is_eq e

untied_above : (g k : Grain) → grain_cmp k g ≡ Less → eq_by_cmp grain_cmp g k ≡ false
untied_above g k e = ap is_eq (grain_cmp_total.antisymm g k ∙ ap ordering_reverse e)

tied : (g : Grain) → eq_by_cmp grain_cmp g g ≡ true
tied g = ap is_eq (tied_itself grain_cmp_total g)

find_below : (g : Grain) (es : Entries) → Below g es → find grain_cmp g es ≡ None
find_below g [] all = refl
find_below g (e ∷ es) all = ap (λ b. cond b (Some e.1) (find grain_cmp g es)) (untied g e.0 all.0) ∙ find_below g es all.1

find_first : (g : Grain) (row : Row) (es : Entries) → find grain_cmp g ((g, row) ∷ es) ≡ Some row
find_first g row es = ap (λ b. cond b (Some row) (find grain_cmp g es)) (tied g)

-- behind the same entries, what is found is the same where it is
find_behind : (g : Grain) (c l r : Entries) → find grain_cmp g l ≡ find grain_cmp g r → find grain_cmp g (c ++ l) ≡ find grain_cmp g (c ++ r)
find_behind g [] l r same = same
find_behind g (e ∷ c) l r same = ap (cond (eq_by_cmp grain_cmp g e.0) (Some e.1)) (find_behind g c l r same)

find_past : (g : Grain) (c l : Entries) → find grain_cmp g c ≡ None → find grain_cmp g (c ++ l) ≡ find grain_cmp g l
find_past g [] l none = refl
find_past g (e ∷ c) l none = by_tie (eq_by_cmp grain_cmp g e.0) none (find_past g c l)
  where
    by_tie : (b : Bool) → cond b (Some e.1) (find grain_cmp g c) ≡ None → (find grain_cmp g c ≡ None → find grain_cmp g (c ++ l) ≡ find grain_cmp g l) → cond b (Some e.1) (find grain_cmp g (c ++ l)) ≡ find grain_cmp g l
    by_tie true h rest = absurd (none-some e.1 (sym h))
    by_tie false h rest = rest h

-- ---- entries that ascend

below_before : (k : Grain) (c l : Entries) (e : Grain × Row) → Below k (c ++ e ∷ l) → grain_cmp k e.0 ≡ Less
below_before k [] l e all = all.0
below_before k (x ∷ c) l e all = below_before k c l e all.1

-- none of those before an entry is of its grain
not_before : (c l : Entries) (e : Grain × Row) → Sorted (c ++ e ∷ l) → find grain_cmp e.0 c ≡ None
unfolding IsStrictlySortedBy
not_before [] l e sorted = refl
not_before (x ∷ c) l e sorted =
    ap (λ b. cond b (Some x.1) (find grain_cmp e.0 c)) (untied_above e.0 x.0 (below_before x.0 c l e sorted.0)) ∙ not_before c l e sorted.1

-- those after it are above it
after_it : (c l : Entries) (e : Grain × Row) → Sorted (c ++ e ∷ l) → Below e.0 l
unfolding IsStrictlySortedBy
after_it [] l e sorted = sorted.0
after_it (x ∷ c) l e sorted = after_it c l e sorted.1

below_all : (g h : Grain) (es : Entries) → grain_cmp g h ≡ Less → Below h es → Below g es
below_all g h [] under all = tt
below_all g h (e ∷ es) under all = (grain_cmp_total.trans g h e.0 under all.0, below_all g h es under all.1)

none_below : (k g : Grain) (row : Row) (es : Entries) → grain_cmp k g ≡ Less → Below g es → find grain_cmp k ((g, row) ∷ es) ≡ None
none_below k g row es under all = find_below k ((g, row) ∷ es) (under, below_all k g es under all)

-- ---- where they part

module _ (rows : Rows) (c l r : Entries) (listed : map.entries rows ≡ c ++ r) where
  recorded : (g : Grain) → map.get (rows_of (c ++ l)) g ≡ find grain_cmp g (c ++ l)
  recorded g = map.get-from_entries grain_cmp_total (c ++ l) g

  own : (g : Grain) → map.get rows g ≡ find grain_cmp g (c ++ r)
  own g = map.get-entries rows g ∙ ap (find grain_cmp g) listed

  -- the grain is the first of which what is left says other things
  parts_at : (g : Grain) → find grain_cmp g c ≡ None → find grain_cmp g l ≢ find grain_cmp g r → ((k : Grain) → grain_cmp k g ≡ Less → find grain_cmp k l ≡ find grain_cmp k r) → RowsDifferAt (rows_of (c ++ l)) rows g
  parts_at g none apart same = record {
    apart = λ e. apart (sym (recorded g ∙ find_past g c l none) ∙ e ∙ own g ∙ find_past g c r none);
    least = λ k under. recorded k ∙ find_behind k c l r (same k under) ∙ sym (own k);
  }

-- only what was recorded goes on
pub only_recorded : (rows : Rows) (c l : Entries) (e : Grain × Row) → map.entries rows ≡ c → Sorted (c ++ e ∷ l) → RowsDifferAt (rows_of (c ++ e ∷ l)) rows e.0
only_recorded rows c l e listed sorted =
    parts_at rows c (e ∷ l) [] (listed ∙ sym (append-nil c)) e.0 (not_before c l e sorted) (λ same. none-some e.1 (sym same ∙ find_first e.0 e.1 l)) (λ k under. none_below k e.0 e.1 l under (after_it c l e sorted))

-- only the machine's goes on
pub only_own : (rows : Rows) (c r : Entries) (e : Grain × Row) → map.entries rows ≡ c ++ e ∷ r → Sorted (c ++ e ∷ r) → RowsDifferAt (rows_of (c ++ [])) rows e.0
only_own rows c r e listed sorted =
    parts_at rows c [] (e ∷ r) listed e.0 (not_before c r e sorted) (λ same. none-some e.1 (same ∙ find_first e.0 e.1 r)) (λ k under. sym (none_below k e.0 e.1 r under (after_it c r e sorted)))

-- both go on, and not alike
pub both_part : (rows : Rows) (c l r : Entries) (e f : Grain × Row) → map.entries rows ≡ c ++ f ∷ r → Sorted (c ++ e ∷ l) → Sorted (c ++ f ∷ r) → ((e.0 ≡ f.0) × (e.1 ≡ f.1) → ⊥) → RowsDifferAt (rows_of (c ++ e ∷ l)) rows (lesser_of e.0 f.0)
both_part rows c l r e f listed sorted sorted_too unlike = by_order (grain_cmp e.0 f.0) refl
  where
    below_e : Below e.0 l
    below_e = after_it c l e sorted

    below_f : Below f.0 r
    below_f = after_it c r f sorted_too

    by_order : (o : Ordering) → grain_cmp e.0 f.0 ≡ o → RowsDifferAt (rows_of (c ++ e ∷ l)) rows (cond (is_lt o) e.0 f.0)
    by_order Less is =
        parts_at rows c (e ∷ l) (f ∷ r) listed e.0 (not_before c l e sorted)
        (λ same. none-some e.1 (sym (none_below e.0 f.0 f.1 r is below_f) ∙ sym same ∙ find_first e.0 e.1 l))
        (λ k under. none_below k e.0 e.1 l under below_e ∙ sym (none_below k f.0 f.1 r (grain_cmp_total.trans k e.0 f.0 under is) below_f))
    by_order Equal is =
        let one : e.0 ≡ f.0 = grain_cmp_exact e.0 f.0 is in
        parts_at rows c (e ∷ l) (f ∷ r) listed f.0 (not_before c r f sorted_too)
        (λ same. unlike (one, same_Some e.1 f.1 (sym (ap (λ g. find grain_cmp g (e ∷ l)) (sym one) ∙ find_first e.0 e.1 l) ∙ same ∙ find_first f.0 f.1 r)))
        (λ k under. none_below k e.0 e.1 l (ap (grain_cmp k) one ∙ under) below_e ∙ sym (none_below k f.0 f.1 r under below_f))
    by_order Greater is =
        let under_e : grain_cmp f.0 e.0 ≡ Less = grain_cmp_total.antisymm f.0 e.0 ∙ ap ordering_reverse is in
        parts_at rows c (e ∷ l) (f ∷ r) listed f.0 (not_before c r f sorted_too)
        (λ same. none-some f.1 (sym (none_below f.0 e.0 e.1 l under_e below_e) ∙ same ∙ find_first f.0 f.1 r))
        (λ k under. none_below k e.0 e.1 l (grain_cmp_total.trans k f.0 e.0 under under_e) below_e ∙ sym (none_below k f.0 f.1 r under below_f))
