-- An ordered map of activations, seen as a finite map.
use Rattle.silo_model.proofs.Common.{[], ◌∙◌, ◌∷◌, ◌≡◌, Bool, FinMap, Grain, List, None, Option, Some, ap, cond, eq_by_cmp, false, filter, grain_cmp, grain_cmp_exact, grain_cmp_total, if◌then◌else◌, length, not, refl, sym, true, true≢false, ℕ}
use Rattle.std.specs.Cmp.{eq_by_cmp_equiv}
use Rattle.std.specs.Map.{lookup, keys_of}
use Rattle.std.specs.BTreeMap as tree
use Rattle.std.specs.BTreeMap.{BTreeMap, UpdatesBy, IsOrdered}
use Rattle.std.specs.FinMap as map
use Rattle.std.specs.FinMap.{from_entries}
use Rattle.std.proofs.lemmas.Map.Entries.{lookup-filter-values, option_filter}
use Rattle.std.proofs.lemmas.Map.Keys.{IsDistinct-from_sorted}
use Rattle.finite_maps.proofs.Ascending.{len-ascending}
use Rattle.finite_maps.proofs.Entries.{from_entries-insert, from_entries-remove, get-lookup}
use Rattle.finite_maps.proofs.Keys.{keys_by_order, eq_by_cmp-Decides}
use Rattle.finite_maps.specs.Keys.{AreKeys}
use Rattle.activation_directory.specs.declared.activation.Activation.{Activation}
use Rattle.silo_model.specs.Idle.{is_due}
use Rattle.silo_state.specs.Shown.{entry_of}
use Rattle.tenant_machine.specs.inside.Sweeps.{left_of}

abbrev pub Tree : Type 0
Tree = BTreeMap Grain Activation

-- what a map shows
abbrev pub shown : Tree → FinMap grain_cmp Activation
shown m = from_entries m.entries

by_order : AreKeys (eq_by_cmp grain_cmp) grain_cmp
by_order = keys_by_order grain_cmp_total grain_cmp_exact

pub get-shown : (m : Tree) (q : Grain) → map.get (shown m) q ≡ tree.get grain_cmp m q
get-shown m q = get-lookup by_order m.entries q

module _ (m n : Tree) (k : Grain) where
  pub put-shown : (a : Activation) → UpdatesBy grain_cmp (grain_cmp k) m n (Some a) → shown n ≡ map.insert (shown m) k a
  put-shown a u = from_entries-insert by_order m.entries n.entries k a u.0

  pub removed-shown : UpdatesBy grain_cmp (grain_cmp k) m n None → shown n ≡ map.remove (shown m) k
  removed-shown u = from_entries-remove by_order m.entries n.entries k u.0

-- ---- how many there are

pub len-shown : (m : Tree) → IsOrdered grain_cmp m → length m.entries ≡ map.len (shown m)
len-shown m ordered = sym (len-ascending grain_cmp_total grain_cmp_exact m.entries ordered)

-- ---- what a sweep leaves

left_is : (clock age : ℕ) (o : Option Activation) → option_filter (λ a. not (is_due clock age (entry_of a))) o ≡ left_of clock age o
left_is clock age None = refl
left_is clock age (Some a) = by (is_due clock age (entry_of a))
  where
    by : (due : Bool) → cond (not due) (Some a) None ≡ (if due then None else Some a)
    by true = refl
    by false = refl

-- what a filter leaves at a grain, by what it says of that grain
module _ (p : Grain × Activation → Bool) (q : Grain) where
  abbrev there : Grain → Bool
  there = eq_by_cmp grain_cmp q

  either : (tied b c : Bool) (e : Grain × Activation) (fs gs : List (Grain × Activation)) → there e.0 ≡ tied → (tied ≡ true → b ≡ c) → lookup there fs ≡ lookup there gs
      → lookup there (cond b (e ∷ fs) fs) ≡ lookup there (cond c (e ∷ gs) gs)
  either tied true true e fs gs is agree rest = ap (cond (there e.0) (Some e.1)) rest
  either tied false false e fs gs is agree rest = rest
  either true true false e fs gs is agree rest = absurd (true≢false (agree refl))
  either true false true e fs gs is agree rest = absurd (true≢false (sym (agree refl)))
  either false true false e fs gs is agree rest = ap (λ b. cond b (Some e.1) (lookup there fs)) is ∙ rest
  either false false true e fs gs is agree rest = rest ∙ sym (ap (λ b. cond b (Some e.1) (lookup there gs)) is)

  by_value : (es : List (Grain × Activation)) → lookup there (filter p es) ≡ lookup there (filter (λ e. p (q, e.1)) es)
  by_value [] = refl
  by_value (e ∷ es) =
      either (there e.0) (p e) (p (q, e.1)) e (filter p es) (filter (λ x. p (q, x.1)) es) refl
      (λ tied. ap (λ k. p (k, e.1)) (sym ((eq_by_cmp-Decides grain_cmp_total grain_cmp_exact q e.0).0 tied)))
      (by_value es)

pub left-shown : (m n : Tree) (clock : ℕ) (age_of : List ℕ → ℕ) → IsOrdered grain_cmp m → n.entries ≡ filter (λ e. not (is_due clock (age_of e.0.kind) (entry_of e.1))) m.entries → (q : Grain) → map.get (shown n) q ≡ left_of clock (age_of q.kind) (map.get (shown m) q)
left-shown m n clock age_of ordered is q =
    get-shown n q
    ∙ ap (lookup (eq_by_cmp grain_cmp q)) is
    ∙ by_value (λ e. not (is_due clock (age_of e.0.kind) (entry_of e.1))) q m.entries
    ∙ lookup-filter-values (eq_by_cmp_equiv grain_cmp_total) (λ a. not (is_due clock (age_of q.kind) (entry_of a))) q m.entries (IsDistinct-from_sorted grain_cmp (keys_of m.entries) ordered)
    ∙ left_is clock (age_of q.kind) (lookup (eq_by_cmp grain_cmp q) m.entries)
    ∙ ap (left_of clock (age_of q.kind)) (sym (get-shown m q))
