-- Lists that hold each due grain once: the one that is in order, one that has more of them, and whether a grain is due.
use Rattle.std.proofs.Common.{◌≡◌, ℕ, Bool, true, false, ◌||◌, cond, List, [], ◌∷◌, ◌++◌, Option, Some, None, is_some, refl, ap, sym, ◌∙◌}
use Rattle.std.proofs.lemmas.List.Folds.{list_any-append}
use Rattle.std.proofs.lemmas.List.Sorted.{IsPermutation-append_comm, list_any-IsPermutation}
use Rattle.std.proofs.lemmas.Map.Keys.{IsDistinct-IsPermutation}
use Rattle.std.specs.Prelude.{nat_le}
use Rattle.std.specs.Ordering.{eq_by_cmp}
use Rattle.std.specs.List.{list_any, IsDistinct}
use Rattle.std.specs.List.Sorted.{IsSorted, IsPermutation}
use Rattle.std.specs.FinMap as map
use Rattle.finite_maps.proofs.Ascending.{keys_ascend}
use Rattle.finite_maps.proofs.Entries.{get-insert_key}
use Rattle.finite_maps.proofs.Keys.{key_itself, key_turned}
use Rattle.finite_maps.proofs.Lists.{IsDistinct-append}
use Rattle.finite_maps.proofs.Maps as maps
use Rattle.finite_maps.proofs.Sets.{set_of-alike, keys-set_of}
use Rattle.finite_maps.proofs.Sorted.{ascending_from_sorted}
use Rattle.grain_id.specs.Names.{Grain, grain_cmp, grain_eq}
use Rattle.grain_id.proofs.Keys.{grains}
use Rattle.grain_id.proofs.Order.{grain_cmp_total, grain_cmp_exact, grain_ties}
use Rattle.idle_collector.specs.Notes.{Notes, noted, is_due, due, HoldsDue}
use Rattle.idle_collector.specs.inside.Sets.{all_noted}

-- a grain stands among the due ones exactly if it's due
pub due-there : (notes : Notes) (now : ℕ) (q : Grain) → list_any (eq_by_cmp grain_cmp q) (due notes now) ≡ is_due now (map.get notes q)
due-there notes now q =
    let is : Grain → Bool = λ grain. is_due now (map.get notes grain) in
    sym (map.contains_key-keys (map.retain_keys notes is) q) ∙ ap is_some (maps.get-part grain_cmp_total grain_cmp_exact notes is q) ∙ by (map.get notes q)
  where
    by : (o : Option ℕ) → is_some (cond (is_due now o) o None) ≡ is_due now o
    by None = refl
    by (Some moment) = either (nat_le moment now)
      where
        either : (b : Bool) → is_some (cond b (Some moment) None) ≡ b
        either true = refl
        either false = refl

-- the order makes no difference
pub holds-permuted : (notes : Notes) (now : ℕ) (held gs : List Grain) → IsPermutation held gs → HoldsDue notes now held → HoldsDue notes now gs
holds-permuted notes now held gs permuted holds = record {
  once = IsDistinct-IsPermutation grain_eq (key_turned grains) held gs permuted holds.once;
  each = λ q. sym (list_any-IsPermutation (grain_eq q) held gs permuted) ∙ holds.each q;
}

-- those in order are the due grains
pub holds-due : (notes : Notes) (now : ℕ) (held gs : List Grain) → HoldsDue notes now held → IsPermutation held gs → IsSorted grain_cmp gs → gs ≡ due notes now
holds-due notes now held gs holds permuted sorted =
    let all = holds-permuted notes now held gs permuted holds in
    sym (keys-set_of grains gs (ascending_from_sorted grains gs all.once sorted))
    ∙ ap map.keys (set_of-alike grains gs (due notes now) (λ q. all.each q ∙ sym (due-there notes now q) ∙ (λ i. list_any (λ g. sym (grain_ties q g) i) (due notes now))))
    ∙ keys-set_of grains (due notes now) (keys_ascend grain_cmp _)

-- ---- grains that are due from one moment on, beside other notes

pub get-noted : (n : Notes) (k : Grain) (m : ℕ) (q : Grain) → map.get (noted n k m) q ≡ cond (grain_eq k q) (Some m) (map.get n q)
get-noted n k m q = get-insert_key grains n k m q

either : (b c : Bool) (m o : Option ℕ) → cond c m (cond b m o) ≡ cond (b || c) m o
either true true m o = refl
either true false m o = refl
either false c m o = refl

pub get-all : (n : Notes) (gs : List Grain) (m : ℕ) (q : Grain) → map.get (all_noted n gs m) q ≡ cond (list_any (grain_eq q) gs) (Some m) (map.get n q)
get-all n [] m q = refl
get-all n (g ∷ gs) m q =
    get-all (noted n g m) gs m q
    ∙ ap (cond (list_any (grain_eq q) gs) (Some m)) (get-noted n g m q ∙ ap (λ b. cond b (Some m) (map.get n q)) (sym (key_turned grains q g)))
    ∙ either (grain_eq q g) (list_any (grain_eq q) gs) (Some m) (map.get n q)

-- they stand in front of what is due of the other notes, if their moment has come
pub due-all : (n : Notes) (gs : List Grain) (m now : ℕ) (held : List Grain) → ((grain : Grain) → list_any (grain_eq grain) gs ≡ true → map.get n grain ≡ None)
    → IsDistinct grain_eq gs → HoldsDue n now held → HoldsDue (all_noted n gs m) now (cond (nat_le m now) gs [] ++ held)
due-all n gs m now held apart distinct holds = by (nat_le m now) refl
  where
    none_held : (q : Grain) → list_any (grain_eq q) gs ≡ true → list_any (grain_eq q) held ≡ false
    none_held q here = holds.each q ∙ ap (is_due now) (apart q here)

    now_due : (b : Bool) (o : Option ℕ) → nat_le m now ≡ true → (b ≡ true → o ≡ None) → b || is_due now o ≡ is_due now (cond b (Some m) o)
    now_due true o e none = sym e
    now_due false o e none = refl

    later : (b : Bool) (o : Option ℕ) → nat_le m now ≡ false → (b ≡ true → o ≡ None) → is_due now o ≡ is_due now (cond b (Some m) o)
    later true o e none = ap (is_due now) (none refl) ∙ sym e
    later false o e none = refl

    by : (b : Bool) → nat_le m now ≡ b → HoldsDue (all_noted n gs m) now (cond b gs [] ++ held)
    by true e = record {
      once = IsDistinct-append grain_eq (key_itself grains) gs held distinct holds.once none_held;
      each = λ q. list_any-append (grain_eq q) gs held ∙ ap (λ b. list_any (grain_eq q) gs || b) (holds.each q)
          ∙ now_due (list_any (grain_eq q) gs) (map.get n q) e (apart q) ∙ ap (is_due now) (sym (get-all n gs m q));
    }
    by false e = record {
      once = holds.once;
      each = λ q. holds.each q ∙ later (list_any (grain_eq q) gs) (map.get n q) e (apart q) ∙ ap (is_due now) (sym (get-all n gs m q));
    }

-- and behind it
pub due-behind : (n : Notes) (gs : List Grain) (m now : ℕ) (held : List Grain) → ((grain : Grain) → list_any (grain_eq grain) gs ≡ true → map.get n grain ≡ None)
    → IsDistinct grain_eq gs → HoldsDue n now held → HoldsDue (all_noted n gs m) now (held ++ cond (nat_le m now) gs [])
due-behind n gs m now held apart distinct holds =
    holds-permuted (all_noted n gs m) now _ _ (IsPermutation-append_comm (cond (nat_le m now) gs []) held) (due-all n gs m now held apart distinct holds)
