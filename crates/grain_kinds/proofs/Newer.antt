-- A number above the newest version's has the newest version's logic.
use Rattle.std.proofs.Common.{◌≡◌, ℕ, ◌≤◌, Bool, true, List, [], ◌∷◌, Option, Some, None, refl, ap, sym, ◌∙◌, arith}
use Rattle.std.specs.List.{AllByRecursion}
use Rattle.std.specs.Cmp.{first_so, second_so}
use Rattle.std.specs.Prelude.{is_some, nat_le, if◌then◌else◌}
use Rattle.std.proofs.lemmas.Bool.{leb-true, le-leb}
use Rattle.grain_id.specs.Names.{same_text}
use Rattle.grain_logic.specs.Logic.{Logic}
use Rattle.grain_logic.specs.LawsOfForms.{if_holds}
use Rattle.grain_logic.specs.Tables.{Kind, Method, at_version, empty_by, kind_in, kind_since, method_at, method_in, method_of, method_since, plan_by, reads_by}
use Rattle.grain_kinds.specs.Kinds.{logic_of, newest_kinds, rows, table}
use Rattle.grain_kinds.specs.Rows.{IsRow, stand}
use Rattle.grain_kinds.specs.Versions.{newest}

module _ (version : ℕ) (le : newest ≤ version) where
  later : (since : ℕ) → nat_le since newest ≡ true → nat_le since version ≡ true
  later since is = le-leb since version (omega (arith, le, leb-true since newest is))

  methods_found : (ms : List Method) (word : List ℕ) → stand newest ms ≡ true → method_since version (method_in ms word) ≡ method_in ms word
  methods_found [] word all = refl
  methods_found (m ∷ ms) word all =
      if_holds (λ (o : Option Method). method_since version o ≡ o) (same_text word m.word) (Some m) (method_in ms word)
      (λ is. ap (λ (b : Bool). if b then Some m else None) (later m.since (first_so (nat_le m.since newest) (stand newest ms) all)))
      (λ e. methods_found ms word (second_so (nat_le m.since newest) (stand newest ms) all))

  kinds_found : (ks : List Kind) (word : List ℕ) → AllByRecursion IsRow ks → kind_since version (kind_in ks word) ≡ kind_in ks word
  kinds_found [] word all = refl
  kinds_found (k ∷ ks) word all =
      if_holds (λ (o : Option Kind). kind_since version o ≡ o) (same_text word k.word) (Some k) (kind_in ks word)
      (λ is. ap (λ (b : Bool). if b then Some k else None) (later k.since (first_so (nat_le k.since newest) (stand newest k.methods) all.0.stands)))
      (λ e. kinds_found ks word all.1)

  methods_of_found : (ks : List Kind) (word method : List ℕ) → AllByRecursion IsRow ks → method_since version (method_of (kind_in ks word) method) ≡ method_of (kind_in ks word) method
  methods_of_found [] word method all = refl
  methods_of_found (k ∷ ks) word method all =
      if_holds (λ (o : Option Kind). method_since version (method_of o method) ≡ method_of o method) (same_text word k.word) (Some k) (kind_in ks word)
      (λ is. methods_found k.methods method (second_so (nat_le k.since newest) (stand newest k.methods) all.0.stands))
      (λ e. methods_of_found ks word method all.1)

  method_found : (ks : List Kind) (kind method : List ℕ) → AllByRecursion IsRow ks → method_at ks version kind method ≡ method_of (kind_in ks kind) method
  method_found ks kind method all =
      ap (λ (o : Option Kind). method_since version (method_of o method)) (kinds_found ks kind all) ∙ methods_of_found ks kind method all

-- the logic of all that a table has
abbrev all_of : List Kind → Logic
all_of ks = record {
  knows = λ kind. is_some (kind_in ks kind);
  is_read = λ kind method. reads_by (method_of (kind_in ks kind) method);
  empty = λ kind. empty_by (kind_in ks kind);
  plan = λ kind method state argument. plan_by (method_of (kind_in ks kind) method) state argument;
}

whole : (version : ℕ) → newest ≤ version → (ks : List Kind) → AllByRecursion IsRow ks → at_version ks version ≡ all_of ks
unfolding at_version
whole version le ks all i = record {
  knows = λ kind. is_some (kinds_found version le ks kind all i);
  is_read = λ kind method. reads_by (method_found version le ks kind method all i);
  empty = λ kind. empty_by (kinds_found version le ks kind all i);
  plan = λ kind method state argument. plan_by (method_found version le ks kind method all i) state argument;
}

pub newer_is_newest : (version : ℕ) → newest ≤ version → logic_of version ≡ newest_kinds
unfolding logic_of
newer_is_newest version le = whole version le table rows ∙ sym (whole newest (omega arith) table rows)

-- the newest version has what stands under the two words
pub newest_has : (version : ℕ) (kind method : List ℕ) → newest ≤ version → method_of (kind_in table kind) method ≡ method_at table version kind method
newest_has version kind method le = sym (method_found version le table kind method rows)
