-- Where no tenant is found that a table leaves out, nothing is kept of any that it hasn't.
use Rattle.std.proofs.Common.{◌≡◌, ◌∙◌, ℕ, arith, Bool, true, false, cond, List, [], ◌∷◌, Option, Some, None, ap, length, refl, subst, sym, true≢false}
use Rattle.std.specs.Prelude.{IfSome, find, map, nat_lt, not, ◌&&◌, ◌||◌, is_some, option_map, string_bytes}
use Rattle.std.specs.Option.{option_or}
use Rattle.std.proofs.lemmas.Bool.Decides.{nat_tests}
use Rattle.std.specs.FinMap.{from_entries, get}
use Rattle.std.specs.Map.{lookup}
use Rattle.finite_maps.proofs.Entries.{get-lookup, get-lookup_seen}
use Rattle.grain_id.specs.Names.{Grain, grain_eq, same_text}
use Rattle.grain_id.specs.Order.{grain_eq_decides, same_text_decides}
use Rattle.grain_id.proofs.Keys.{grains, texts}
use Rattle.tenant_gate.specs.Table.{Table, limits_of}
use Rattle.tenant_accounts.specs.Kept.{KeptAccount}
use Rattle.tenant_accounts.specs.Parts.{kept_in as account_in}
use Rattle.tenant_accounts.specs.Sends.{send_of}
use Rattle.tenant_accounts.specs.declared.parts.AccountParts.{AccountParts}
use Rattle.grain_storage.specs.declared.row.Row.{Row}
use Rattle.silo_model.specs.Opening.{Setup}
use Rattle.silo_state.specs.KeptParts.{kept_grain_in, kept_in}
use Rattle.silo_state.specs.declared.parts.GrainParts.{GrainParts}
use Rattle.silo_state.specs.declared.parts.KeptParts.{KeptParts}
use Rattle.data_command.specs.Folder.{HasNothing, LeavesNobodyOut, first_left_out, first_out, is_left_account, is_out}

-- ---- what isn't found

none_of : {X : Type 0} (x : X) → Some x ≡ None → ⊥
none_of x is = true≢false (ap is_some is)

or_none : {X : Type 0} (a b : Option X) → option_or a b ≡ None → (a ≡ None) × (b ≡ None)
or_none None b is = (refl, is)
or_none (Some x) b is = absurd (none_of x is)

map_none : {X Y : Type 0} (f : X → Y) (o : Option X) → option_map f o ≡ None → o ≡ None
map_none f None is = refl
map_none f (Some x) is = absurd (none_of (f x) is)

later_none : {X : Type 0} (b : Bool) (x : X) (o : Option X) → cond b (Some x) o ≡ None → (b ≡ false) × (o ≡ None)
later_none true x o is = absurd (none_of x is)
later_none false x o is = (refl, is)

-- ---- nothing is used

or_false : (a b : Bool) → a || b ≡ false → (a ≡ false) × (b ≡ false)
or_false true b is = absurd (true≢false is)
or_false false b is = (refl, is)

and_false : (a b : Bool) → a && b ≡ false → b ≡ true → a ≡ false
and_false false b is so = refl
and_false true b is so = absurd (true≢false (sym so ∙ is))

none_counted : (n : ℕ) → nat_lt 0 n ≡ false → n ≡ 0
none_counted n is = grind (arith, nat_tests, is)

none_listed : {X : Type 0} (xs : List X) → nat_lt 0 (length xs) ≡ false → xs ≡ []
none_listed [] is = refl
none_listed (x ∷ xs) is =
    let some : nat_lt 0 (length (x ∷ xs)) ≡ true = grind (arith, nat_tests) in
    absurd (true≢false (sym some ∙ is))

abbrev IsUnused : KeptAccount → Type 0
IsUnused a = (a.count ≡ 0) × (a.sends ≡ [])

module _ (tenants : Table) (tenant : List ℕ) (unknown : limits_of tenants tenant ≡ None) where
  out : (name : List ℕ) → name ≡ tenant → is_out tenants name ≡ true
  out name is = ap (λ o. not (is_some o)) (ap (limits_of tenants) is ∙ unknown)

  unused : (a : AccountParts) → is_left_account tenants a ≡ false → string_bytes a.name ≡ tenant → IsUnused (account_in a).1
  unused a left is =
      let used = and_false (nat_lt 0 a.count || nat_lt 0 (length a.sends.items)) (is_out tenants (string_bytes a.name)) left (out (string_bytes a.name) is) in
      let both = or_false (nat_lt 0 a.count) (nat_lt 0 (length a.sends.items)) used in
      (none_counted a.count both.0, ap (map send_of) (none_listed a.sends.items both.1))

  accounts_none : (list : List AccountParts) → find (is_left_account tenants) list ≡ None → IfSome (lookup (same_text tenant) (map account_in list)) IsUnused
  accounts_none [] is = tt
  accounts_none (a ∷ others) is =
      let first = later_none (is_left_account tenants a) a (find (is_left_account tenants) others) is in
      by (same_text tenant (string_bytes a.name)) (λ same. unused a first.0 (sym ((same_text_decides tenant (string_bytes a.name)).0 same))) (accounts_none others first.1)
    where
      by : (b : Bool) → (b ≡ true → IsUnused (account_in a).1) → IfSome (lookup (same_text tenant) (map account_in others)) IsUnused
          → IfSome (cond b (Some (account_in a).1) (lookup (same_text tenant) (map account_in others))) IsUnused
      by true so rest = so refl
      by false so rest = rest

  grains_none : {V : Type 0} (gs : List (Grain × V)) → first_out tenants gs ≡ None → (grain : Grain) → grain.tenant ≡ tenant → lookup (grain_eq grain) gs ≡ None
  grains_none [] is grain of = refl
  grains_none {V} (g ∷ gs) is grain of =
      let found = map_none (λ (h : Grain × V). h.0.tenant) (find (λ (h : Grain × V). is_out tenants h.0.tenant) (g ∷ gs)) is in
      let first = later_none (is_out tenants g.0.tenant) g (find (λ (h : Grain × V). is_out tenants h.0.tenant) gs) found in
      by (grain_eq grain g.0) (λ same. true≢false (sym (out g.0.tenant (ap (λ (h : Grain). h.tenant) (sym ((grain_eq_decides grain g.0).0 same)) ∙ of)) ∙ first.0))
      ∙ grains_none gs (ap (option_map (λ (h : Grain × V). h.0.tenant)) first.1) grain of
    where
      by : (b : Bool) → (b ≡ true → ⊥) → cond b (Some g.1) (lookup (grain_eq grain) gs) ≡ lookup (grain_eq grain) gs
      by true so = absurd (so refl)
      by false so = refl

pub nobody_left : (tenants : Table) (setup : Setup) (parts : KeptParts) (rows : List (Grain × Row)) → kept_in parts ≡ setup.kept → from_entries rows ≡ setup.rows
    → first_left_out tenants parts rows ≡ None → LeavesNobodyOut tenants setup
nobody_left tenants setup parts rows kept rows_are none tenant unknown =
    let first = or_none (option_map (λ (a : AccountParts). string_bytes a.name) (find (is_left_account tenants) parts.accounts.items))
    (option_or (first_out tenants parts.grains.items) (first_out tenants rows)) none in
    let others = or_none (first_out tenants parts.grains.items) (first_out tenants rows) first.1 in
    record {
      account = subst (λ (o : Option KeptAccount). IfSome o IsUnused) (sym (get-lookup texts (map account_in parts.accounts.items) tenant) ∙ ap (λ k. get k.accounts tenant) kept)
          (accounts_none tenants tenant unknown parts.accounts.items (map_none (λ (a : AccountParts). string_bytes a.name) (find (is_left_account tenants) parts.accounts.items) first.0));
      grains = λ grain of.
          sym (ap (λ k. get k.grains grain) kept) ∙ get-lookup_seen grains kept_grain_in parts.grains.items grain
          ∙ ap (option_map kept_grain_in) (grains_none tenants tenant unknown parts.grains.items others.0 grain of);
      rows = λ grain of. sym (ap (λ r. get r grain) rows_are) ∙ get-lookup grains rows grain ∙ grains_none tenants tenant unknown rows others.1 grain of;
    }
