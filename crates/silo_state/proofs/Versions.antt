-- The version that a row has after a change that was done is the one that was foreseen.
use Rattle.std.proofs.Common.{◌≡◌, ◌≤◌, ℕ, ◌+◌, ◌==◌, Bool, true, false, not, Option, Some, None, refl, ap, sym, ◌∙◌, subst, arith}
use Rattle.std.specs.Prelude.{Ok, Err, if◌then◌else◌, nat_eq, min}
use Rattle.std.specs.Option.{option_eq}
use Rattle.std.specs.FinMap as map
use Rattle.std.proofs.lemmas.Bool.Decides.{nat_tests}
use Rattle.std.proofs.lemmas.Option.{same_Some}
use Rattle.grain_id.specs.Names.{Grain}
use Rattle.request_codec.specs.Tree.{Tree}
use Rattle.grain_storage.specs.declared.row.Row.{Row}
use Rattle.grain_storage.specs.Rows.{Rows, stale, spent, last_version, next_version, version_of, is_spent, changed, written, emptied, cleared}
use Rattle.silo_state.specs.inside.Versions.{version_after, cleared_version, IsVersion}

-- what a change that was done says of the row before it
record Changed {A : Type 0} (expected : Option ℕ) (found : Option Row) (x y : A) : Type 0 where
  expects : expected ≡ version_of found
  not_last : is_spent found ≡ false
  same : x ≡ y

same_number : (m n : ℕ) → nat_eq m n ≡ true → m ≡ n
same_number m n e = grind (arith, nat_tests, e)

same_version : (expected found : Option ℕ) → option_eq nat_eq expected found ≡ true → expected ≡ found
same_version None None e = refl
same_version None (Some n) e = absurd cc
same_version (Some m) None e = absurd cc
same_version (Some m) (Some n) e = ap Some (same_number m n e)

changed_done : {A : Type 0} (expected : Option ℕ) (found : Option Row) (x y : A) → changed expected found x ≡ Ok y → Changed expected found x y
changed_done expected found x y = by (option_eq nat_eq expected (version_of found)) refl (is_spent found) refl
  where
    by : (known : Bool) → option_eq nat_eq expected (version_of found) ≡ known → (last : Bool) → is_spent found ≡ last
        → (if not known then Err (stale (version_of found)) else if last then Err spent else Ok x) ≡ Ok y → Changed expected found x y
    by false is last at e = absurd cc
    by true is true at e = absurd cc
    by true is false at e = record { expects = same_version expected (version_of found) is; not_last = at; same = cc (e) }

below_last : (n : ℕ) → n ≤ last_version → (n == last_version) ≡ false → n + 1 ≡ min (n + 1) last_version
below_last n fits not_last = grind (arith, nat_tests, fits, not_last)

-- one version on, below the last
next_is : (found : Option Row) → is_spent found ≡ false → IsVersion (version_of found) → next_version found ≡ version_after (version_of found)
next_is None not_last fits = refl
next_is (Some row) not_last fits = below_last row.version fits not_last

pub written_version : (rows : Rows) (g : Grain) (expected : Option ℕ) (content : Tree) (now : ℕ) (after : Rows) → written rows g expected content ≡ Ok (Some now, after) → IsVersion expected → now ≡ version_after expected
unfolding written
written_version rows g expected content now after is fits =
    let d = changed_done expected (map.get rows g) _ _ is in
    let next = same_Some (next_version (map.get rows g)) now (ap (λ p. p.0) d.same) in
    sym next ∙ next_is (map.get rows g) d.not_last (subst IsVersion d.expects fits) ∙ ap version_after (sym d.expects)

pub emptied_version : (rows : Rows) (g : Grain) (expected now : Option ℕ) (after : Rows) → cleared rows g expected ≡ Ok (now, after) → IsVersion expected → now ≡ cleared_version expected
unfolding cleared
emptied_version rows g expected now after is fits =
    let d = changed_done expected (map.get rows g) _ _ is in
    by (map.get rows g) refl d.expects d.not_last d.same
  where
    by : (found : Option Row) → map.get rows g ≡ found → expected ≡ version_of found → is_spent found ≡ false → emptied rows g found ≡ (now, after) → now ≡ cleared_version expected
    by None at expects not_last same = ap (λ p. p.0) (sym same) ∙ ap cleared_version (sym expects)
    by (Some row) at expects not_last same =
        let next : Some (next_version (Some row)) ≡ now = ap (λ found. Some (next_version found)) (sym at) ∙ ap (λ p. p.0) same in
        sym next ∙ ap Some (next_is (Some row) not_last (subst IsVersion expects fits)) ∙ ap cleared_version (sym expects)
