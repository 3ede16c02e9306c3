-- The logic of buckets keeps the laws.
use Rattle.std.proofs.Common.{◌≡◌, ℕ, Bool, true, false, List, Option, Some, None, Ok, refl, subst, arith}
use Rattle.std.specs.Prelude.{◌+◌, ◌≤◌, nat_le, ℤ, pos, negsuc, FitsSigned, option_and_then, if◌then◌else◌, codes}
use Rattle.std.specs.Int.{w64}
use Rattle.std.proofs.lemmas.Bool.{leb-true}
use Rattle.std.proofs.lemmas.Option.{same_Some}
use Rattle.grain_id.specs.Names.{same_text}
use Rattle.request_codec.specs.Call.{Call, asks}
use Rattle.request_codec.specs.Tree.{Tree, integer, truth}
use Rattle.grain_logic.specs.Laws.{IsLawful}
use Rattle.grain_logic.specs.LawsOfCounters.{zero_fits}
use Rattle.grain_logic.specs.LawsOfForms.{ObeysLaws, if_holds, whole_fits, truth_fits, keeps_obeys, becomes_obeys, for_shape_obeys}
use Rattle.grain_logic.specs.LawsOfForms.{shared_obeys}
use Rattle.grain_logic.specs.Shared.{integer_field}
use Rattle.example_bucket.specs.Bucket.{whole_time, last_moment, moment_of, now_in, full_after, takes, bucket_plan, buckets}

no_read : false ≡ true → ⊥
no_read e = cc

-- ---- what is no later than all tokens take fits into a state

passed : (b : Bool) (n m : ℕ) → ◌≡◌ {A = Option ℕ} (if b then Some n else None) (Some m) → (b ≡ true) × (n ≡ m)
passed true n m e = (refl, same_Some n m e)
passed false n m e = absurd cc

moment_within : (o : Option ℤ) (now : ℕ) → option_and_then moment_of o ≡ Some now → now ≤ last_moment
moment_within None now e = absurd cc
moment_within (Some (negsuc n)) now e = absurd cc
moment_within (Some (pos n)) now e =
    let parts = passed (nat_le n last_moment) n now e in
    subst (λ (k : ℕ). k ≤ last_moment) parts.1 (leb-true n last_moment parts.0)

soon_fits : (now next : ℕ) → now ≤ last_moment → next ≤ now + whole_time → FitsSigned w64 (pos next)
soon_fits now next before soon = record { sfits = omega (arith, before, soon) }

-- ---- each plan

takes_obeys : (state : Tree) (call : Call) (now : ℕ) → now ≤ last_moment → ObeysLaws state call (takes state now)
takes_obeys state call now before =
    let next = full_after state now in
    if_holds (ObeysLaws state call) (nat_le next (now + whole_time)) _ _
    (λ e. becomes_obeys state call (integer (pos next)) (truth true)
    (λ s m. (whole_fits (pos next) (soon_fits now next before (leb-true next (now + whole_time) e)), truth_fits true)))
    (λ e. keeps_obeys state call (Ok (truth false)) (λ s m. truth_fits false))

obeys : (method : List ℕ) (state argument : Tree) → ObeysLaws state (asks method argument) (bucket_plan method state argument)
obeys method state argument =
    let call = asks method argument in
    if_holds (ObeysLaws state call) (same_text method (codes "take")) _ _
    (λ is. for_shape_obeys state call (now_in argument) (takes state)
    (λ now held. takes_obeys state call now (moment_within (integer_field (codes "now") argument) now held)))
    (λ is. shared_obeys method state argument call)

pub buckets_lawful : IsLawful buckets
buckets_lawful = record {
  readers_change_nothing = λ kind method state argument e. absurd (no_read e);
  faults_change_nothing = λ kind method state argument. (obeys method state argument).faults_change_nothing;
  askers_leave_all = λ kind method state argument. (obeys method state argument).askers_leave_all;
  plans_keep_limits = λ kind method state argument. (obeys method state argument).keeps_limits;
  stays_in_range = λ kind method state argument. (obeys method state argument).stays_in_range;
  empty_fits = λ kind known. whole_fits (pos 0) zero_fits;
}
