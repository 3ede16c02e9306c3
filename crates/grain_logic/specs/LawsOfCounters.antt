-- The logic of counters alone keeps the laws.
use Rattle.std.proofs.Common.{◌≡◌, ℕ, true, List, ltb-true, refl, false, Err}
use Rattle.std.specs.Prelude.{ℤ, pos, negsuc, ◌+ℤ◌, FitsSigned, codes}
use Rattle.std.specs.Int.{w64}
use Rattle.grain_id.specs.Names.{same_text}
use Rattle.request_codec.specs.Call.{Call, asks}
use Rattle.request_codec.specs.Formed.{IsFormed}
use Rattle.request_codec.specs.Tree as tree
use Rattle.request_codec.specs.Tree.{Tree, integer}
use Rattle.grain_logic.specs.declared.fault.MethodFault.TheVariants.{OutOfRange, UnknownMethod}
use Rattle.grain_logic.specs.Adding.{number_of, fits_64, add_to, adds_number}
use Rattle.grain_logic.specs.Counters.{get_plan, number_plan, counters}
use Rattle.grain_logic.specs.LawsOfForms.{ObeysLaws, whole_fits, if_holds, keeps_obeys, fault_obeys, becomes_obeys, for_null_obeys}
use Rattle.grain_logic.specs.LawsOfForms.{for_shape_obeys}
use Rattle.grain_logic.specs.Logic.{Plan}
use Rattle.grain_logic.specs.Shared.{integer_field, keeps}
use Rattle.grain_logic.specs.Laws.{IsLawful}

no_read : false ≡ true → ⊥
no_read e = cc

-- what passes the test is a number of 64 bits
pub fits : (i : ℤ) → fits_64 i ≡ true → FitsSigned w64 i
fits (pos n) e = record { sfits = ltb-true n 9223372036854775808 e }
fits (negsuc n) e = record { sfits = ltb-true n 9223372036854775808 e }

pub zero_fits : FitsSigned w64 (pos 0)
zero_fits = fits (pos 0) refl

-- the number that a state counts as has 64 bits
pub number_fits : (state : Tree) → IsFormed state → FitsSigned w64 (number_of state)
number_fits (integer i) formed = formed
number_fits tree.null formed = zero_fits
number_fits (tree.truth b) formed = zero_fits
number_fits (tree.text s) formed = zero_fits
number_fits (tree.list vs) formed = zero_fits
number_fits (tree.map fs) formed = zero_fits
number_fits (tree.bytes b) formed = zero_fits

pub add_obeys : (state : Tree) (call : Call) (sum : ℤ) → ObeysLaws state call (add_to state sum)
add_obeys state call sum =
    if_holds (ObeysLaws state call) (fits_64 sum) _ _
    (λ e. becomes_obeys state call (integer sum) (integer sum) (λ s m. (whole_fits sum (fits sum e), whole_fits sum (fits sum e))))
    (λ e. fault_obeys state call OutOfRange)

pub get_obeys : (state : Tree) (call : Call) → ObeysLaws state call (get_plan state)
get_obeys state call = keeps_obeys state call _ (λ s m. whole_fits (number_of state) (number_fits state s.formed))

pub number_obeys : (other : Plan) (method : List ℕ) (state argument : Tree) (call : Call) → ObeysLaws state call other
    → ObeysLaws state call (number_plan other method state argument)
unfolding number_plan
number_obeys other method state argument call obeys =
    if_holds (ObeysLaws state call) (same_text method (codes "add")) _ _
    (λ e. for_shape_obeys state call (integer_field (codes "by") argument) (adds_number state)
    (λ by is. add_obeys state call (number_of state +ℤ by)))
    (λ e. if_holds (ObeysLaws state call) (same_text method (codes "get")) _ _
    (λ e. for_null_obeys state argument call _ (get_obeys state call)) (λ e. obeys))

alone_obeys : (method : List ℕ) (state argument : Tree)
    → ObeysLaws state (asks method argument) (counters.plan (codes "counter") method state argument)
unfolding counters
alone_obeys method state argument = let call = asks method argument in
    number_obeys (keeps state (Err UnknownMethod)) method state argument call (fault_obeys state call UnknownMethod)

pub counters_lawful : IsLawful counters
unfolding counters
counters_lawful = record {
  readers_change_nothing = λ kind method state argument e. absurd (no_read e);
  faults_change_nothing = λ kind method state argument. (alone_obeys method state argument).faults_change_nothing;
  askers_leave_all = λ kind method state argument. (alone_obeys method state argument).askers_leave_all;
  plans_keep_limits = λ kind method state argument. (alone_obeys method state argument).keeps_limits;
  stays_in_range = λ kind method state argument. (alone_obeys method state argument).stays_in_range;
  empty_fits = λ kind known. whole_fits (pos 0) zero_fits;
}
