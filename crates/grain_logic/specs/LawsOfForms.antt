-- What the laws ask of one plan, and that the forms of a plan keep them.
use Rattle.std.proofs.Common.{◌≡◌, ℕ, Bool, true, false, List, Option, Some, None, Result, Ok, Err, refl, arith}
use Rattle.std.specs.Prelude.{ℤ, IfOk, FitsSigned, if◌then◌else◌, codes}
use Rattle.std.specs.Int.{w64}
use Rattle.grain_id.specs.Names.{same_text}
use Rattle.request_codec.specs.Call.{Call, asks}
use Rattle.request_codec.specs.Tree.{Tree, null, truth, integer}
use Rattle.grain_logic.specs.declared.fault.MethodFault.{MethodFault}
use Rattle.grain_logic.specs.declared.fault.MethodFault.TheVariants.{UnknownMethod, Misfit}
use Rattle.grain_logic.specs.Laws.{FitsState, FitsMessage, ChangesNothing, LeavesAllToStorage, KeepsLimits, IsKeep, IsLawful}
use Rattle.grain_logic.specs.Laws.{ReadersAskNothing}
use Rattle.grain_logic.specs.Logic.{Logic, Plan, Keep, StorageCall, asks_nothing, reads_row, writes_row, clears_row}
use Rattle.grain_logic.specs.Shared.{keeps, becomes, says, asks_storage, is_null, for_shape, for_null, shared_plan}

-- The laws, of one plan.
pub record ObeysLaws (state : Tree) (call : Call) (plan : Plan) : Type 0 where
  pub faults_change_nothing : (fault : MethodFault) → plan.outcome ≡ Err fault → ChangesNothing state plan
  pub askers_leave_all : (plan.storage ≡ asks_nothing → ⊥) → LeavesAllToStorage state plan
  pub keeps_limits : FitsState state → FitsMessage call → KeepsLimits plan
  pub stays_in_range : IsKeep plan.keep

-- ---- small values

pub null_fits : FitsState null
null_fits = record { formed = tt; depth_within = omega arith; length_within = omega arith }

pub truth_fits : (b : Bool) → FitsState (truth b)
truth_fits b = record { formed = tt; depth_within = omega arith; length_within = omega arith }

pub whole_fits : (i : ℤ) → FitsSigned w64 i → FitsState (integer i)
whole_fits i fits = record { formed = fits; depth_within = omega arith; length_within = omega arith }

-- ---- choices

pub if_holds : {A : Type 0} (P : A → Type 0) (b : Bool) (x y : A) → (b ≡ true → P x) → (b ≡ false → P y) → P (if b then x else y)
if_holds P true x y so otherwise = so refl
if_holds P false x y so otherwise = otherwise refl

-- ---- forms of a plan

pub keeps_changes_nothing : (state : Tree) (outcome : Result Tree MethodFault) → ChangesNothing state (keeps state outcome)
keeps_changes_nothing state outcome = record { state_kept = refl; nothing_asked = refl; nothing_sent = refl; keep_same = refl }

pub keeps_obeys : (state : Tree) (call : Call) (outcome : Result Tree MethodFault)
    → (FitsState state → FitsMessage call → IfOk outcome FitsState) → ObeysLaws state call (keeps state outcome)
keeps_obeys state call outcome fits = record {
  faults_change_nothing = λ fault e. keeps_changes_nothing state outcome;
  askers_leave_all = λ asked. absurd (asked refl);
  keeps_limits = λ s m. record { state_fits = s; outcome_fits = fits s m; sends_fit = tt; sends_few = omega arith };
  stays_in_range = tt;
}

pub fault_obeys : (state : Tree) (call : Call) (fault : MethodFault) → ObeysLaws state call (keeps state (Err fault))
fault_obeys state call fault = keeps_obeys state call (Err fault) (λ s m. tt)

no_fault : (value : Tree) (fault : MethodFault) → ◌≡◌ {A = Result Tree MethodFault} (Ok value) (Err fault) → ⊥
no_fault value fault e = cc

pub becomes_obeys : (state : Tree) (call : Call) (made value : Tree)
    → (FitsState state → FitsMessage call → FitsState made × FitsState value) → ObeysLaws state call (becomes made value)
becomes_obeys state call made value fits = record {
  faults_change_nothing = λ fault e. absurd (no_fault value fault e);
  askers_leave_all = λ asked. absurd (asked refl);
  keeps_limits = λ s m. record { state_fits = (fits s m).0; outcome_fits = (fits s m).1; sends_fit = tt; sends_few = omega arith };
  stays_in_range = tt;
}

pub asks_obeys : (state : Tree) (call : Call) (storage : StorageCall) → ObeysLaws state call (asks_storage storage state)
asks_obeys state call storage = record {
  faults_change_nothing = λ fault e. absurd (no_fault null fault e);
  askers_leave_all = λ asked. record { state_kept = refl; nothing_sent = refl; null_answered = refl; keep_same = refl };
  keeps_limits = λ s m. record { state_fits = s; outcome_fits = null_fits; sends_fit = tt; sends_few = omega arith };
  stays_in_range = tt;
}

pub says_obeys : (state : Tree) (call : Call) (keep : Keep) → IsKeep keep → ObeysLaws state call (says keep state)
says_obeys state call keep in_range = record {
  faults_change_nothing = λ fault e. absurd (no_fault null fault e);
  askers_leave_all = λ asked. absurd (asked refl);
  keeps_limits = λ s m. record { state_fits = s; outcome_fits = null_fits; sends_fit = tt; sends_few = omega arith };
  stays_in_range = in_range;
}

-- each plan of a lawful logic
pub lawful_obeys : (logic : Logic) → IsLawful logic → (kind method : List ℕ) (state argument : Tree)
    → ObeysLaws state (asks method argument) (logic.plan kind method state argument)
lawful_obeys logic laws kind method state argument = record {
  faults_change_nothing = laws.faults_change_nothing kind method state argument;
  askers_leave_all = laws.askers_leave_all kind method state argument;
  keeps_limits = laws.plans_keep_limits kind method state argument;
  stays_in_range = laws.stays_in_range kind method state argument;
}

pub for_null_obeys : (state argument : Tree) (call : Call) (plan : Plan) → ObeysLaws state call plan
    → ObeysLaws state call (for_null state argument plan)
for_null_obeys state argument call plan obeys =
    if_holds (ObeysLaws state call) (is_null argument) _ _ (λ e. obeys) (λ e. fault_obeys state call Misfit)

pub for_null_changes_nothing : (state argument : Tree) (plan : Plan) → ChangesNothing state plan
    → ChangesNothing state (for_null state argument plan)
for_null_changes_nothing state argument plan kept =
    if_holds (ChangesNothing state) (is_null argument) _ _ (λ e. kept) (λ e. keeps_changes_nothing state (Err Misfit))

pub for_shape_obeys : {A : Type 0} (state : Tree) (call : Call) (held : Option A) (plan : A → Plan)
    → ((x : A) → held ≡ Some x → ObeysLaws state call (plan x)) → ObeysLaws state call (for_shape state held plan)
for_shape_obeys state call None plan obeys = fault_obeys state call Misfit
for_shape_obeys state call (Some x) plan obeys = obeys x refl

-- ---- the methods of every kind

pub shared_obeys : (method : List ℕ) (state argument : Tree) (call : Call) → ObeysLaws state call (shared_plan method state argument)
unfolding shared_plan
shared_obeys method state argument call =
    if_holds (ObeysLaws state call) (same_text method (codes "save")) _ _
    (λ e. for_null_obeys state argument call _ (asks_obeys state call writes_row))
    (λ e. if_holds (ObeysLaws state call) (same_text method (codes "reload")) _ _
    (λ e. for_null_obeys state argument call _ (asks_obeys state call reads_row))
    (λ e. if_holds (ObeysLaws state call) (same_text method (codes "clear")) _ _
    (λ e. for_null_obeys state argument call _ (asks_obeys state call clears_row))
    (λ e. fault_obeys state call UnknownMethod)))

pub readers_ask_nothing : (logic : Logic) → IsLawful logic → ReadersAskNothing logic
readers_ask_nothing logic lawful =
    λ kind method state argument e. (lawful.readers_change_nothing kind method state argument e).nothing_asked
