-- A counter's turn asks nothing of the storage, sends nothing and says nothing of the activation, so every End of an open turn closes it.
use Rattle.silo_model.proofs.Common.{if◌then◌else◌, ◌++◌, ◌∙◌, ◌≡◌, Bool, End, Entry, Err, Grain, List, None, Ok, Option, Plan, Request}
use Rattle.silo_model.proofs.Common.{Result, Some, Tree, Whole, [], ap, asks_nothing, change_at, closed_entry, counters, false, integer}
use Rattle.silo_model.proofs.Common.{outcome_of, plan_of, ready, refl, reply_to, same, same_text, stays_or_goes, true, whole_step, ℕ, ℤ}
use Rattle.std.specs.Prelude.{◌+ℤ◌, codes}
use Rattle.std.specs.FinMap as map
use Rattle.grain_logic.specs.declared.fault.MethodFault.{MethodFault}
use Rattle.grain_logic.specs.declared.fault.MethodFault.TheVariants.{Misfit, OutOfRange, UnknownMethod}
use Rattle.grain_logic.specs.Shared.{becomes, for_null, for_shape, integer_field, is_null, keeps}
use Rattle.grain_logic.specs.Adding.{adds_number, fits_64, number_of}
use Rattle.grain_logic.specs.Counters.{get_plan, number_plan}
use Rattle.grain_logic.proofs.KeepSame.{counters_keep_same}
use Rattle.silo_model.proofs.TurnSteps.{end_silent_turn}
use Rattle.silo_model.proofs.Leaving.{awake_stays}

pub record IsSilent (plan : Plan) : Type 0 where
  pub storage : plan.storage ≡ asks_nothing
  pub sends : plan.sends ≡ []

either : (b : Bool) (p q : Plan) → IsSilent p → IsSilent q → IsSilent (if b then p else q)
either true p q h k = h
either false p q h k = k

keeps_silent : (state : Tree) (outcome : Result Tree MethodFault) → IsSilent (keeps state outcome)
keeps_silent state outcome = record { storage = refl; sends = refl }

add_silent : (state : Tree) (by : Option ℤ) → IsSilent (for_shape state by (adds_number state))
add_silent state None = keeps_silent state (Err Misfit)
add_silent state (Some by) =
    let sum = number_of state +ℤ by in
    either (fits_64 sum) (becomes (integer sum) (integer sum)) (keeps state (Err OutOfRange)) (record { storage = refl; sends = refl }) (keeps_silent state (Err OutOfRange))

get_silent : (state argument : Tree) → IsSilent (for_null state argument (get_plan state))
get_silent state argument = either (is_null argument) (get_plan state) (keeps state (Err Misfit)) (keeps_silent state (Ok (integer (number_of state)))) (keeps_silent state (Err Misfit))

pub counter_silent : (kind method : List ℕ) (state argument : Tree) → IsSilent (counters.plan kind method state argument)
unfolding counters number_plan
counter_silent kind method state argument =
    let by = integer_field (codes "by") argument in
    let unknown = keeps state (Err UnknownMethod) in
    let get = for_null state argument (get_plan state) in
    either (same_text method (codes "add")) (for_shape state by (adds_number state)) (if same_text method (codes "get") then get else unknown) (add_silent state by)
    (either (same_text method (codes "get")) get unknown (get_silent state argument) (keeps_silent state (Err UnknownMethod)))

-- a counter's turn is closed by its plan, and its entry stays if it doesn't rest
pub end_counter : (w : Whole) (g : Grain) (turn : ℕ) (e : Entry) (request : Request) (state : Tree) (version : Option ℕ)
    → map.get w.entries g ≡ Some e → map.get e.turns turn ≡ Some request → e.phase ≡ ready state version → e.resting ≡ false
    → whole_step counters w (End g turn) ≡ Some (record w {
      entries = map.insert w.entries g (closed_entry w.clock e request (plan_of counters g state request).state version same);
      replies = w.replies ++ reply_to request.sender (outcome_of (plan_of counters g state request).outcome);
    })
end_counter w g turn e request state version found open_turn is awake =
    let plan = plan_of counters g state request in
    let silent = counter_silent g.kind request.call.method state request.call.argument in
    end_silent_turn counters w g turn e found request open_turn state version is plan refl silent.storage silent.sends
    ∙ ap (λ c. Some (record w { entries = change_at w.entries g c; replies = w.replies ++ reply_to request.sender (outcome_of plan.outcome) }))
    (ap (λ said. stays_or_goes (closed_entry w.clock e request plan.state version said)) (counters_keep_same g.kind request.call.method state request.call.argument)
    ∙ awake_stays (closed_entry w.clock e request plan.state version same) awake)
