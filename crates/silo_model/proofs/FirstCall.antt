-- A counter's first call, step by step.
use Rattle.silo_model.proofs.Common.{if◌then◌else◌, ◌++◌, ◌+◌, ◌<◌, ◌==◌, ◌∙◌, ◌∷◌, ◌≡◌, Account, Activate, Begin, Call, Client, End, Entry}
use Rattle.silo_model.proofs.Common.{Err, FinMap, Grain, LeadsTo, Limits, List, Load, Logic, None, Ok, Plan, Request, Setup, Some, Step}
use Rattle.silo_model.proofs.Common.{Tree, Whole, [], active_of, all_done, ap, closed_entry, content_or, counters, false, fresh_account}
use Rattle.silo_model.proofs.Common.{get-insert_same, grain_cmp, grain_cmp_exact, grain_cmp_total, integer, last_number, limits_of, loading}
use Rattle.silo_model.proofs.Common.{lt-ltb, nat_cmp, nat_cmp-IsAntisymmetric, nat_cmp_total, nat_lt, opening, option_and_then, option_map}
use Rattle.silo_model.proofs.Common.{outcome_of, plan_of, ready, refl, reply_to, same, told, true, version_of, waiting, whole_step, ℕ, ℤ}
use Rattle.std.proofs.Math.IntN.{+ℤ_idl}
use Rattle.std.specs.Prelude.{codes, pos}
use Rattle.std.specs.FinMap as map
use Rattle.grain_logic.specs.Shared.{becomes, keeps}
use Rattle.grain_logic.specs.Adding.{add_to, fits_64}
use Rattle.grain_logic.specs.Counters.{number_plan}
use Rattle.grain_logic.specs.declared.fault.MethodFault.TheVariants.{OutOfRange}
use Rattle.silo_event.specs.declared.reply.Party.TheVariants as party
use Rattle.silo_model.specs.FirstCall.{FirstCallAnswered, add_call, first_call}
use Rattle.silo_model.proofs.CallSteps.{call_new, next_request}
use Rattle.silo_model.proofs.EntrySteps.{activate_waiting, begin_first, load_loading}
use Rattle.silo_model.proofs.Counters.{end_counter}
use Rattle.silo_model.specs.Opening.{nothing_kept}
use Rattle.silo_model.proofs.Opening.{known_new, none_active, none_at}
use Rattle.silo_model.proofs.Fair.{may_open_alone}

then_done : (logic : Logic) (w next after : Whole) (s : Step) (steps : List Step) → whole_step logic w s ≡ Some next → all_done logic next steps ≡ Some after → all_done logic w (s ∷ steps) ≡ Some after
then_done logic w next after s steps step rest = ap (option_and_then (λ x. all_done logic x steps)) step ∙ rest

empty_counter : (kind : List ℕ) → counters.empty kind ≡ integer (pos 0)
unfolding counters
empty_counter kind = refl

knows_counter : counters.knows (codes "counter") ≡ true
unfolding counters
knows_counter = refl

-- what a new counter answers to its first number
first_outcome : (kind : List ℕ) (state : Tree) (n : ℤ) → state ≡ integer (pos 0) → fits_64 n ≡ true → (counters.plan kind (add_call n).method state (add_call n).argument).outcome ≡ Ok (integer n)
unfolding counters number_plan
first_outcome kind state n is fits =
    ap (λ s. (counters.plan kind (add_call n).method s (add_call n).argument).outcome) is
    ∙ ap (λ z. (add_to (integer (pos 0)) z).outcome) (+ℤ_idl n)
    ∙ ap (λ b. (if b then becomes (integer n) (integer n) else keeps (integer (pos 0)) (Err OutOfRange)).outcome) fits

-- the whole after each of the steps
module _ (w : Whole) (a : Account) (caller : Client) (id : ℕ) (g : Grain) (n : ℤ) where
  abbrev request : Request
  request = next_request a (party.Client caller id) (add_call n)

  abbrev entry_called : Entry
  entry_called = record { phase = waiting; queue = request ∷ []; turns = map.empty; last = w.clock; until = 0; resting = false }

  abbrev after_call : Whole
  after_call = record w { accounts = map.insert w.accounts caller.tenant (record a { count = a.count + 1 }); entries = map.insert w.entries g entry_called }

  abbrev entry_activated : Entry
  entry_activated = record entry_called { phase = loading }

  abbrev after_activate : Whole
  after_activate = record after_call { entries = map.insert after_call.entries g entry_activated }

  abbrev state_loaded : Tree
  state_loaded = content_or (counters.empty g.kind) (map.get w.rows g)

  abbrev entry_loaded : Entry
  entry_loaded = record entry_activated { phase = ready state_loaded (version_of (map.get w.rows g)); until = 0; resting = false }

  abbrev after_load : Whole
  after_load = record after_activate { entries = map.insert after_activate.entries g entry_loaded }

  abbrev entry_begun : Entry
  entry_begun = record entry_loaded { queue = []; turns = map.insert map.empty request.number request }

  abbrev after_begin : Whole
  after_begin = record after_load { entries = map.insert after_load.entries g entry_begun }

  abbrev plan : Plan
  plan = plan_of counters g state_loaded request

  abbrev pub after_end : Whole
  after_end = record after_begin {
    entries = map.insert after_begin.entries g (closed_entry w.clock entry_begun request plan.state (version_of (map.get w.rows g)) same);
    replies = w.replies ++ reply_to request.sender (outcome_of plan.outcome);
  }

  put_there : {X : Type 0} (m : FinMap grain_cmp X) (x : X) → map.get (map.insert m g x) g ≡ Some x
  put_there m x = get-insert_same grain_cmp_total grain_cmp_exact m g x

  abbrev ending : List Step
  ending = End g request.number ∷ []

  abbrev beginning : List Step
  beginning = Begin g ∷ ending

  abbrev loads : List Step
  loads = Load g false ∷ beginning

  abbrev activates : List Step
  activates = Activate g ∷ loads

  pub all_five : map.get w.accounts caller.tenant ≡ Some a → g.tenant ≡ caller.tenant → counters.knows g.kind ≡ true → (a.count == last_number) ≡ false → map.get w.entries g ≡ None → nat_lt (active_of w caller.tenant) a.limits.activations ≡ true
      → all_done counters w (Call caller id g (add_call n) ∷ activates) ≡ Some after_end
  all_five known own knows left absent free =
      let version = version_of (map.get w.rows g) in
      let called = call_new counters w caller id g (add_call n) a known own knows left absent free in
      let activated = activate_waiting counters after_call g entry_called (put_there w.entries entry_called) refl in
      let loaded = load_loading counters after_activate g entry_activated (put_there after_call.entries entry_activated) refl in
      let begun = begin_first counters after_load g entry_loaded (put_there after_activate.entries entry_loaded) state_loaded version request [] refl refl (may_open_alone counters g entry_loaded request (map.len-empty nat_cmp Request)) in
      let ended = end_counter after_begin g request.number entry_begun request state_loaded version (put_there after_load.entries entry_begun) (get-insert_same nat_cmp_total nat_cmp-IsAntisymmetric map.empty request.number request) refl refl in
      then_done counters w after_call after_end (Call caller id g (add_call n)) activates called
      (then_done counters after_call after_activate after_end (Activate g) loads activated
      (then_done counters after_activate after_load after_end (Load g false) beginning loaded
      (then_done counters after_load after_begin after_end (Begin g) ending begun
      (then_done counters after_begin after_end after_end (End g request.number) [] ended refl))))

  pub reply_is : map.get w.rows g ≡ None → fits_64 n ≡ true → after_end.replies ≡ w.replies ++ told (party.Client caller id) (Ok (integer n))
  reply_is none fits = ap (λ o. w.replies ++ told (party.Client caller id) (outcome_of o)) (first_outcome g.kind state_loaded n (ap (content_or (counters.empty g.kind)) none ∙ empty_counter g.kind) fits)

-- where it leads, entry by entry: the entry is ready, with no request that waits and no turn that is open
pub first_call_leads : (setup : Setup) (limits : Limits) (caller : Client) (id : ℕ) (g : Grain) (n : ℤ)
    → setup.kept ≡ nothing_kept → limits_of setup.tenants caller.tenant ≡ Some limits → 0 < limits.activations → g.tenant ≡ caller.tenant → g.kind ≡ codes "counter"
    → LeadsTo counters setup (first_call caller id g n) (after_end (opening setup) (fresh_account limits) caller id g n)
first_call_leads setup limits caller id g n new known may own kind =
    all_five (opening setup) (fresh_account limits) caller id g n (known_new setup new caller.tenant limits known) own (ap counters.knows kind ∙ knows_counter) refl (none_at setup new g)
    (ap (λ k. nat_lt k limits.activations) (none_active setup new caller.tenant) ∙ lt-ltb 0 limits.activations may)

pub first_call_replies : (setup : Setup) (limits : Limits) (caller : Client) (id : ℕ) (g : Grain) (n : ℤ) → map.get setup.rows g ≡ None → fits_64 n ≡ true
    → (after_end (opening setup) (fresh_account limits) caller id g n).replies ≡ told (party.Client caller id) (Ok (integer n))
unfolding opening
first_call_replies setup limits caller id g n none fits = reply_is (opening setup) (fresh_account limits) caller id g n none fits

pub first_call_answered : FirstCallAnswered
first_call_answered setup limits caller id g n new known may own kind none fits =
    (after_end (opening setup) (fresh_account limits) caller id g n, first_call_leads setup limits caller id g n new known may own kind, first_call_replies setup limits caller id g n none fits)
