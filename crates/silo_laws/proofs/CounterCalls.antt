-- A counter's calls, step by step: its first, for which it is activated and loaded, and one when it is up.
use Rattle.silo_model.proofs.Common.{if◌then◌else◌, ◌++◌, ◌+◌, ◌<◌, ◌==◌, ◌∙◌, ◌∷◌, ◌≡◌, Account, Activate, Begin, Call, Client, End, Entry}
use Rattle.silo_model.proofs.Common.{Err, FinMap, Grain, List, Load, None, Ok, Option, Plan, Request, Some, Tree, Whole, ℕ, ℤ, []}
use Rattle.silo_model.proofs.Common.{activated, active_of, ap, closed_entry, content_or, counters, false, get-insert_same, grain_cmp}
use Rattle.silo_model.proofs.Common.{grain_cmp_exact, grain_cmp_total, integer, is_of, last_number, length, loading, lt-ltb, nat_cmp}
use Rattle.silo_model.proofs.Common.{nat_cmp-IsAntisymmetric, nat_cmp_total, nat_lt, outcome_of, plan_of, ready, refl, reply_to, same}
use Rattle.silo_model.proofs.Common.{same_text_decides, text_cmp_exact, text_cmp_total, told, true, version_of, waiting, whole_step}
use Rattle.std.proofs.Math.IntN.{+ℤ_idl}
use Rattle.std.specs.Prelude.{◌+ℤ◌, codes, pos}
use Rattle.std.specs.FinMap as map
use Rattle.finite_maps.proofs.Maps.{len_part-insert, taken_back}
use Rattle.grain_logic.specs.Shared.{becomes, keeps}
use Rattle.grain_logic.specs.Adding.{fits_64}
use Rattle.grain_logic.specs.Counters.{number_plan}
use Rattle.grain_logic.specs.declared.fault.MethodFault.TheVariants.{OutOfRange}
use Rattle.silo_event.specs.declared.reply.Party.TheVariants as party
use Rattle.silo_model.specs.FirstCall.{add_call}
use Rattle.silo_model.proofs.Actives.{active-again}
use Rattle.silo_model.proofs.CallSteps.{call_again, call_new, next_request}
use Rattle.silo_model.proofs.Counters.{end_counter}
use Rattle.silo_model.proofs.EntrySteps.{activate_found, activate_waiting, begin_first, load_loading}
use Rattle.silo_model.proofs.Fair.{may_open_alone}

empty_counter : (kind : List ℕ) → counters.empty kind ≡ integer (pos 0)
unfolding counters
empty_counter kind = refl

pub knows_counter : (kind : List ℕ) → kind ≡ codes "counter" → counters.knows kind ≡ true
unfolding counters
knows_counter kind is = ap counters.knows is

-- what an addition comes to
pub added : (kind : List ℕ) (state : Tree) (m n : ℤ) → state ≡ integer m → fits_64 (m +ℤ n) ≡ true
    → counters.plan kind (add_call n).method state (add_call n).argument ≡ becomes (integer (m +ℤ n)) (integer (m +ℤ n))
unfolding counters number_plan
added kind state m n is fits =
    ap (λ s. counters.plan kind (add_call n).method s (add_call n).argument) is
    ∙ ap (λ b. if b then becomes (integer (m +ℤ n)) (integer (m +ℤ n)) else keeps (integer m) (Err OutOfRange)) fits

-- A counter of the client's tenant is ready with this number, nothing waits and nothing is open there, and a call of the
-- client will be accepted.
pub record IsUp (w : Whole) (a : Account) (caller : Client) (g : Grain) (m : ℤ) : Type 0 where
  pub known : map.get w.accounts caller.tenant ≡ Some a
  pub left : (a.count == last_number) ≡ false
  pub room : 0 < a.limits.mailbox
  pub entry : Entry
  pub found : map.get w.entries g ≡ Some entry
  pub version : Option ℕ
  pub phase : entry.phase ≡ ready (integer m) version
  pub queue : entry.queue ≡ []
  pub none_open : map.len entry.turns ≡ 0
  pub awake : entry.resting ≡ false

put_there : {X : Type 0} (m : FinMap grain_cmp X) (g : Grain) (x : X) → map.get (map.insert m g x) g ≡ Some x
put_there m g x = get-insert_same grain_cmp_total grain_cmp_exact m g x

-- a turn that was opened alone, and one that was closed
turn_there : (turns : FinMap nat_cmp Request) (q : Request) → map.get (map.insert turns q.number q) q.number ≡ Some q
turn_there turns q = get-insert_same nat_cmp_total nat_cmp-IsAntisymmetric turns q.number q

none_left : (turns : FinMap nat_cmp Request) (q : Request) → map.len turns ≡ 0 → map.get turns q.number ≡ None
    → map.len (map.remove (map.insert turns q.number q) q.number) ≡ 0
none_left turns q none absent = ap map.len (taken_back nat_cmp_total nat_cmp-IsAntisymmetric turns q.number q absent) ∙ none

-- ---- the first call, of a grain without an entry

module _ (w : Whole) (a : Account) (caller : Client) (id : ℕ) (g : Grain) (n : ℤ) where
  abbrev pub first : Request
  first = next_request a (party.Client caller id) (add_call n)

  abbrev entry_called : Entry
  entry_called = record { phase = waiting; queue = first ∷ []; turns = map.empty; last = w.clock; until = 0; resting = false }

  abbrev pub after_call : Whole
  after_call = record w { accounts = map.insert w.accounts caller.tenant (record a { count = a.count + 1 }); entries = map.insert w.entries g entry_called }

  abbrev entry_activated : Entry
  entry_activated = record entry_called { phase = loading }

  abbrev pub after_activate : Whole
  after_activate = record after_call { entries = map.insert after_call.entries g entry_activated }

  abbrev state_loaded : Tree
  state_loaded = content_or (counters.empty g.kind) (map.get w.rows g)

  abbrev entry_loaded : Entry
  entry_loaded = record entry_activated { phase = ready state_loaded (version_of (map.get w.rows g)); until = 0; resting = false }

  abbrev pub after_load : Whole
  after_load = record after_activate { entries = map.insert after_activate.entries g entry_loaded }

  abbrev entry_begun : Entry
  entry_begun = record entry_loaded { queue = []; turns = map.insert map.empty first.number first }

  abbrev pub after_begin : Whole
  after_begin = record after_load { entries = map.insert after_load.entries g entry_begun }

  abbrev first_plan : Plan
  first_plan = plan_of counters g state_loaded first

  abbrev entry_ended : Entry
  entry_ended = closed_entry w.clock entry_begun first first_plan.state (version_of (map.get w.rows g)) same

  abbrev pub after_end : Whole
  after_end = record after_begin { entries = map.insert after_begin.entries g entry_ended; replies = w.replies ++ reply_to first.sender (outcome_of first_plan.outcome) }

  pub calls : map.get w.accounts caller.tenant ≡ Some a → g.tenant ≡ caller.tenant → g.kind ≡ codes "counter" → (a.count == last_number) ≡ false → map.get w.entries g ≡ None → nat_lt (active_of w caller.tenant) a.limits.activations ≡ true
      → whole_step counters w (Call caller id g (add_call n)) ≡ Some after_call
  calls known own kind left absent free = call_new counters w caller id g (add_call n) a known own (knows_counter g.kind kind) left absent free

  pub activates : whole_step counters after_call (Activate g) ≡ Some after_activate
  activates = activate_waiting counters after_call g entry_called (put_there w.entries g entry_called) refl

  pub loads : whole_step counters after_activate (Load g false) ≡ Some after_load
  loads = load_loading counters after_activate g entry_activated (put_there after_call.entries g entry_activated) refl

  pub loaded_there : map.get after_load.entries g ≡ Some entry_loaded
  loaded_there = put_there after_activate.entries g entry_loaded

  pub begins : whole_step counters after_load (Begin g) ≡ Some after_begin
  begins =
      begin_first counters after_load g entry_loaded loaded_there state_loaded (version_of (map.get w.rows g)) first [] refl refl
      (may_open_alone counters g entry_loaded first (map.len-empty nat_cmp Request))

  pub ends : whole_step counters after_begin (End g first.number) ≡ Some after_end
  ends =
      end_counter after_begin g first.number entry_begun first state_loaded (version_of (map.get w.rows g)) (put_there after_load.entries g entry_begun) (turn_there map.empty first) refl refl

  -- the tenant has one entry more
  pub one_more : g.tenant ≡ caller.tenant → map.get w.entries g ≡ None → active_of after_end caller.tenant ≡ active_of w caller.tenant + 1
  one_more own absent =
      let t = caller.tenant in
      active-again after_begin.entries t g entry_ended entry_begun (put_there after_load.entries g entry_begun)
      ∙ active-again after_load.entries t g entry_begun entry_loaded loaded_there
      ∙ active-again after_activate.entries t g entry_loaded entry_activated (put_there after_call.entries g entry_activated)
      ∙ active-again after_call.entries t g entry_activated entry_called (put_there w.entries g entry_called)
      ∙ len_part-insert grain_cmp_total grain_cmp_exact w.entries (is_of t) g entry_called true absent ((same_text_decides g.tenant t).1 own)

  module _ (none : map.get w.rows g ≡ None) (fits : fits_64 n ≡ true) where
    first_plan_is : first_plan ≡ becomes (integer n) (integer n)
    first_plan_is =
        added g.kind state_loaded (pos 0) n (ap (content_or (counters.empty g.kind)) none ∙ empty_counter g.kind) (ap fits_64 (+ℤ_idl n) ∙ fits)
        ∙ ap (λ z. becomes (integer z) (integer z)) (+ℤ_idl n)

    pub first_replies : after_end.replies ≡ w.replies ++ told (party.Client caller id) (Ok (integer n))
    first_replies = ap (λ (p : Plan). w.replies ++ told (party.Client caller id) (outcome_of p.outcome)) first_plan_is

    pub first_up : ((a.count + 1) == last_number) ≡ false → 0 < a.limits.mailbox → IsUp after_end (record a { count = a.count + 1 }) caller g n
    first_up left room = record {
      known = get-insert_same text_cmp_total text_cmp_exact w.accounts caller.tenant (record a { count = a.count + 1 });
      left = left;
      room = room;
      entry = entry_ended;
      found = put_there after_begin.entries g entry_ended;
      version = version_of (map.get w.rows g);
      phase = ap (λ (p : Plan). ready p.state (version_of (map.get w.rows g))) first_plan_is;
      queue = refl;
      none_open = none_left map.empty first (map.len-empty nat_cmp Request) (map.get-empty nat_cmp first.number);
      awake = refl;
    }

-- ---- a call of a counter that is up

module _ (w : Whole) (a : Account) (caller : Client) (id : ℕ) (g : Grain) (m n : ℤ) (up : IsUp w a caller g m) where
  abbrev pub next : Request
  next = next_request a (party.Client caller id) (add_call n)

  abbrev entry_asked : Entry
  entry_asked = record up.entry { queue = up.entry.queue ++ next ∷ []; last = w.clock }

  abbrev pub after_asked : Whole
  after_asked = record w { accounts = map.insert w.accounts caller.tenant (record a { count = a.count + 1 }); entries = map.insert w.entries g entry_asked }

  abbrev entry_turned : Entry
  entry_turned = record entry_asked { queue = []; turns = map.insert up.entry.turns next.number next }

  abbrev pub after_turned : Whole
  after_turned = record after_asked { entries = map.insert after_asked.entries g entry_turned }

  abbrev next_plan : Plan
  next_plan = plan_of counters g (integer m) next

  abbrev entry_closed : Entry
  entry_closed = closed_entry w.clock entry_turned next next_plan.state up.version same

  abbrev pub after_closed : Whole
  after_closed = record after_turned { entries = map.insert after_turned.entries g entry_closed; replies = w.replies ++ reply_to next.sender (outcome_of next_plan.outcome) }

  pub asks : g.tenant ≡ caller.tenant → g.kind ≡ codes "counter" → whole_step counters w (Call caller id g (add_call n)) ≡ Some after_asked
  asks own kind =
      call_again counters w caller id g (add_call n) a up.known own (knows_counter g.kind kind) up.left up.entry up.found
      (ap (λ (qs : List Request). nat_lt (length qs) a.limits.mailbox) up.queue ∙ lt-ltb 0 a.limits.mailbox up.room)

  pub asked_there : map.get after_asked.entries g ≡ Some entry_asked
  asked_there = put_there w.entries g entry_asked

  pub asked_queue : entry_asked.queue ≡ next ∷ []
  asked_queue = ap (λ (qs : List Request). qs ++ next ∷ []) up.queue

  -- it isn't activated again
  pub not_raised : whole_step counters after_asked (Activate g) ≡ None
  not_raised = activate_found counters after_asked g entry_asked asked_there None (ap (activated entry_asked) up.phase)

  pub turns : whole_step counters after_asked (Begin g) ≡ Some after_turned
  turns =
      begin_first counters after_asked g entry_asked asked_there (integer m) up.version next [] up.phase asked_queue
      (may_open_alone counters g entry_asked next up.none_open)

  pub closes : whole_step counters after_turned (End g next.number) ≡ Some after_closed
  closes =
      end_counter after_turned g next.number entry_turned next (integer m) up.version (put_there after_asked.entries g entry_turned) (turn_there up.entry.turns next) up.phase up.awake

  pub next_replies : fits_64 (m +ℤ n) ≡ true → after_closed.replies ≡ w.replies ++ told (party.Client caller id) (Ok (integer (m +ℤ n)))
  next_replies fits = ap (λ (p : Plan). w.replies ++ told (party.Client caller id) (outcome_of p.outcome)) (added g.kind (integer m) m n refl fits)

  pub next_known : map.get after_closed.accounts caller.tenant ≡ Some (record a { count = a.count + 1 })
  next_known = get-insert_same text_cmp_total text_cmp_exact w.accounts caller.tenant (record a { count = a.count + 1 })

  -- the tenant has no entry more
  pub as_many : active_of after_closed caller.tenant ≡ active_of w caller.tenant
  as_many =
      let t = caller.tenant in
      active-again after_turned.entries t g entry_closed entry_turned (put_there after_asked.entries g entry_turned)
      ∙ active-again after_asked.entries t g entry_turned entry_asked asked_there
      ∙ active-again w.entries t g entry_asked up.entry up.found
