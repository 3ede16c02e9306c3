-- What is done is what is done with good luck, if the storage didn't fail and no turn was given up for want of memory.
use Rattle.silo_model.proofs.Common.{if◌then◌else◌, ◌++◌, ◌∙◌, ◌∷◌, ◌≡◌, Abandon, Activate, AllByRecursion, Begin, Bool, Call, Client}
use Rattle.silo_model.proofs.Common.{Deliver, Effect, End, Entry, Grain, List, Load, Logic, None, Option, Party, Phase, Plan, Poke, Refuse}
use Rattle.silo_model.proofs.Common.{Request, Send, Setup, Some, Status, Step, StorageCall, Store, Sweep, Tick, Tree, Whole, [], and_parts}
use Rattle.silo_model.proofs.Common.{ap, asking_of, asks_nothing, clears_row, done_by, false, get-insert_same, grain_cmp_exact}
use Rattle.silo_model.proofs.Common.{grain_cmp_total, if_possible, inl, inr, is_some, loading, none-some, not, owner_of, plan_of, reads_row}
use Rattle.silo_model.proofs.Common.{ready, refl, sends_of, stored_by, subst, suc, sym, true, true≢false, unwrap_or, waiting, whole_run}
use Rattle.silo_model.proofs.Common.{whole_step, writes_row, zero, ℕ}
use Rattle.std.specs.Prelude.{◌-◌}
use Rattle.std.specs.FinMap as map
use Rattle.request_codec.specs.Call as codec
use Rattle.silo_event.specs.declared.reply.Party.TheVariants as party
use Rattle.silo_model.proofs.EffectKinds.{asks, role_of}
use Rattle.silo_model.proofs.EntrySteps.{activate_waiting, load_fails}
use Rattle.silo_model.proofs.Isolation.{place_in}
use Rattle.silo_model.proofs.Runs.{done_by-append}
use Rattle.silo_model.proofs.TurnSteps.{abandon_turn, end_clears, end_reads, end_turn, end_writes, seen_at, store_failed}
use Rattle.silo_event.specs.Failed.{has_failed}
use Rattle.answer_model.specs.Answering.{Asked, Closing, Luck, all_have_memory, answering, bringing, called_grain, closing, delivered_bytes}
use Rattle.answer_model.specs.Answering.{deliveries, deliveries_of, delivering, ending, first_luck, given_up_if, good, has_memory, is_asked}
use Rattle.answer_model.specs.Answering.{is_closed, later_luck, oldest_bytes, out_of_memory, raising, serving, serving_if, storage_failed}
use Rattle.answer_model.specs.Answering.{taken, taken_by, too_many_wait, turn_of, turn_of_first, turning, well, whole_stepper}
use Rattle.answer_model.specs.Idle.{AllIdle}
use Rattle.answer_model.specs.Certain.{AllStored, AllWell, AnsweredCertainly, AnsweredSurely, luckily, went_well}
use Rattle.answer_model.proofs.Apart.{asked_done, taken_call}
use Rattle.silo_model.proofs.Tests.{on_found}
use Rattle.answer_model.proofs.Brought.{Brings, brings, is_told, waits}
use Rattle.answer_model.proofs.Raised.{IsAlone, Raises, begins, begun, begun_entry, is_open, none_to_turn, not_activated, raises_by}
use Rattle.answer_model.proofs.Reached.{IsReached, run_reached}
use Rattle.answer_model.proofs.Idle.{alone, asked_settles, delivering_goes, is_served, not_served}
use Rattle.answer_model.proofs.Served.{is_delivered, source_own, target_is}

-- ---- a test of steps, and lists of steps that all pass

-- no step that has the mark of a failure passes
abbrev FailsMarked : (Step → Bool) → Type 0
FailsMarked passes = (s : Step) → has_failed s ≡ true → passes s ≡ false

abbrev AllPass : (Step → Bool) → List Step → Type 0
AllPass passes steps = AllByRecursion (λ s. passes s ≡ true) steps

AllPass-split : (passes : Step → Bool) (steps others : List Step) → AllPass passes (steps ++ others) → AllPass passes steps × AllPass passes others
AllPass-split passes [] others all = (tt, all)
AllPass-split passes (s ∷ steps) others all =
    let rest = AllPass-split passes steps others all.1 in
    ((all.0, rest.0), rest.1)

module _ (logic : Logic) where
  abbrev pub done : Whole → List Step → List Step
  done w steps = done_by (whole_step logic) w steps

  module _ (passes : Step → Bool) where
    -- of those that are tried: the first, and the others
    first_passes : (w after : Whole) (s : Step) (steps : List Step) → whole_step logic w s ≡ Some after → AllPass passes (done w (s ∷ steps))
        → (passes s ≡ true) × AllPass passes (done after steps)
    first_passes w after s steps step all = subst (λ o. AllPass passes (if_possible s o ++ done (unwrap_or o w) steps)) step all

    parts_pass : (w : Whole) (steps others : List Step) → AllPass passes (done w (steps ++ others))
        → AllPass passes (done w steps) × AllPass passes (done (whole_run logic w steps) others)
    parts_pass w steps others all =
        AllPass-split passes (done w steps) (done (whole_run logic w steps) others) (subst (AllPass passes) (done_by-append (whole_step logic) w steps others) all)

-- ---- two ways to close a turn

-- They are the same; or the other is to close it well, and a step by which the first shows doesn't pass.
data IsAlike (passes : Step → Bool) : Closing → Closing → Type 0 where
  alike_itself : (how : Closing) → IsAlike passes how how
  alike_stored : IsAlike passes storage_failed well
  alike_kept : ((g : Grain) (turn : ℕ) → passes (Abandon g turn) ≡ false) → IsAlike passes out_of_memory well

-- each is alike to good luck
abbrev AllAlike : (Step → Bool) → List Luck → Type 0
AllAlike passes lucks = AllByRecursion (λ (luck : Luck). IsAlike passes luck.closing well) lucks

first_fits : (passes : Step → Bool) (lucks : List Luck) → AllAlike passes lucks → IsAlike passes (first_luck lucks).closing well
first_fits passes [] fits = alike_itself well
first_fits passes (luck ∷ lucks) fits = fits.0

later_fits : (passes : Step → Bool) (lucks : List Luck) → AllAlike passes lucks → AllAlike passes (later_luck lucks)
later_fits passes [] fits = tt
later_fits passes (luck ∷ lucks) fits = fits.1

-- where a turn is given up in any case, it is so with good luck
given_up_fits : (passes : Step → Bool) (b : Bool) (luck : Luck) → IsAlike passes luck.closing well
    → IsAlike passes (given_up_if b luck).closing (given_up_if b good).closing
given_up_fits passes true luck fits = alike_itself out_of_memory
given_up_fits passes false luck fits = fits

given_up_loads : (b : Bool) → (given_up_if b good).loading_failed ≡ false
given_up_loads true = refl
given_up_loads false = refl

-- ---- an open turn is closed

module _ (logic : Logic) (passes : Step → Bool) (marked : FailsMarked passes) (w : Whole) (g : Grain) (e : Entry) (found : map.get w.entries g ≡ Some e) (q : Request)
    (open_turn : map.get e.turns q.number ≡ Some q) (state : Tree) (version : Option ℕ) (is : e.phase ≡ ready state version) where
  abbrev plan : Plan
  plan = plan_of logic g state q

  abbrev ending_if : Bool → Option Whole → List Step
  ending_if failed o = if is_some o then End g q.number ∷ [] else Store g q.number failed ∷ []

  abbrev EndsWell : Type 0
  EndsWell = AllPass passes (done logic w (ending (whole_stepper logic) w g q.number true))

  abbrev EndsAlike : Type 0
  EndsAlike = ending (whole_stepper logic) w g q.number true ≡ ending (whole_stepper logic) w g q.number false

  storage_fails : (storage : StorageCall) (answer : Effect) → plan.storage ≡ storage → stored_by logic (seen_at w g) g e q state version storage ≡ Some answer
      → whole_step logic w (End g q.number) ≡ None → EndsWell → ⊥
  storage_fails storage answer calls h none all =
      let stores = store_failed logic w g q.number e found q open_turn state version is plan refl storage answer calls h in
      let first = first_passes logic passes w _ (Store g q.number true) [] stores (subst (λ o. AllPass passes (done logic w (ending_if true o))) none all) in
      true≢false (sym first.0 ∙ marked (Store g q.number true) refl)

  ends_alike : (storage : StorageCall) → plan.storage ≡ storage → EndsWell → EndsAlike
  ends_alike asks_nothing calls all =
      let ended = end_turn logic w g q.number e found q open_turn state version is plan refl calls in
      ap (ending_if true) ended ∙ sym (ap (ending_if false) ended)
  ends_alike reads_row calls all =
      absurd (storage_fails reads_row _ calls refl (end_reads logic w g q.number e found q open_turn state version is plan refl calls) all)
  ends_alike writes_row calls all =
      absurd (storage_fails writes_row _ calls refl (end_writes logic w g q.number e found q open_turn state version is plan refl calls) all)
  ends_alike clears_row calls all =
      absurd (storage_fails clears_row _ calls refl (end_clears logic w g q.number e found q open_turn state version is plan refl calls) all)

  closes_alike : (how other : Closing) → IsAlike passes how other → AllPass passes (done logic w (closing (whole_stepper logic) w g q.number how))
      → closing (whole_stepper logic) w g q.number how ≡ closing (whole_stepper logic) w g q.number other
  closes_alike _ _ (alike_itself how) all = refl
  closes_alike _ _ alike_stored all = ends_alike plan.storage refl all
  closes_alike _ _ (alike_kept never) all =
      let first = first_passes logic passes w _ (Abandon g q.number) [] (abandon_turn logic w g q.number e found q open_turn) all in
      absurd (true≢false (sym first.0 ∙ never g q.number))

-- ---- a request that waits alone is served

module _ (logic : Logic) (passes : Step → Bool) (marked : FailsMarked passes) (w : Whole) (g : Grain) (q : Request) (alone : IsAlone w g q) where
  abbrev raising_by : Bool → Option Whole → List Step
  raising_by failed o = if is_some o then Activate g ∷ Load g failed ∷ [] else []

  abbrev RaisesAlike : Bool → Type 0
  RaisesAlike failed = raising (whole_stepper logic) w g failed ≡ raising (whole_stepper logic) w g false

  loading_fails : (p : Phase) → alone.entry.phase ≡ p → AllPass passes (done logic w (raising (whole_stepper logic) w g true)) → RaisesAlike true
  loading_fails waiting is all =
      let new : Entry = record alone.entry { phase = loading } in
      let next : Whole = record w { entries = map.insert w.entries g new } in
      let activates = activate_waiting logic w g alone.entry alone.found is in
      let later = first_passes logic passes w next (Activate g) (Load g true ∷ []) activates (subst (λ o. AllPass passes (done logic w (raising_by true o))) activates all) in
      let loads = load_fails logic next g new (get-insert_same grain_cmp_total grain_cmp_exact w.entries g new) refl in
      absurd (true≢false (sym (first_passes logic passes next _ (Load g true) [] loads later.1).0 ∙ marked (Load g true) refl))
  loading_fails loading is all = absurd (alone.not_loading is)
  loading_fails (ready state version) is all =
      let never = not_activated logic w g q alone (ready state version) is refl in
      ap (raising_by true) never ∙ sym (ap (raising_by false) never)

  raises_alike : (failed : Bool) → AllPass passes (done logic w (raising (whole_stepper logic) w g failed)) → RaisesAlike failed
  raises_alike true all = loading_fails alone.entry.phase refl all
  raises_alike false all = refl

  module _ (state : Tree) (version : Option ℕ) (is : alone.entry.phase ≡ ready state version) where
    abbrev after : Whole
    after = begun logic w g q alone state version is

    turning_is : (how : Closing) → turning (whole_stepper logic) w g how ≡ Begin g ∷ closing (whole_stepper logic) after g q.number how
    turning_is how =
        let by = whole_stepper logic in
        let starts = begins logic w g q alone state version is in
        ap (λ o. if is_some o then turn_of by w g how (map.get w.entries g) else []) starts
        ∙ ap (turn_of by w g how) alone.found
        ∙ ap (turn_of_first by w g how) alone.queue
        ∙ ap (λ o. Begin g ∷ closing by (unwrap_or o w) g q.number how) starts

    turns_alike : (how other : Closing) → IsAlike passes how other → AllPass passes (done logic w (turning (whole_stepper logic) w g how))
        → turning (whole_stepper logic) w g how ≡ turning (whole_stepper logic) w g other
    turns_alike how other fits all =
        let entry = begun_entry logic w g q alone state version is in
        let later = first_passes logic passes w after (Begin g) (closing (whole_stepper logic) after g q.number how) (begins logic w g q alone state version is)
        (subst (λ steps. AllPass passes (done logic w steps)) (turning_is how) all) in
        turning_is how
        ∙ ap (λ steps. Begin g ∷ steps)
        (closes_alike logic passes marked after g entry (get-insert_same grain_cmp_total grain_cmp_exact w.entries g entry) q (is_open logic w g q alone state version is) state version is how other fits later.1)
        ∙ sym (turning_is other)

module _ (logic : Logic) (passes : Step → Bool) (marked : FailsMarked passes) (w : Whole) (g : Grain) (q : Request) (luck other : Luck)
    (loads : other.loading_failed ≡ false) (fits : IsAlike passes luck.closing other.closing) (alone : IsAlone w g q) where
  abbrev up : List Step
  up = raising (whole_stepper logic) w g luck.loading_failed

  abbrev raised : Whole
  raised = whole_run logic w up

  by_raising : Raises w raised g q → AllPass passes (done logic raised (turning (whole_stepper logic) raised g luck.closing))
      → turning (whole_stepper logic) raised g luck.closing ≡ turning (whole_stepper logic) raised g other.closing
  by_raising (inl is_up) all =
      turns_alike logic passes marked raised g q is_up.alone is_up.state is_up.version is_up.phase luck.closing other.closing fits all
  by_raising (inr down) all = none_turned luck.closing ∙ sym (none_turned other.closing)
    where
      none_turned : (how : Closing) → turning (whole_stepper logic) raised g how ≡ []
      none_turned how =
          none_to_turn logic w g q (record luck { closing = how }) alone (is_some (whole_step logic raised (Begin g))) (map.get raised.entries g) down.1

  serves_alike : AllPass passes (done logic w (serving (whole_stepper logic) w g luck)) → serving (whole_stepper logic) w g luck ≡ serving (whole_stepper logic) w g other
  serves_alike all =
      let by = whole_stepper logic in
      let parts = parts_pass logic passes w up (turning by raised g luck.closing) all in
      ap (λ steps. up ++ steps) (by_raising (raises_by logic w g q alone luck.loading_failed alone.entry.phase refl) parts.1)
      ∙ ap (λ steps. steps ++ turning by (whole_run logic w steps) g other.closing)
      (raises_alike logic passes marked w g q alone luck.loading_failed parts.0 ∙ ap (raising by w g) (sym loads))

-- ---- a step that may bring one

module _ (logic : Logic) (passes : Step → Bool) (marked : FailsMarked passes) (w : Whole) (idle : AllIdle w.entries) (s : Step) (luck other : Luck)
    (loads : other.loading_failed ≡ false) (fits : IsAlike passes luck.closing other.closing) (after : Whole) (step : whole_step logic w s ≡ Some after) where
  bringing_is : (grain : Option Grain) (l : Luck) → bringing (whole_stepper logic) w s grain l ≡ s ∷ serving_if (whole_stepper logic) w after grain l
  bringing_is grain l = ap (λ o. s ∷ serving_if (whole_stepper logic) w (unwrap_or o w) grain l) step

  if_alike : (owner : List ℕ) (p : Party) (grain : Option Grain) → Brings w after owner p grain → AllPass passes (done logic after (serving_if (whole_stepper logic) w after grain luck))
      → serving_if (whole_stepper logic) w after grain luck ≡ serving_if (whole_stepper logic) w after grain other
  if_alike owner p grain (is_told _ outcome entries replies) all =
      not_served logic w idle s luck after step grain p outcome replies ∙ sym (not_served logic w idle s other after step grain p outcome replies)
  if_alike owner p grain (waits g q own sender entries replies) all =
      let served = is_served logic w idle s luck after step g replies in
      served
      ∙ serves_alike logic passes marked after g q luck other loads fits (alone w after g q idle entries) (subst (λ steps. AllPass passes (done logic after steps)) served all)
      ∙ sym (is_served logic w idle s other after step g replies)

  brings_alike : (owner : List ℕ) (p : Party) (grain : Option Grain) → Brings w after owner p grain → AllPass passes (done logic w (bringing (whole_stepper logic) w s grain luck))
      → bringing (whole_stepper logic) w s grain luck ≡ bringing (whole_stepper logic) w s grain other
  brings_alike owner p grain brought all =
      let later = first_passes logic passes w after s (serving_if (whole_stepper logic) w after grain luck) step (subst (λ steps. AllPass passes (done logic w steps)) (bringing_is grain luck) all) in
      bringing_is grain luck ∙ ap (λ steps. s ∷ steps) (if_alike owner p grain brought later.1) ∙ sym (bringing_is grain other)

-- if it can't but be done
module _ (logic : Logic) (passes : Step → Bool) (marked : FailsMarked passes) (w : Whole) (idle : AllIdle w.entries) (s : Step) (luck other : Luck)
    (loads : other.loading_failed ≡ false) (fits : IsAlike passes luck.closing other.closing) (owner : List ℕ) (p : Party) (grain : Option Grain)
    (is : owner_of s ≡ Some owner) (role : role_of s ≡ asks p) (place : place_in w owner s ≡ grain) (can : whole_step logic w s ≡ None → ⊥) where
  asks_alike : AllPass passes (done logic w (bringing (whole_stepper logic) w s grain luck)) → bringing (whole_stepper logic) w s grain luck ≡ bringing (whole_stepper logic) w s grain other
  asks_alike all =
      on_found (λ _. bringing (whole_stepper logic) w s grain luck ≡ bringing (whole_stepper logic) w s grain other) (whole_step logic w s)
      (λ none. absurd (can none))
      (λ after step.
      brings_alike logic passes marked w idle s luck other loads fits after step owner p grain (subst (Brings w after owner p) place (brings logic w after s owner p is role step)) all)

-- ---- what is asked

module _ (logic : Logic) (passes : Step → Bool) (marked : FailsMarked passes) (w : Whole) (idle : AllIdle w.entries) (luck : Luck)
    (fits : IsAlike passes luck.closing well) where
  abbrev FirstAlike : Step → Type 0
  FirstAlike s = AllPass passes (done logic w (bringing (whole_stepper logic) w (taken_by luck.asking_failed s) (called_grain s) luck))
      → bringing (whole_stepper logic) w (taken_by luck.asking_failed s) (called_grain s) luck ≡ bringing (whole_stepper logic) w s (called_grain s) good

  poke_alike : (b : Bool) (caller : Client) (id : ℕ) (g : Grain) (state : Tree) → AllPass passes (done logic w (taken_by b (Poke false caller id g state) ∷ []))
      → taken_by b (Poke false caller id g state) ≡ Poke false caller id g state
  poke_alike false caller id g state all = refl
  poke_alike true caller id g state all =
      let s : Step = Poke true caller id g state in
      on_found (λ _. s ≡ Poke false caller id g state) (whole_step logic w s)
      (λ none. absurd (asked_done logic w false s (caller, id) refl none))
      (λ after step. absurd (true≢false (sym (first_passes logic passes w after s [] step all).0 ∙ marked s refl)))

  call_alike : (caller : Client) (id : ℕ) (g : Grain) (message : codec.Call) → FirstAlike (Call caller id g message)
  call_alike caller id g message all =
      let s : Step = Call caller id g message in
      let same : taken_by luck.asking_failed s ≡ s = taken_call luck.asking_failed caller id g message in
      ap (λ x. bringing (whole_stepper logic) w x (Some g) luck) same
      ∙ asks_alike logic passes marked w idle s luck good refl fits caller.tenant (party.Client caller id) (Some g) refl refl refl (asked_done logic w false s (caller, id) refl)
      (subst (λ x. AllPass passes (done logic w (bringing (whole_stepper logic) w x (Some g) luck))) same all)

  plainly : (b : Bool) (s : Step) → taken_by true s ≡ s → taken_by b s ≡ s
  plainly true s is = is
  plainly false s is = refl

  first_alike : (s : Step) → is_asked s ≡ true → FirstAlike s
  first_alike (Refuse caller id code) asked all = ap (λ x. x ∷ []) (plainly luck.asking_failed (Refuse caller id code) refl)
  first_alike (Call caller id g message) asked all = call_alike caller id g message all
  first_alike (Poke false caller id g state) asked all = ap (λ x. x ∷ []) (poke_alike luck.asking_failed caller id g state all)
  first_alike (Poke true caller id g state) asked all = absurd (true≢false (sym asked))
  first_alike (Status caller id) asked all = ap (λ x. x ∷ []) (plainly luck.asking_failed (Status caller id) refl)
  first_alike (Tick now) asked all = ap (λ x. x ∷ []) (plainly luck.asking_failed (Tick now) refl)
  first_alike Sweep asked all = ap (λ x. x ∷ []) (plainly luck.asking_failed Sweep refl)
  first_alike _ asked all = absurd (true≢false (sym asked))

-- ---- with the deliveries behind it

module _ (logic : Logic) (passes : Step → Bool) (marked : FailsMarked passes) (setup : Setup) (tenant : List ℕ) where
  delivers_alike : (w : Whole) (sends : List Send) (luck : Luck) → IsAlike passes luck.closing well → IsReached logic setup w → AllIdle w.entries
      → sends_of (map.get w.accounts tenant) ≡ sends → AllPass passes (done logic w (delivering (whole_stepper logic) w sends luck))
      → delivering (whole_stepper logic) w sends luck ≡ delivering (whole_stepper logic) w sends good
  delivers_alike w [] luck fits reached idle is all = refl
  delivers_alike w (oldest ∷ others) luck fits reached idle is all =
      let own = source_own logic setup tenant oldest others w reached is in
      let many = too_many_wait (oldest ∷ others) in
      asks_alike logic passes marked w idle (Deliver oldest.source) (given_up_if many luck) (given_up_if many good) (given_up_loads many) (given_up_fits passes many luck fits)
      tenant (party.Grain oldest.source) (Some oldest.message.target) (ap Some own) refl
      (target_is logic setup tenant oldest others w is) (is_delivered logic setup tenant oldest others w own is) all

  deliver_alike : (n room : ℕ) (w : Whole) (lucks : List Luck) → AllAlike passes lucks → IsReached logic setup w → AllIdle w.entries
      → AllPass passes (done logic w (deliveries (whole_stepper logic) n room w tenant lucks))
      → deliveries (whole_stepper logic) n room w tenant lucks ≡ deliveries (whole_stepper logic) n room w tenant []
  deliver_alike zero room w lucks fits reached idle all = refl
  deliver_alike (suc n) zero w lucks fits reached idle all = refl
  deliver_alike (suc n) (suc room) w lucks fits reached idle all =
      let by = whole_stepper logic in
      let sends = sends_of (map.get w.accounts tenant) in
      let left = suc room - oldest_bytes sends in
      let luck = first_luck lucks in
      let steps = delivering by w sends luck in
      let next = whole_run logic w steps in
      let parts = parts_pass logic passes w steps (deliveries by n left next tenant (later_luck lucks)) all in
      let goes = delivering_goes logic setup tenant w sends luck reached idle refl in
      let later = deliver_alike n left next (later_luck lucks) (later_fits passes lucks fits) (run_reached logic setup steps w reached) goes.idle parts.1 in
      ap (λ others. steps ++ others) later
      ∙ ap (λ ss. ss ++ deliveries by n left (whole_run logic w ss) tenant []) (delivers_alike w sends luck (first_fits passes lucks fits) reached idle refl parts.0)

-- what a tenant asks, a client of it asks
client_of : (s : Step) (owner : List ℕ) → owner_of s ≡ Some owner → is_asked s ≡ true → (asking : Client × ℕ) × (asking_of s ≡ Some asking)
client_of (Refuse caller id code) owner own asked = ((caller, id), refl)
client_of (Call caller id g message) owner own asked = ((caller, id), refl)
client_of (Poke failed caller id g state) owner own asked = ((caller, id), refl)
client_of (Status caller id) owner own asked = ((caller, id), refl)
client_of (Tick now) owner own asked = absurd (none-some owner own)
client_of Sweep owner own asked = absurd (none-some owner own)
client_of _ owner own asked = absurd (true≢false (sym asked))

module _ (logic : Logic) (passes : Step → Bool) (marked : FailsMarked passes) (setup : Setup) (n : ℕ) (w : Whole) (reached : IsReached logic setup w) (idle : AllIdle w.entries)
    (asked : Asked) (is : is_asked asked.step ≡ true) (fits : AllAlike passes asked.lucks) where
  abbrev luck : Luck
  luck = first_luck asked.lucks

  abbrev first : List Step
  first = bringing (whole_stepper logic) w (taken asked) (called_grain asked.step) luck

  abbrev next : Whole
  next = whole_run logic w first

  later_alike : (owner : Option (List ℕ)) → owner_of asked.step ≡ owner → AllPass passes (done logic next (deliveries_of (whole_stepper logic) n next owner (later_luck asked.lucks)))
      → deliveries_of (whole_stepper logic) n next owner (later_luck asked.lucks) ≡ deliveries_of (whole_stepper logic) n next owner []
  later_alike None own all = refl
  later_alike (Some owner) own all =
      let client = client_of asked.step owner own is in
      deliver_alike logic passes marked setup owner n delivered_bytes next (later_luck asked.lucks) (later_fits passes asked.lucks fits) (run_reached logic setup first w reached)
      (asked_settles logic w idle luck asked.step client.0 client.1).idle all

  all_alike : AllPass passes (done logic w (answering (whole_stepper logic) n w asked)) → answering (whole_stepper logic) n w asked ≡ answering (whole_stepper logic) n w (luckily asked)
  all_alike all =
      let by = whole_stepper logic in
      let parts = parts_pass logic passes w first (deliveries_of by n next (owner_of asked.step) (later_luck asked.lucks)) all in
      ap (λ others. first ++ others) (later_alike (owner_of asked.step) refl parts.1)
      ∙ ap (λ steps. steps ++ deliveries_of by n (whole_run logic w steps) (owner_of asked.step) []) (first_alike logic passes marked w idle luck (first_fits passes asked.lucks fits) asked.step is parts.0)

-- ---- where all went well

pub AllWell-split : (steps others : List Step) → AllWell (steps ++ others) → AllWell steps × AllWell others
AllWell-split [] others all = (tt, all)
AllWell-split (s ∷ steps) others all =
    let rest = AllWell-split steps others all.1 in
    ((all.0, rest.0), rest.1)

pub parts_well : (logic : Logic) (w : Whole) (steps others : List Step) → AllWell (done logic w (steps ++ others))
    → AllWell (done logic w steps) × AllWell (done logic (whole_run logic w steps) others)
parts_well logic w steps others all =
    AllWell-split (done logic w steps) (done logic (whole_run logic w steps) others) (subst AllWell (done_by-append (whole_step logic) w steps others) all)

failed_badly : FailsMarked went_well
failed_badly (Poke failed caller id g state) is = ap not is
failed_badly (Load g failed) is = ap not is
failed_badly (Store g turn failed) is = ap not is
failed_badly _ is = absurd (true≢false (sym is))

well_passes : (steps : List Step) → AllWell steps → AllPass went_well steps
well_passes [] all = tt
well_passes (s ∷ steps) all = (all.0, well_passes steps all.1)

-- any luck is alike then
any_fits : (how : Closing) → IsAlike went_well how well
any_fits well = alike_itself well
any_fits storage_failed = alike_stored
any_fits out_of_memory = alike_kept (λ g turn. refl)

all_fit : (lucks : List Luck) → AllAlike went_well lucks
all_fit [] = tt
all_fit (luck ∷ lucks) = (any_fits luck.closing, all_fit lucks)

pub answered_certainly : AnsweredCertainly
answered_certainly logic setup journal w n asked leads idle is all =
    all_alike logic went_well failed_badly setup n w (journal, leads) idle asked is (all_fit asked.lucks) (well_passes _ all)

-- ---- where the storage didn't fail and there was memory

pub AllStored-split : (steps others : List Step) → AllStored (steps ++ others) → AllStored steps × AllStored others
AllStored-split [] others all = (tt, all)
AllStored-split (s ∷ steps) others all =
    let rest = AllStored-split steps others all.1 in
    ((all.0, rest.0), rest.1)

pub parts_stored : (logic : Logic) (w : Whole) (steps others : List Step) → AllStored (done logic w (steps ++ others))
    → AllStored (done logic w steps) × AllStored (done logic (whole_run logic w steps) others)
parts_stored logic w steps others all =
    AllStored-split (done logic w steps) (done logic (whole_run logic w steps) others) (subst AllStored (done_by-append (whole_step logic) w steps others) all)

abbrev is_stored : Step → Bool
is_stored s = not (has_failed s)

stored_passes : (steps : List Step) → AllStored steps → AllPass is_stored steps
stored_passes [] all = tt
stored_passes (s ∷ steps) all = (ap not all.0, stored_passes steps all.1)

closed_fits : (how : Closing) → is_closed how ≡ true → IsAlike is_stored how well
closed_fits well h = alike_itself well
closed_fits storage_failed h = alike_stored
closed_fits out_of_memory h = absurd (true≢false (sym h))

closed_fit : (lucks : List Luck) → all_have_memory lucks ≡ true → AllAlike is_stored lucks
closed_fit [] h = tt
closed_fit (luck ∷ lucks) h =
    let parts = and_parts (has_memory luck) (all_have_memory lucks) h in
    (closed_fits luck.closing parts.0, closed_fit lucks parts.1)

pub answered_surely : AnsweredSurely
answered_surely logic setup journal w n asked leads idle is memory all =
    all_alike logic is_stored (λ s failed. ap not failed) setup n w (journal, leads) idle asked is (closed_fit asked.lucks memory) (stored_passes _ all)
