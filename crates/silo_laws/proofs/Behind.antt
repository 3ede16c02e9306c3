-- How many deliveries follow what is asked, how many bytes they have, and which is the first.
use Rattle.silo_model.proofs.Common.{if◌then◌else◌, ◌++◌, ◌+◌, ◌<◌, ◌∙◌, ◌∷◌, ◌≡◌, ◌≤◌, ◌⊎◌, Abandon, Activate, Begin, Bool, Call, Deliver}
use Rattle.silo_model.proofs.Common.{End, Entry, Grain, List, Load, Logic, None, Option, Poke, Refuse, Request, Send, Setup, Some, Status}
use Rattle.silo_model.proofs.Common.{Step, Store, Sweep, Tick, Whole, [], ap, append-nil, append_assoc, arith, cond, false, first_from, inl}
use Rattle.silo_model.proofs.Common.{inr, owner_of, refl, sends_of, subst, suc, sum_by-append, sum_by-cons, sym, true, true≢false}
use Rattle.silo_model.proofs.Common.{whole_run, zero, ℕ}
use Rattle.std.specs.Prelude.{◌-◌, count_by}
use Rattle.silo_model.proofs.Runs.{whole_after}
use Rattle.tenant_accounts.specs.Sends.{message_bytes, sent_bytes}
use Rattle.std.specs.FinMap as map
use Rattle.answer_model.specs.Answering.{Asked, Closing, Luck, Stepper, answering, bringing, called_grain, closing, delivered_bytes}
use Rattle.answer_model.specs.Answering.{deliveries, deliveries_of, delivering, ending, first_luck, given_up_if, is_accepted, is_asked}
use Rattle.answer_model.specs.Answering.{later_luck, oldest_bytes, out_of_memory, raising, run, serving, serving_if, storage_failed, taken}
use Rattle.answer_model.specs.Answering.{taken_by, too_many_wait, turn_of, turn_of_first, turning, well, whole_stepper}
use Rattle.answer_model.proofs.Reached.{IsReached, run_reached}
use Rattle.answer_model.proofs.Served.{account_of, source_own}
use Rattle.silo_laws.specs.Behind.{DeliveredBehind, DeliversAtMost, DeliversBytes, all_but_last, delivered, delivered_by, if_found}
use Rattle.silo_laws.specs.Behind.{is_delivery}

abbrev many : List Step → ℕ
many steps = count_by is_delivery steps

many-append : (xs ys : List Step) → many (xs ++ ys) ≡ many xs + many ys
many-append xs ys = sum_by-append (λ s. cond (is_delivery s) 1 0) xs ys

if_none : (b : Bool) (xs ys : List Step) → many xs ≡ 0 → many ys ≡ 0 → many (if b then xs else ys) ≡ 0
if_none true xs ys none other = none
if_none false xs ys none other = other

-- ---- the steps of a request that is served

module _ {M : Type 0} (by : Stepper M) where
  ending_none : (m : M) (g : Grain) (turn : ℕ) (failed : Bool) → many (ending by m g turn failed) ≡ 0
  ending_none m g turn failed = if_none _ (End g turn ∷ []) (Store g turn failed ∷ []) refl refl

  closing_none : (m : M) (g : Grain) (turn : ℕ) (how : Closing) → many (closing by m g turn how) ≡ 0
  closing_none m g turn well = ending_none m g turn false
  closing_none m g turn storage_failed = ending_none m g turn true
  closing_none m g turn out_of_memory = refl

  queue_none : (m : M) (g : Grain) (how : Closing) (queue : List Request) → many (turn_of_first by m g how queue) ≡ 0
  queue_none m g how [] = refl
  queue_none m g how (first ∷ others) = closing_none (run by m (Begin g ∷ [])) g first.number how

  turn_none : (m : M) (g : Grain) (how : Closing) (found : Option Entry) → many (turn_of by m g how found) ≡ 0
  turn_none m g how None = refl
  turn_none m g how (Some e) = queue_none m g how e.queue

  turning_none : (m : M) (g : Grain) (how : Closing) → many (turning by m g how) ≡ 0
  turning_none m g how = if_none _ (turn_of by m g how (by.entry m g)) [] (turn_none m g how (by.entry m g)) refl

  raising_none : (m : M) (g : Grain) (failed : Bool) → many (raising by m g failed) ≡ 0
  raising_none m g failed = if_none _ (Activate g ∷ Load g failed ∷ []) [] refl refl

  serving_none : (m : M) (g : Grain) (luck : Luck) → many (serving by m g luck) ≡ 0
  serving_none m g luck =
      let steps = raising by m g luck.loading_failed in
      omega (arith, many-append steps (turning by (run by m steps) g luck.closing), raising_none m g luck.loading_failed, turning_none (run by m steps) g luck.closing)

  served_none : (before after : M) (grain : Option Grain) (luck : Luck) → many (serving_if by before after grain luck) ≡ 0
  served_none before after None luck = refl
  served_none before after (Some g) luck = if_none (is_accepted by before after) (serving by after g luck) [] (serving_none after g luck) refl

  -- ---- what is delivered

  one_delivered : (m : M) (sends : List Send) (luck : Luck) → many (delivering by m sends luck) ≤ 1
  one_delivered m [] luck = omega arith
  one_delivered m (oldest ∷ others) luck =
      let s = Deliver oldest.source in
      let how = given_up_if (too_many_wait (oldest ∷ others)) luck in
      omega (arith, many-append (s ∷ []) (serving_if by m (run by m (s ∷ [])) (Some oldest.message.target) how), served_none m (run by m (s ∷ [])) (Some oldest.message.target) how)

  at_most : (n room : ℕ) (m : M) (tenant : List ℕ) (lucks : List Luck) → many (deliveries by n room m tenant lucks) ≤ n
  at_most zero room m tenant lucks = omega arith
  at_most (suc n) zero m tenant lucks = omega arith
  at_most (suc n) (suc room) m tenant lucks =
      let left = suc room - oldest_bytes (sends_of (by.account m tenant)) in
      let steps = delivering by m (sends_of (by.account m tenant)) (first_luck lucks) in
      omega (
        arith,
        many-append steps (deliveries by n left (run by m steps) tenant (later_luck lucks)),
        one_delivered m (sends_of (by.account m tenant)) (first_luck lucks),
        at_most n left (run by m steps) tenant (later_luck lucks),
      )

  at_most_of : (n : ℕ) (m : M) (owner : Option (List ℕ)) (lucks : List Luck) → many (deliveries_of by n m owner lucks) ≤ n
  at_most_of n m None lucks = omega arith
  at_most_of n m (Some tenant) lucks = at_most n delivered_bytes m tenant lucks

-- what is asked is no delivery
asked_none : (b : Bool) (s : Step) → is_asked s ≡ true → is_delivery (taken_by b s) ≡ false
asked_none b (Deliver g) asked = absurd (true≢false (sym asked))
asked_none true (Refuse caller id code) asked = refl
asked_none true (Call caller id g call) asked = refl
asked_none true (Poke failed caller id g state) asked = refl
asked_none true (Status caller id) asked = refl
asked_none true (Activate g) asked = refl
asked_none true (Load g failed) asked = refl
asked_none true (Begin g) asked = refl
asked_none true (Store g turn failed) asked = refl
asked_none true (End g turn) asked = refl
asked_none true (Abandon g turn) asked = refl
asked_none true (Tick now) asked = refl
asked_none true Sweep asked = refl
asked_none false (Refuse caller id code) asked = refl
asked_none false (Call caller id g call) asked = refl
asked_none false (Poke failed caller id g state) asked = refl
asked_none false (Status caller id) asked = refl
asked_none false (Activate g) asked = refl
asked_none false (Load g failed) asked = refl
asked_none false (Begin g) asked = refl
asked_none false (Store g turn failed) asked = refl
asked_none false (End g turn) asked = refl
asked_none false (Abandon g turn) asked = refl
asked_none false (Tick now) asked = refl
asked_none false Sweep asked = refl

-- none of the steps before the deliveries is one
brought_none : (logic : Logic) (w : Whole) (asked : Asked) → is_asked asked.step ≡ true
    → many (bringing (whole_stepper logic) w (taken asked) (called_grain asked.step) (first_luck asked.lucks)) ≡ 0
brought_none logic w asked is =
    let by = whole_stepper logic in
    let s = taken asked in
    let rest = serving_if by w (run by w (s ∷ [])) (called_grain asked.step) (first_luck asked.lucks) in
    omega (
      arith,
      many-append (s ∷ []) rest,
      ap {B = ℕ} (λ b. cond b 1 0) (asked_none (first_luck asked.lucks).asking_failed asked.step is),
      served_none by w (run by w (s ∷ [])) (called_grain asked.step) (first_luck asked.lucks),
    )

pub delivers_at_most : DeliversAtMost
delivers_at_most logic w n asked is =
    let by = whole_stepper logic in
    let steps = bringing by w (taken asked) (called_grain asked.step) (first_luck asked.lucks) in
    omega (
      arith,
      many-append steps (deliveries_of by n (run by w steps) (owner_of asked.step) (later_luck asked.lucks)),
      brought_none logic w asked is,
      at_most_of by n (run by w steps) (owner_of asked.step) (later_luck asked.lucks),
    )

-- ---- how many bytes are delivered

-- nothing is delivered; or all but the last has fewer bytes than there was room for
abbrev Fits : ℕ → List Send → Type 0
Fits room sends = (sends ≡ []) ⊎ (sent_bytes (all_but_last sends) < room)

less_with : (room b bytes : ℕ) → bytes < suc room - b → b + bytes < suc room
less_with room b bytes less = omega (arith, less)

fits_more : (room : ℕ) (s : Send) (more : List Send) → Fits (suc room - message_bytes s) more → Fits (suc room) (s ∷ more)
fits_more room s [] fits = inr (omega arith)
fits_more room s (next ∷ more) (inl none) = absurd (let e = none in cc)
fits_more room s (next ∷ more) (inr less) =
    let bytes = sent_bytes (all_but_last (next ∷ more)) in
    inr (subst (λ n. n < suc room) (sym (sum_by-cons message_bytes s (all_but_last (next ∷ more)))) (less_with room (message_bytes s) bytes less))

abbrev oldest_of : List Send → List Send
oldest_of [] = []
oldest_of (oldest ∷ others) = oldest ∷ []

fits_behind : (room : ℕ) (sends more : List Send) → Fits (suc room - oldest_bytes sends) more → Fits (suc room) (oldest_of sends ++ more)
fits_behind room [] more fits = subst (λ k. Fits k more) (all_left room) fits
  where
    all_left : (k : ℕ) → suc k - 0 ≡ suc k
    all_left k = omega arith
fits_behind room (oldest ∷ others) more fits = fits_more room oldest more fits

room_left : (room : ℕ) (sends : List Send) → 0 < room → Fits room sends → sent_bytes (all_but_last sends) < room
room_left room sends some (inl none) = subst (λ k. sent_bytes (all_but_last k) < room) (sym none) some
room_left room sends some (inr less) = less

-- one step of these
counted : (b : Bool) (k : ℕ) → cond b 1 0 + k ≡ 0 → (b ≡ false) × (k ≡ 0)
counted true k none = absurd (let e : 1 + k ≡ 0 = none in omega (arith, e))
counted false k none = (refl, omega (arith, none))

no_delivery : (w : Whole) (s : Step) → is_delivery s ≡ false → delivered_by w s ≡ []
no_delivery w (Deliver g) is = absurd (true≢false is)
no_delivery w _ is = refl

module _ (logic : Logic) where
  delivered-append : (w : Whole) (steps others : List Step)
      → delivered logic w (steps ++ others) ≡ delivered logic w steps ++ delivered logic (whole_run logic w steps) others
  delivered-append w [] others = refl
  delivered-append w (s ∷ steps) others =
      let after = whole_after logic w s in
      ap (λ k. delivered_by w s ++ k) (delivered-append after steps others)
      ∙ sym (append_assoc (delivered_by w s) (delivered logic after steps) (delivered logic (whole_run logic after steps) others))

  none_delivered : (w : Whole) (steps : List Step) → many steps ≡ 0 → delivered logic w steps ≡ []
  none_delivered w [] none = refl
  none_delivered w (s ∷ steps) none =
      let parts = counted (is_delivery s) (many steps) (sym (sum_by-cons (λ x. cond (is_delivery x) 1 0) s steps) ∙ none) in
      ap (λ k. k ++ delivered logic (whole_after logic w s) steps) (no_delivery w s parts.0) ∙ none_delivered (whole_after logic w s) steps parts.1

  module _ (setup : Setup) (tenant : List ℕ) where
    -- a delivery delivers the oldest
    delivers_oldest : (w : Whole) (sends : List Send) (luck : Luck) → IsReached logic setup w → sends_of (map.get w.accounts tenant) ≡ sends
        → delivered logic w (delivering (whole_stepper logic) w sends luck) ≡ oldest_of sends
    delivers_oldest w [] luck reached is = refl
    delivers_oldest w (oldest ∷ others) luck reached is =
        let by = whole_stepper logic in
        let g = oldest.source in
        let how = given_up_if (too_many_wait (oldest ∷ others)) luck in
        let next = whole_after logic w (Deliver g) in
        let own = source_own logic setup tenant oldest others w reached is in
        let known = account_of logic setup tenant oldest others w is in
        ap (λ k. delivered_by w (Deliver g) ++ k)
        (none_delivered next (serving_if by w next (Some oldest.message.target) how) (served_none by w next (Some oldest.message.target) how))
        ∙ append-nil (delivered_by w (Deliver g))
        ∙ ap (λ o. if_found (first_from g (sends_of o))) (ap (map.get w.accounts) own ∙ known.1)
        ∙ ap if_found known.2

    deliveries_fit : (n room : ℕ) (w : Whole) (lucks : List Luck) → IsReached logic setup w
        → Fits room (delivered logic w (deliveries (whole_stepper logic) n room w tenant lucks))
    deliveries_fit zero room w lucks reached = inl refl
    deliveries_fit (suc n) zero w lucks reached = inl refl
    deliveries_fit (suc n) (suc room) w lucks reached =
        let by = whole_stepper logic in
        let sends = sends_of (map.get w.accounts tenant) in
        let left = suc room - oldest_bytes sends in
        let steps = delivering by w sends (first_luck lucks) in
        let next = whole_run logic w steps in
        let later = deliveries by n left next tenant (later_luck lucks) in
        subst (Fits (suc room))
        (sym (delivered-append w steps later ∙ ap (λ k. k ++ delivered logic next later) (delivers_oldest w sends (first_luck lucks) reached refl)))
        (fits_behind room sends (delivered logic next later) (deliveries_fit n left next (later_luck lucks) (run_reached logic setup steps w reached)))

pub delivers_bytes : DeliversBytes
delivers_bytes logic setup journal w n asked leads is =
    let by = whole_stepper logic in
    let steps = bringing by w (taken asked) (called_grain asked.step) (first_luck asked.lucks) in
    let next = whole_run logic w steps in
    let later = deliveries_of by n next (owner_of asked.step) (later_luck asked.lucks) in
    subst (λ sends. sent_bytes (all_but_last sends) < 262144)
    (sym (delivered-append logic w steps later ∙ ap (λ k. k ++ delivered logic next later) (none_delivered logic w steps (brought_none logic w asked is))))
    (room_left delivered_bytes (delivered logic next later) (omega arith)
    (later_fits (owner_of asked.step) next (later_luck asked.lucks) (run_reached logic setup steps w (journal, leads))))
  where
    later_fits : (owner : Option (List ℕ)) (next : Whole) (lucks : List Luck) → IsReached logic setup next
        → Fits delivered_bytes (delivered logic next (deliveries_of (whole_stepper logic) n next owner lucks))
    later_fits None next lucks reached = inl refl
    later_fits (Some owner) next lucks reached = deliveries_fit logic setup owner n delivered_bytes next lucks reached

-- ---- the first of them

module _ (logic : Logic) (w : Whole) (n : ℕ) (asked : Asked) (tenant : List ℕ) (owner : owner_of asked.step ≡ Some tenant) where
  abbrev by : Stepper Whole
  by = whole_stepper logic

  abbrev steps : List Step
  steps = bringing by w (taken asked) (called_grain asked.step) (first_luck asked.lucks)

  abbrev more : ℕ → Option (List ℕ) → List Step
  more k o = deliveries_of by k (run by w steps) o (later_luck asked.lucks)

  none_more : (o : Option (List ℕ)) → more 0 o ≡ []
  none_more None = refl
  none_more (Some t) = refl

  without : answering by 0 w asked ≡ steps
  without = ap (λ others. steps ++ others) (none_more (owner_of asked.step)) ∙ append-nil steps

  behind : (oldest : Send) (others : List Send) → sends_of (map.get (run by w (answering by 0 w asked)).accounts tenant) ≡ oldest ∷ others
      → (later : List Step) × (answering by (n + 1) w asked ≡ answering by 0 w asked ++ Deliver oldest.source ∷ later)
  behind oldest others left =
      let here = run by w steps in
      let luck = first_luck (later_luck asked.lucks) in
      let sends_is : sends_of (map.get here.accounts tenant) ≡ oldest ∷ others = ap (λ k. sends_of (map.get (run by w k).accounts tenant)) (sym without) ∙ left in
      let how = given_up_if (too_many_wait (oldest ∷ others)) luck in
      let later = later_luck (later_luck asked.lucks) in
      let first = delivering by here (oldest ∷ others) luck in
      let rest = deliveries by n (delivered_bytes - message_bytes oldest) (run by here first) tenant later in (
        serving_if by here (run by here (Deliver oldest.source ∷ [])) (Some oldest.message.target) how ++ rest,
        ap (λ o. steps ++ more (n + 1) o) owner
            ∙ ap (λ k. steps ++ deliveries by k delivered_bytes here tenant (later_luck asked.lucks)) (one_on n)
            ∙ ap (λ sends. steps ++ (delivering by here sends luck ++ deliveries by n (delivered_bytes - oldest_bytes sends) (run by here (delivering by here sends luck)) tenant later)) sends_is
            ∙ ap (λ k. k ++ (first ++ rest)) (sym without),
      )
    where
      one_on : (k : ℕ) → k + 1 ≡ suc k
      one_on k = omega arith

pub delivered_behind : DeliveredBehind
delivered_behind logic w n asked tenant oldest others owner left = behind logic w n asked tenant owner oldest others left
