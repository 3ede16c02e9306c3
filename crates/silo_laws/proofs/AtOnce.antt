-- What is done for a counter's calls that are answered at once.
use Rattle.silo_model.proofs.Common.{if◌then◌else◌, ◌++◌, ◌∙◌, ◌∷◌, ◌≡◌, Account, Activate, Begin, Call, Client, End, Entry, Grain, List}
use Rattle.silo_model.proofs.Common.{Load, Logic, None, Option, Request, Setup, Some, Step, Store, Whole, [], ap, append-nil, counters}
use Rattle.silo_model.proofs.Common.{eq-eqb, false, get-insert_same, is_some, length, opening, refl, sends_of, suc, text_cmp_exact}
use Rattle.silo_model.proofs.Common.{text_cmp_total, true, unwrap_or, whole_run, whole_step, zero, ℕ, ℤ}
use Rattle.std.specs.Prelude.{◌-◌}
use Rattle.std.specs.FinMap as map
use Rattle.grain_logic.specs.Adding.{fits_64}
use Rattle.silo_model.specs.FirstCall.{add_call, first_call}
use Rattle.silo_model.proofs.Journals.{journals_replay}
use Rattle.answer_model.specs.Answering.{Stepper, answering, bringing, closing, delivered_bytes, deliveries, delivering, good, oldest_bytes}
use Rattle.answer_model.specs.Answering.{raising, run, serving, serving_if, turn_of, turn_of_first, turning, well, whole_stepper}
use Rattle.answer_model.proofs.Closed.{run_done}
use Rattle.silo_laws.specs.AtOnce.{FirstCallAtOnce, SecondCallAtOnce, answered_from, asked_to_add}
use Rattle.silo_laws.specs.Counting.{MayCount, second_call}
use Rattle.silo_laws.proofs.CounterCalls.{IsUp, activates, after_activate, after_asked, after_begin, after_call, after_load, after_turned}
use Rattle.silo_laws.proofs.CounterCalls.{asked_queue, asked_there, asks, begins, closes, ends, loaded_there, loads, next_known, not_raised}
use Rattle.silo_laws.proofs.CounterCalls.{turns}
use Rattle.silo_laws.proofs.SecondCall.{all_done_run, both_told, called_first, counted, first_leads, first_told, first_whole, opened}
use Rattle.silo_laws.proofs.SecondCall.{second_leads, second_whole, up}

module _ (logic : Logic) where
  abbrev by : Stepper Whole
  by = whole_stepper logic

  -- ---- a request is served, by the steps that are done

  module _ (w : Whole) (g : Grain) where
    raised_by : (o : Option Whole) → whole_step logic w (Activate g) ≡ o → raising by w g false ≡ (if is_some o then Activate g ∷ Load g false ∷ [] else [])
    raised_by o is = ap (λ x. if is_some x then Activate g ∷ Load g false ∷ [] else []) is

    turned : (begun ended : Whole) (e : Entry) (first : Request) (others : List Request) → map.get w.entries g ≡ Some e → e.queue ≡ first ∷ others
        → whole_step logic w (Begin g) ≡ Some begun → whole_step logic begun (End g first.number) ≡ Some ended
        → turning by w g well ≡ Begin g ∷ End g first.number ∷ []
    turned begun ended e first others found queue begins ends =
        ap (λ o. if is_some o then turn_of by w g well (map.get w.entries g) else []) begins
        ∙ ap (turn_of by w g well) found
        ∙ ap (turn_of_first by w g well) queue
        ∙ ap (λ o. Begin g ∷ closing by (unwrap_or o w) g first.number well) begins
        ∙ ap (λ o. Begin g ∷ (if is_some o then End g first.number ∷ [] else Store g first.number false ∷ [])) ends

    -- where the grain is up
    served_up : (steps : List Step) → whole_step logic w (Activate g) ≡ None → turning by w g well ≡ steps → serving by w g good ≡ steps
    served_up steps none turning_is =
        ap (λ raise. raise ++ turning by (run by w raise) g well) (raised_by None none) ∙ turning_is

    -- where it is to be activated and loaded
    served_new : (next loaded : Whole) (steps : List Step) → whole_step logic w (Activate g) ≡ Some next → whole_step logic next (Load g false) ≡ Some loaded
        → turning by loaded g well ≡ steps → serving by w g good ≡ Activate g ∷ Load g false ∷ steps
    served_new next loaded steps activates loads turning_is =
        ap (λ raise. raise ++ turning by (run by w raise) g well) (raised_by (Some next) activates)
        ∙ ap (λ x. Activate g ∷ Load g false ∷ turning by x g well)
        (run_done logic w next (Activate g) (Load g false ∷ []) activates ∙ run_done logic next loaded (Load g false) [] loads)
        ∙ ap (λ steps. Activate g ∷ Load g false ∷ steps) turning_is

  -- a call that is accepted brings its request
  brought : (w next : Whole) (s : Step) (g : Grain) (steps : List Step) → whole_step logic w s ≡ Some next → next.replies ≡ w.replies
      → serving by next g good ≡ steps → bringing by w s (Some g) good ≡ s ∷ steps
  brought w next s g steps step silent serving_is =
      ap (λ o. s ∷ serving_if by w (unwrap_or o w) (Some g) good) step
      ∙ ap (λ b. s ∷ (if b then serving by next g good else [])) (eq-eqb (length next.replies) (length w.replies) (ap length silent))
      ∙ ap (λ steps. s ∷ steps) serving_is

  -- nothing is delivered where nothing is sent
  none_delivered : (n room : ℕ) (w : Whole) (tenant : List ℕ) → sends_of (map.get w.accounts tenant) ≡ [] → deliveries by n room w tenant [] ≡ []
  none_delivered zero room w tenant none = refl
  none_delivered (suc n) zero w tenant none = refl
  none_delivered (suc n) (suc room) w tenant none =
      ap (λ sends. delivering by w sends good ++ deliveries by n (suc room - oldest_bytes sends) (run by w (delivering by w sends good)) tenant []) none
      ∙ none_delivered n (suc room - 0) w tenant none

  -- a call is answered by its steps alone
  answered_by : (n : ℕ) (w after : Whole) (caller : Client) (id : ℕ) (g : Grain) (k : ℤ) (steps : List Step)
      → bringing by w (Call caller id g (add_call k)) (Some g) good ≡ steps → whole_run logic w steps ≡ after → sends_of (map.get after.accounts caller.tenant) ≡ []
      → answering by n w (asked_to_add caller id g k) ≡ steps
  answered_by n w after caller id g k steps brings runs none =
      ap (λ steps. steps ++ deliveries by n delivered_bytes (run by w steps) caller.tenant []) brings
      ∙ ap (λ x. steps ++ deliveries by n delivered_bytes x caller.tenant []) runs
      ∙ ap (λ more. steps ++ more) (none_delivered n delivered_bytes after caller.tenant none)
      ∙ append-nil steps

-- ---- the first call

module _ (setup : Setup) (caller : Client) (id : ℕ) (g : Grain) (n : ℤ) (may : MayCount setup caller g) where
  abbrev start : Whole
  start = opening setup

  abbrev a : Account
  a = opened setup caller id g n may

  nothing_sent : sends_of (map.get (first_whole setup caller id g n may).accounts caller.tenant) ≡ []
  unfolding opening
  nothing_sent = ap sends_of (get-insert_same text_cmp_total text_cmp_exact (opening setup).accounts caller.tenant (counted setup caller id g n may))

  first_serving : serving (whole_stepper counters) (after_call start a caller id g n) g good ≡ Activate g ∷ Load g false ∷ Begin g ∷ End g 1 ∷ []
  first_serving =
      served_new counters (after_call start a caller id g n) g (after_activate start a caller id g n) (after_load start a caller id g n) (Begin g ∷ End g 1 ∷ [])
      (activates start a caller id g n) (loads start a caller id g n)
      (turned counters (after_load start a caller id g n) g (after_begin start a caller id g n) (first_whole setup caller id g n may) _ _ [] (loaded_there start a caller id g n) refl (begins start a caller id g n) (ends start a caller id g n))

  first_answering : (deliver : ℕ) → answering (whole_stepper counters) deliver start (asked_to_add caller id g n) ≡ first_call caller id g n
  first_answering deliver =
      answered_by counters deliver start (first_whole setup caller id g n may) caller id g n (first_call caller id g n)
      (brought counters start (after_call start a caller id g n) (Call caller id g (add_call n)) g _ (called_first setup caller id g n may) refl first_serving)
      (journals_replay counters setup (first_call caller id g n) (first_whole setup caller id g n may) (first_leads setup caller id g n may))
      nothing_sent

  -- the whole when it was answered
  pub first_answered : (deliver : ℕ) → answered_from setup deliver (asked_to_add caller id g n ∷ []) ≡ first_whole setup caller id g n may
  first_answered deliver =
      ap (whole_run counters start) (first_answering deliver)
      ∙ journals_replay counters setup (first_call caller id g n) (first_whole setup caller id g n may) (first_leads setup caller id g n may)

  -- ---- the second

  module _ (fits : fits_64 n ≡ true) (second : ℕ) (k : ℤ) where
    abbrev first : Whole
    first = first_whole setup caller id g n may

    abbrev b : Account
    b = counted setup caller id g n may

    abbrev is_up : IsUp first b caller g n
    is_up = up setup caller id g n may fits

    second_serving : serving (whole_stepper counters) (after_asked first b caller second g n k is_up) g good ≡ Begin g ∷ End g 2 ∷ []
    second_serving =
        let asked = after_asked first b caller second g n k is_up in
        served_up counters asked g (Begin g ∷ End g 2 ∷ []) (not_raised first b caller second g n k is_up)
        (turned counters asked g (after_turned first b caller second g n k is_up) (second_whole setup caller id g n may fits second k) _ _ [] (asked_there first b caller second g n k is_up)
        (asked_queue first b caller second g n k is_up) (turns first b caller second g n k is_up) (closes first b caller second g n k is_up))

    second_runs : whole_run counters first (second_call caller second g k) ≡ second_whole setup caller id g n may fits second k
    second_runs = all_done_run counters first (second_whole setup caller id g n may fits second k) (second_call caller second g k) (second_leads setup caller id g n may fits second k)

    second_answering : (deliver : ℕ) → answering (whole_stepper counters) deliver first (asked_to_add caller second g k) ≡ second_call caller second g k
    second_answering deliver =
        answered_by counters deliver first (second_whole setup caller id g n may fits second k) caller second g k (second_call caller second g k)
        (brought counters first (after_asked first b caller second g n k is_up) (Call caller second g (add_call k)) g _ (asks first b caller second g n k is_up may.own may.kind) refl second_serving)
        second_runs (ap sends_of (next_known first b caller second g n k is_up))

-- ---- the laws

pub first_call_at_once : FirstCallAtOnce
first_call_at_once setup caller id g n deliver may fits = (
  first_answering setup caller id g n may deliver,
  (refl, (refl, (refl, (refl, (refl, tt))))),
  ap (λ (w : Whole). w.replies) (first_answered setup caller id g n may deliver) ∙ first_told setup caller id g n may fits,
)

pub second_call_at_once : SecondCallAtOnce
second_call_at_once setup caller id second g n k deliver may fits sum =
    let by = whole_stepper counters in
    let asked = asked_to_add caller second g k in
    let first = first_answered setup caller id g n may deliver in
    let steps = ap (λ w. answering by deliver w asked) first ∙ second_answering setup caller id g n may fits second k deliver in (
      steps,
      ap (λ (w : Whole). w.replies)
          ((λ i. whole_run counters (first i) (answering by deliver (first i) asked))
          ∙ ap (whole_run counters (first_whole setup caller id g n may)) (second_answering setup caller id g n may fits second k deliver)
          ∙ second_runs setup caller id g n may fits second k)
          ∙ both_told setup caller id g n may fits second k sum,
    )
