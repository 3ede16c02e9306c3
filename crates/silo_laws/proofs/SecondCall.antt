-- A counter's first two calls, and a status behind them.
use Rattle.silo_model.proofs.Common.{◌++◌, ◌+◌, ◌∙◌, ◌∷◌, ◌≡◌, Account, Activate, Begin, Call, Client, End, Entry, Grain, LeadsTo, List}
use Rattle.silo_model.proofs.Common.{Load, Logic, Ok, Setup, Some, Status, Step, Tick, Whole, ℕ, ℤ, [], active_of, all_done, ap, arith}
use Rattle.silo_model.proofs.Common.{counters, false, fresh_account, grain_cmp, integer, lt-ltb, nat_le, nat_lt, opening, option_and_then}
use Rattle.silo_model.proofs.Common.{option_map, refl, same_Some, some_from_and_then, told, true, unwrap_or, whole_run, whole_step}
use Rattle.std.proofs.lemmas.Bool.{le-leb}
use Rattle.std.specs.Prelude.{◌+ℤ◌}
use Rattle.std.specs.FinMap as map
use Rattle.grain_logic.specs.Adding.{fits_64}
use Rattle.silo_event.specs.declared.reply.Party.TheVariants as party
use Rattle.silo_model.specs.FirstCall.{add_call, first_call}
use Rattle.silo_model.proofs.AskSteps.{status_is}
use Rattle.silo_model.proofs.ClockSteps.{tick_on}
use Rattle.silo_model.proofs.Opening.{clock_new, known_new, none_active, none_at}
use Rattle.silo_laws.specs.Counting.{MayCount, second_call}
use Rattle.silo_laws.specs.SecondCall.{SecondCallAnswered}
use Rattle.silo_laws.specs.Status.{StatusTells, counts}
use Rattle.silo_laws.proofs.CounterCalls.{IsUp, activates, after_activate, after_asked, after_begin, after_call, after_closed, after_end}
use Rattle.silo_laws.proofs.CounterCalls.{after_load, after_turned, as_many, asks, begins, calls, closes, ends, first_replies, first_up}
use Rattle.silo_laws.proofs.CounterCalls.{loads, next_known, next_replies, one_more, turns}

-- ---- lists of steps that are done

pub then_done : (logic : Logic) (w next after : Whole) (s : Step) (steps : List Step) → whole_step logic w s ≡ Some next → all_done logic next steps ≡ Some after → all_done logic w (s ∷ steps) ≡ Some after
then_done logic w next after s steps step rest = ap (option_and_then (λ x. all_done logic x steps)) step ∙ rest

pub all_then_done : (logic : Logic) (w next after : Whole) (steps others : List Step) → all_done logic w steps ≡ Some next → all_done logic next others ≡ Some after → all_done logic w (steps ++ others) ≡ Some after
all_then_done logic w next after [] others done rest = ap (λ x. all_done logic x others) (same_Some w next done) ∙ rest
all_then_done logic w next after (s ∷ steps) others done rest =
    let mid = some_from_and_then (λ x. all_done logic x steps) (whole_step logic w s) next done in
    then_done logic w mid.0 after s (steps ++ others) mid.1 (all_then_done logic mid.0 next after steps others mid.2 rest)

pub all_done_run : (logic : Logic) (w after : Whole) (steps : List Step) → all_done logic w steps ≡ Some after → whole_run logic w steps ≡ after
all_done_run logic w after [] done = same_Some w after done
all_done_run logic w after (s ∷ steps) done =
    let next = some_from_and_then (λ x. all_done logic x steps) (whole_step logic w s) after done in
    ap (λ o. whole_run logic (unwrap_or o w) steps) next.1 ∙ all_done_run logic next.0 after steps next.2

-- ---- the first call, from the opening

module _ (setup : Setup) (caller : Client) (id : ℕ) (g : Grain) (n : ℤ) (may : MayCount setup caller g) where
  abbrev pub opened : Account
  opened = fresh_account may.limits

  abbrev pub counted : Account
  counted = record opened { count = 1 }

  abbrev pub first_whole : Whole
  first_whole = after_end (opening setup) opened caller id g n

  pub called_first : whole_step counters (opening setup) (Call caller id g (add_call n)) ≡ Some (after_call (opening setup) opened caller id g n)
  called_first =
      calls (opening setup) opened caller id g n (known_new setup may.new caller.tenant may.limits may.known) may.own may.kind refl (none_at setup may.new g)
      (ap (λ k. nat_lt k may.limits.activations) (none_active setup may.new caller.tenant) ∙ lt-ltb 0 may.limits.activations may.activations)

  abbrev ending : List Step
  ending = End g 1 ∷ []

  abbrev beginning : List Step
  beginning = Begin g ∷ ending

  abbrev loading_first : List Step
  loading_first = Load g false ∷ beginning

  pub first_leads : LeadsTo counters setup (first_call caller id g n) first_whole
  first_leads =
      let w = opening setup in
      then_done counters w (after_call w opened caller id g n) first_whole (Call caller id g (add_call n)) (Activate g ∷ loading_first) called_first
      (then_done counters (after_call w opened caller id g n) (after_activate w opened caller id g n) first_whole (Activate g) loading_first (activates w opened caller id g n)
      (then_done counters (after_activate w opened caller id g n) (after_load w opened caller id g n) first_whole (Load g false) beginning (loads w opened caller id g n)
      (then_done counters (after_load w opened caller id g n) (after_begin w opened caller id g n) first_whole (Begin g) ending (begins w opened caller id g n)
      (then_done counters (after_begin w opened caller id g n) first_whole first_whole (End g 1) [] (ends w opened caller id g n) refl))))

  pub one_active : active_of first_whole caller.tenant ≡ 1
  one_active = one_more (opening setup) opened caller id g n may.own (none_at setup may.new g) ∙ ap (λ k. k + 1) (none_active setup may.new caller.tenant)

  module _ (fits : fits_64 n ≡ true) where
    pub up : IsUp first_whole counted caller g n
    unfolding opening
    up = first_up (opening setup) opened caller id g n may.unstored fits refl may.mailbox

    pub first_told : first_whole.replies ≡ told (party.Client caller id) (Ok (integer n))
    unfolding opening
    first_told = first_replies (opening setup) opened caller id g n may.unstored fits

    -- ---- the second

    module _ (second : ℕ) (k : ℤ) where
      abbrev pub second_whole : Whole
      second_whole = after_closed first_whole counted caller second g n k up

      pub second_leads : all_done counters first_whole (second_call caller second g k) ≡ Some second_whole
      second_leads =
          let asked = after_asked first_whole counted caller second g n k up in
          let turned = after_turned first_whole counted caller second g n k up in
          then_done counters first_whole asked second_whole (Call caller second g (add_call k)) (Begin g ∷ End g 2 ∷ []) (asks first_whole counted caller second g n k up may.own may.kind)
          (then_done counters asked turned second_whole (Begin g) (End g 2 ∷ []) (turns first_whole counted caller second g n k up)
          (then_done counters turned second_whole second_whole (End g 2) [] (closes first_whole counted caller second g n k up) refl))

      pub both_lead : LeadsTo counters setup (first_call caller id g n ++ second_call caller second g k) second_whole
      both_lead = all_then_done counters (opening setup) first_whole second_whole (first_call caller id g n) (second_call caller second g k) first_leads second_leads

      pub both_told : fits_64 (n +ℤ k) ≡ true → second_whole.replies ≡ told (party.Client caller id) (Ok (integer n)) ++ told (party.Client caller second) (Ok (integer (n +ℤ k)))
      both_told sum = next_replies first_whole counted caller second g n k up sum ∙ ap (λ rs. rs ++ told (party.Client caller second) (Ok (integer (n +ℤ k)))) first_told

pub second_call_answered : SecondCallAnswered
second_call_answered setup caller id second g n k may fits sum = (
  second_whole setup caller id g n may fits second k,
  both_lead setup caller id g n may fits second k,
  both_told setup caller id g n may fits second k sum,
)

-- ---- a status

zero_before : (c n : ℕ) → c ≡ 0 → nat_le c n ≡ true
zero_before c n zero = le-leb c n (omega (arith, zero))

pub status_tells : StatusTells
status_tells setup caller id second third g n k now may fits sum =
    let w = second_whole setup caller id g n may fits second k in
    let first = up setup caller id g n may fits in
    let ticked : Whole = record w { clock = now } in
    let a : Account = record (counted setup caller id g n may) { count = 2 } in
    let known = next_known (first_whole setup caller id g n may) (counted setup caller id g n may) caller second g n k first in
    let active = as_many (first_whole setup caller id g n may) (counted setup caller id g n may) caller second g n k first ∙ one_active setup caller id g n may in
    let ticks = tick_on counters w now (zero_before w.clock now (clock_new setup may.new)) in
    let tells = status_is counters ticked caller third a known in
    let replies = both_told setup caller id g n may fits second k sum in (
      record ticked { replies = w.replies ++ told (party.Client caller third) (Ok (counts (active_of w caller.tenant) now 2)) },
      all_then_done counters (opening setup) w _ (first_call caller id g n ++ second_call caller second g k) (Tick now ∷ Status caller third ∷ []) (both_lead setup caller id g n may fits second k)
          (then_done counters w ticked _ (Tick now) (Status caller third ∷ []) ticks (then_done counters ticked _ _ (Status caller third) [] tells refl)),
      (λ i. replies i ++ told (party.Client caller third) (Ok (counts (active i) now 2))),
    )
