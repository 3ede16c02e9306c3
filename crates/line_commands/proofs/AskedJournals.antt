-- The journal of lines that were answered at once has what the lines ask, under numbers below 2^63.
use Rattle.std.proofs.Common.{ℕ, zero, suc, ◌-◌, Bool, true, false, List, [], ◌∷◌, Option, Some, None, unwrap_or, if◌then◌else◌, sym, subst}
use Rattle.std.specs.Prelude.{map as map_list}
use Rattle.std.specs.List.{AllByRecursion}
use Rattle.std.proofs.lemmas.List.Elements.{All-from_recursion}
use Rattle.grain_id.specs.Names.{Grain}
use Rattle.finite_maps.proofs.Lists.{all_append}
use Rattle.silo_event.specs.declared.step.Step.{Step}
use Rattle.silo_event.specs.declared.step.Step.TheVariants.{Activate, Begin, Deliver, End, Load, Store, Sweep}
use Rattle.silo_model.specs.Machine.{Entry, Request, Send}
use Rattle.silo_model.specs.Pending.{sends_of}
use Rattle.silo_model.specs.Run.{done_by, if_possible}
use Rattle.silo_model.specs.Whole.{whole_step}
use Rattle.silo_model.proofs.Tests.{on_found, on_test}
use Rattle.silo_event.specs.Owner.{owner_of}
use Rattle.line_parser.specs.declared.line.Line.{Line}
use Rattle.line_parser.specs.declared.line.Line.TheVariants as line
use Rattle.line_text.specs.LineTexts.{said_lines}
use Rattle.answer_model.specs.Answering.{Asked, Closing, Luck, Stepper, answered, answering, bringing, called_grain, can, closing, delivered_bytes, deliveries, deliveries_of, delivering, ending, first_luck, given_up_if, is_accepted, is_asked, later_luck, oldest_bytes, out_of_memory, raising, run, serving, serving_if, storage_failed, taken, taken_by, too_many_wait, turn_of, turn_of_first, turning, well, whole_stepper}
use Rattle.line_answer.specs.Texts.{Heard, all_steps, asked_if, asks_by, asks_of}
use Rattle.journal_text.specs.Rules.{AsksInRange}
use Rattle.command_parts.proofs.AskedNumbers.{SaysInRange, meaning_in_range}
use Rattle.line_commands.specs.Laws.{AnsweredInRange}

abbrev Fit : List Step → Type 0
Fit steps = AllByRecursion AsksInRange steps

taken_fits : (b : Bool) (s : Step) → AsksInRange s → AsksInRange (taken_by b s)
taken_fits false s is = is
taken_fits true Sweep is = is
taken_fits true _ is = is

-- ---- the steps by which one request is answered

module _ {M : Type 0} (by : Stepper M) where
  raising_fits : (m : M) (grain : Grain) (failed : Bool) → Fit (raising by m grain failed)
  raising_fits m grain failed =
      on_test (λ b. Fit (if b then Activate grain ∷ Load grain failed ∷ [] else [])) (can by m (Activate grain)) (λ _. (tt, (tt, tt))) (λ _. tt)

  ending_fits : (m : M) (grain : Grain) (turn : ℕ) (failed : Bool) → Fit (ending by m grain turn failed)
  ending_fits m grain turn failed =
      on_test (λ b. Fit (if b then End grain turn ∷ [] else Store grain turn failed ∷ [])) (can by m (End grain turn)) (λ _. (tt, tt)) (λ _. (tt, tt))

  closing_fits : (m : M) (grain : Grain) (turn : ℕ) (how : Closing) → Fit (closing by m grain turn how)
  closing_fits m grain turn well = ending_fits m grain turn false
  closing_fits m grain turn storage_failed = ending_fits m grain turn true
  closing_fits m grain turn out_of_memory = (tt, tt)

  first_fits : (m : M) (grain : Grain) (how : Closing) (queue : List Request) → Fit (turn_of_first by m grain how queue)
  first_fits m grain how [] = tt
  first_fits m grain how (first ∷ others) = (tt, closing_fits (run by m (Begin grain ∷ [])) grain first.number how)

  turn_fits : (m : M) (grain : Grain) (how : Closing) (o : Option Entry) → Fit (turn_of by m grain how o)
  turn_fits m grain how None = tt
  turn_fits m grain how (Some e) = first_fits m grain how e.queue

  turning_fits : (m : M) (grain : Grain) (how : Closing) → Fit (turning by m grain how)
  turning_fits m grain how =
      on_test (λ b. Fit (if b then turn_of by m grain how (by.entry m grain) else [])) (can by m (Begin grain))
      (λ _. turn_fits m grain how (by.entry m grain)) (λ _. tt)

  serving_fits : (m : M) (grain : Grain) (luck : Luck) → Fit (serving by m grain luck)
  serving_fits m grain luck =
      let steps = raising by m grain luck.loading_failed in
      all_append AsksInRange steps (turning by (run by m steps) grain luck.closing) (raising_fits m grain luck.loading_failed)
      (turning_fits (run by m steps) grain luck.closing)

  serving_if_fits : (before after : M) (o : Option Grain) (luck : Luck) → Fit (serving_if by before after o luck)
  serving_if_fits before after None luck = tt
  serving_if_fits before after (Some grain) luck =
      on_test (λ b. Fit (if b then serving by after grain luck else [])) (is_accepted by before after) (λ _. serving_fits after grain luck) (λ _. tt)

  bringing_fits : (m : M) (s : Step) (grain : Option Grain) (luck : Luck) → AsksInRange s → Fit (bringing by m s grain luck)
  bringing_fits m s grain luck is = (is, serving_if_fits m (run by m (s ∷ [])) grain luck)

  delivering_fits : (m : M) (sends : List Send) (luck : Luck) → Fit (delivering by m sends luck)
  delivering_fits m [] luck = tt
  delivering_fits m (oldest ∷ others) luck =
      bringing_fits m (Deliver oldest.source) (Some oldest.message.target) (given_up_if (too_many_wait (oldest ∷ others)) luck) tt

  deliveries_fit : (n room : ℕ) (m : M) (tenant : List ℕ) (lucks : List Luck) → Fit (deliveries by n room m tenant lucks)
  deliveries_fit zero room m tenant lucks = tt
  deliveries_fit (suc n) zero m tenant lucks = tt
  deliveries_fit (suc n) (suc room) m tenant lucks =
      let sends = sends_of (by.account m tenant) in
      let steps = delivering by m sends (first_luck lucks) in
      let left = suc room - oldest_bytes sends in
      all_append AsksInRange steps (deliveries by n left (run by m steps) tenant (later_luck lucks)) (delivering_fits m sends (first_luck lucks))
      (deliveries_fit n left (run by m steps) tenant (later_luck lucks))

  behind_fits : (n : ℕ) (m : M) (o : Option (List ℕ)) (lucks : List Luck) → Fit (deliveries_of by n m o lucks)
  behind_fits n m None lucks = tt
  behind_fits n m (Some owner) lucks = deliveries_fit n delivered_bytes m owner lucks

  -- ---- all that is asked

  answering_fits : (n : ℕ) (m : M) (asked : Asked) → AsksInRange asked.step → Fit (answering by n m asked)
  answering_fits n m asked is =
      let luck = first_luck asked.lucks in
      let steps = bringing by m (taken asked) (called_grain asked.step) luck in
      all_append AsksInRange steps (deliveries_of by n (run by m steps) (owner_of asked.step) (later_luck asked.lucks))
      (bringing_fits m (taken asked) (called_grain asked.step) luck (taken_fits luck.asking_failed asked.step is))
      (behind_fits n (run by m steps) (owner_of asked.step) (later_luck asked.lucks))

  all_fit : (n : ℕ) (m : M) (asks : List Asked) → AllByRecursion (λ (asked : Asked). AsksInRange asked.step) asks → Fit (all_steps by n m asks)
  all_fit n m [] all = tt
  all_fit n m (asked ∷ asks) all =
      all_append AsksInRange (answering by n m asked) (all_steps by n (answered by n m asked) asks) (answering_fits n m asked all.0)
      (all_fit n (answered by n m asked) asks all.1)

done_fits : {M : Type 0} (step : M → Step → Option M) (m : M) (steps : List Step) → Fit steps → Fit (done_by step m steps)
done_fits step m [] fit = tt
done_fits step m (s ∷ steps) fit =
    all_append AsksInRange (if_possible s (step m s)) (done_by step (unwrap_or (step m s) m) steps)
    (on_found (λ r. Fit (if_possible s r)) (step m s) (λ _. tt) (λ _ _. (fit.0, tt)))
    (done_fits step (unwrap_or (step m s) m) steps fit.1)

-- ---- what lines ask

lines_say : (lines : List (List ℕ)) → AllByRecursion SaysInRange (said_lines lines)
lines_say [] = tt
lines_say (l ∷ lines) = (meaning_in_range l, lines_say lines)

asked_fits : (said : Line) (lucks : List Luck) → SaysInRange said → AllByRecursion (λ (asked : Asked). AsksInRange asked.step) (asks_by said lucks)
asked_fits line.Nothing lucks says = tt
asked_fits (line.Refusal r) lucks says = tt
asked_fits (line.Step s) lucks says = on_test (λ b. AllByRecursion (λ (asked : Asked). AsksInRange asked.step) (asked_if b s lucks)) (is_asked s) (λ _. (says, tt)) (λ _. tt)

heard_fit : (heard : List Heard) → AllByRecursion SaysInRange (map_list (λ h. h.said) heard) → AllByRecursion (λ (asked : Asked). AsksInRange asked.step) (asks_of heard)
heard_fit [] all = tt
heard_fit (h ∷ heard) all =
    all_append (λ (asked : Asked). AsksInRange asked.step) (asks_by h.said h.lucks) (asks_of heard) (asked_fits h.said h.lucks all.0) (heard_fit heard all.1)

pub answered_in_range : AnsweredInRange
answered_in_range start sends input silo p =
    let a = p.answers in
    let logic = start.version.logic in
    let asks = heard_fit a.heard (subst (AllByRecursion SaysInRange) (sym a.said) (lines_say p.done)) in
    All-from_recursion AsksInRange silo.journal
    (subst Fit (sym a.tries.journal) (done_fits (whole_step logic) _ _ (all_fit (whole_stepper logic) sends _ (asks_of a.heard) asks)))
