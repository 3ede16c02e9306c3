-- The journal of lines that were served has what the lines ask, under numbers below 2^63.
use Rattle.std.proofs.Common.{◌≡◌, ◌∙◌, ◌||◌, ℕ, Bool, true, false, cond, List, [], ◌∷◌, Option, Some, None, if◌then◌else◌, refl, ap, sym, subst, true≢false}
use Rattle.std.specs.Prelude.{filter, map as map_list, nat_lt}
use Rattle.std.specs.List.{AllByRecursion, list_any}
use Rattle.std.proofs.lemmas.List.Elements.{All-from_recursion, recursion_from_All}
use Rattle.grain_id.specs.Names.{Client}
use Rattle.finite_maps.proofs.Lists.{all_append}
use Rattle.silo_event.specs.Failed.{as_failed}
use Rattle.silo_event.specs.declared.step.Step.{Step}
use Rattle.silo_event.specs.declared.step.Step.TheVariants.{Refuse, Call, Poke, Status, Tick, Sweep}
use Rattle.silo_model.proofs.Tests.{on_found, on_test}
use Rattle.lane_model.specs.Lanes.{Lane, LaneStands, done_steps_by, done_steps_of, given_by, has_giver, is_given_by, lane_of, same_lane, without_ticks_below}
use Rattle.line_parser.specs.declared.line.Line.{Line}
use Rattle.line_parser.specs.declared.line.Line.TheVariants as line
use Rattle.line_text.specs.Lines.{lines_of}
use Rattle.line_text.specs.LineTexts.{said_lines}
use Rattle.line_service.specs.Asked.{giver_of, givers_of, lane_from, lanes_of, step_if, step_in, steps_of}
use Rattle.journal_text.specs.Rules.{AsksInRange}
use Rattle.command_parts.proofs.AskedNumbers.{SaysInRange, meaning_in_range}
use Rattle.serve_command.specs.Laws.{ServedInRange}

abbrev Fit : List Step → Type 0
Fit steps = AllByRecursion AsksInRange steps

-- ---- what the lines ask

lines_say : (lines : List (List ℕ)) → AllByRecursion SaysInRange (said_lines lines)
lines_say [] = tt
lines_say (l ∷ lines) = (meaning_in_range l, lines_say lines)

step_fits : (said : Line) → SaysInRange said → Fit (step_in said)
step_fits line.Nothing says = tt
step_fits (line.Refusal r) says = tt
step_fits (line.Step s) says = on_found (λ o. Fit (step_if o s)) (giver_of s) (λ _. tt) (λ _ _. (says, tt))

steps_fit : (saids : List Line) → AllByRecursion SaysInRange saids → Fit (steps_of saids)
steps_fit [] all = tt
steps_fit (said ∷ saids) all = all_append AsksInRange (step_in said) (steps_of saids) (step_fits said all.0) (steps_fit saids all.1)

-- ---- lanes

filter_fits : (p : Step → Bool) (steps : List Step) → Fit steps → Fit (filter p steps)
filter_fits p [] fit = tt
filter_fits p (s ∷ steps) fit =
    let rest = filter_fits p steps fit.1 in
    on_test (λ b. Fit (cond b (s ∷ filter p steps) (filter p steps))) (p s) (λ _. (fit.0, rest)) (λ _. rest)

ticks_fit : (clock : ℕ) (steps : List Step) → Fit steps → Fit (without_ticks_below clock steps)
ticks_fit clock [] fit = tt
ticks_fit clock (Tick now ∷ steps) fit =
    on_test (λ b. Fit (if b then without_ticks_below clock steps else Tick now ∷ without_ticks_below now steps)) (nat_lt now clock)
    (λ _. ticks_fit clock steps fit.1) (λ _. (tt, ticks_fit now steps fit.1))
ticks_fit clock (_ ∷ steps) fit = (fit.0, ticks_fit clock steps fit.1)

done_fit : (from : Option Client) (steps : List Step) → Fit steps → Fit (done_steps_by from steps)
done_fit None steps fit = ticks_fit 0 steps fit
done_fit (Some client) steps fit = fit

lanes_fit : (steps : List Step) (givers : List (Option Client)) → Fit steps
    → AllByRecursion (λ (lane : Lane). Fit (done_steps_of lane)) (map_list (lane_from steps) givers)
lanes_fit steps [] fit = tt
lanes_fit steps (giver ∷ givers) fit =
    (done_fit giver (given_by giver steps) (filter_fits (λ s. is_given_by giver (lane_of s)) steps fit), lanes_fit steps givers fit)

-- ---- the mark of a failure changes no number

failed_fits : (s : Step) → AsksInRange s → AsksInRange (as_failed s)
failed_fits Sweep is = is
failed_fits _ is = is

fits_failed : (s : Step) → AsksInRange (as_failed s) → AsksInRange s
fits_failed Sweep is = is
fits_failed _ is = is

all_failed : (steps : List Step) → Fit steps → Fit (map_list as_failed steps)
all_failed [] fit = tt
all_failed (s ∷ steps) fit = (failed_fits s fit.0, all_failed steps fit.1)

none_failed : (steps : List Step) → Fit (map_list as_failed steps) → Fit steps
none_failed [] fit = tt
none_failed (s ∷ steps) fit = (fits_failed s fit.0, none_failed steps fit.1)

-- ---- the journal

-- what the lane gives asks in range
abbrev GivesFit : Lane → Step → Type 0
GivesFit lane s = is_given_by lane.from (lane_of s) ≡ true → AsksInRange s

unfiltered : (lane : Lane) (journal : List Step) → Fit (given_by lane.from journal) → AllByRecursion (GivesFit lane) journal
unfiltered lane [] fit = tt
unfiltered lane (s ∷ journal) fit = by_test (is_given_by lane.from (lane_of s)) refl fit (unfiltered lane journal)
  where
    by_test : (b : Bool) → is_given_by lane.from (lane_of s) ≡ b → Fit (cond b (s ∷ given_by lane.from journal) (given_by lane.from journal))
        → (Fit (given_by lane.from journal) → AllByRecursion (GivesFit lane) journal) → AllByRecursion (GivesFit lane) (s ∷ journal)
    by_test true is fit rest = (λ _. fit.0, rest fit.1)
    by_test false is fit rest = (λ given. absurd (true≢false (sym given ∙ is)), rest fit)

each_gives : (lanes : List Lane) (journal : List Step) → AllByRecursion (λ (lane : Lane). Fit (done_steps_of lane)) lanes
    → AllByRecursion (λ (lane : Lane). LaneStands lane journal) lanes → AllByRecursion (λ (lane : Lane). AllByRecursion (GivesFit lane) journal) lanes
each_gives [] journal fit stand = tt
each_gives (lane ∷ lanes) journal fit stand = (
  unfiltered lane journal (none_failed (given_by lane.from journal) (subst Fit (sym stand.0) (all_failed (done_steps_of lane) fit.0))),
  each_gives lanes journal fit.1 stand.1,
)

firsts : (lanes : List Lane) (s : Step) (journal : List Step) → AllByRecursion (λ (lane : Lane). AllByRecursion (GivesFit lane) (s ∷ journal)) lanes
    → AllByRecursion (λ (lane : Lane). GivesFit lane s) lanes
firsts [] s journal all = tt
firsts (lane ∷ lanes) s journal all = (all.0.0, firsts lanes s journal all.1)

others : (lanes : List Lane) (s : Step) (journal : List Step) → AllByRecursion (λ (lane : Lane). AllByRecursion (GivesFit lane) (s ∷ journal)) lanes
    → AllByRecursion (λ (lane : Lane). AllByRecursion (GivesFit lane) journal) lanes
others [] s journal all = tt
others (lane ∷ lanes) s journal all = (all.0.1, others lanes s journal all.1)

-- a step of no lane asks nothing
of_no_lane : (s : Step) → lane_of s ≡ None → AsksInRange s
of_no_lane (Refuse caller id code) is = absurd cc
of_no_lane (Call caller id grain message) is = absurd cc
of_no_lane (Poke failed caller id grain state) is = absurd cc
of_no_lane (Status caller id) is = absurd cc
of_no_lane _ is = tt

of_lane : (lanes : List Lane) (s : Step) (giver : Option Client) → lane_of s ≡ Some giver → AllByRecursion (λ (lane : Lane). GivesFit lane s) lanes
    → list_any (λ (lane : Lane). same_lane giver lane.from) lanes ≡ true → AsksInRange s
of_lane [] s giver is all any = absurd (true≢false (sym any))
of_lane (lane ∷ lanes) s giver is all any =
    by_test (same_lane giver lane.from) refl any (of_lane lanes s giver is all.1)
  where
    by_test : (b : Bool) → same_lane giver lane.from ≡ b → (b || list_any (λ (lane : Lane). same_lane giver lane.from) lanes) ≡ true
        → (list_any (λ (lane : Lane). same_lane giver lane.from) lanes ≡ true → AsksInRange s) → AsksInRange s
    by_test true same any rest = all.0 (ap (is_given_by lane.from) is ∙ same)
    by_test false same any rest = rest any

all_asked : (lanes : List Lane) (journal : List Step) → AllByRecursion (λ (lane : Lane). AllByRecursion (GivesFit lane) journal) lanes
    → AllByRecursion (λ s. has_giver lanes (lane_of s) ≡ true) journal → Fit journal
all_asked lanes [] gives given = tt
all_asked lanes (s ∷ journal) gives given = (
  on_found (λ o. lane_of s ≡ o → has_giver lanes o ≡ true → AsksInRange s) (lane_of s) (λ _ is _. of_no_lane s is)
      (λ giver _ is any. of_lane lanes s giver is (firsts lanes s journal gives) any) refl given.0,
  all_asked lanes journal (others lanes s journal gives) given.1,
)

pub served_in_range : ServedInRange
served_in_range start input left outcome p =
    let lanes = lanes_of p.lines in
    let journal = outcome.silo.journal in
    let stand = p.lanes.served.stand in
    let fit = steps_fit p.lines (subst (AllByRecursion SaysInRange) (sym p.read.said) (lines_say (lines_of input))) in
    All-from_recursion AsksInRange journal
    (all_asked lanes journal
    (each_gives lanes journal (lanes_fit (steps_of p.lines) (givers_of (steps_of p.lines)) fit) (recursion_from_All _ lanes stand.each))
    (recursion_from_All _ journal stand.given))
