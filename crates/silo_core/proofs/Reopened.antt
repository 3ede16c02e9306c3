-- A silo that opens again where it is, and its segments.
use Rattle.std.proofs.Common.{◌≡◌, List, [], ◌∷◌, ◌++◌, Some, ap, sym, ◌∙◌, subst}
use Rattle.std.proofs.lemmas.List.{append_assoc}
use Rattle.silo_event.specs.declared.step.Step.{Step}
use Rattle.grain_logic.specs.Logic.{Logic}
use Rattle.silo_model.specs.Collected.{AllIdle}
use Rattle.silo_model.specs.Journal.{LeadsTo}
use Rattle.silo_model.specs.Opening.{Setup}
use Rattle.silo_model.specs.Segments.{resumed, told_before, untold}
use Rattle.silo_model.specs.Whole.{Whole}
use Rattle.silo_model.proofs.Segments.{resumes_as_it_was, segments_lead}
use Rattle.silo_core.specs.History.{History}
use Rattle.silo_core.specs.Reopening.{NothingIsLost, ReopeningAddsASegment, Reopens, Stood, replies_in, steps_in}

-- no step leads from what it opens with to what it shows
pub resumed_leads : (logic : Logic) (setup : Setup) (journal : List Step) (w : Whole) → LeadsTo logic setup journal w → AllIdle w.entries
    → LeadsTo logic (resumed setup w) [] (untold w)
resumed_leads logic setup journal w leads rest = ap Some (resumes_as_it_was logic setup journal w leads rest)

-- and so with what is the same as these
pub leads_as : (logic : Logic) (setup other : Setup) (journal steps : List Step) (w v : Whole) → setup ≡ other → journal ≡ steps → w ≡ v → LeadsTo logic other steps v → LeadsTo logic setup journal w
leads_as logic setup other journal steps w v s j e leads =
    subst (λ (x : Setup). LeadsTo logic x journal w) (sym s)
    (subst (λ (js : List Step). LeadsTo logic other js w) (sym j)
    (subst (λ (x : Whole). LeadsTo logic other steps x) (sym e) leads))

stood_on : (logic : Logic) (setup : Setup) (old new : History) → Stood logic setup old → AllIdle old.whole.entries → Reopens old new → Stood logic (resumed setup old.whole) new
stood_on logic setup old new stood rest r = record {
  opened = r.setup ∙ ap (λ (s : Setup). resumed s old.whole) stood.opened;
  leads = leads_as logic new.setup (resumed old.setup old.whole) new.journal [] new.whole (untold old.whole) r.setup r.journal r.whole
      (resumed_leads logic old.setup old.journal old.whole stood.leads rest);
}

pub reopening_adds_a_segment : ReopeningAddsASegment
reopening_adds_a_segment logic setup [] old new stood rest r = (stood, rest, stood_on logic setup old new stood rest r)
reopening_adds_a_segment logic setup (h ∷ left) old new segments rest r =
    (segments.0, segments.1, reopening_adds_a_segment logic (resumed setup h.whole) left old new segments.2 rest r)

pub nothing_is_lost : NothingIsLost
nothing_is_lost logic setup [] last stood = subst (λ (s : Setup). LeadsTo logic s last.journal last.whole) stood.opened stood.leads
nothing_is_lost logic setup (h ∷ left) last segments =
    let first = subst (λ (s : Setup). LeadsTo logic s h.journal h.whole) segments.0.opened segments.0.leads in
    let second = nothing_is_lost logic (resumed setup h.whole) left last segments.2 in
    leads_as logic setup setup _ _ _ _ (λ _. setup) (append_assoc h.journal (steps_in left) last.journal)
    (λ i. record last.whole { replies = append_assoc h.whole.replies (replies_in left) last.whole.replies i })
    (segments_lead logic setup h.journal (steps_in left ++ last.journal) h.whole (told_before (replies_in left) last.whole) first segments.1 second)
