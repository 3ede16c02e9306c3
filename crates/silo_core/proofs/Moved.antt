-- Where a silo's journal leads once its state has taken a step.
use Rattle.std.proofs.Common.{◌≡◌, List, [], ◌++◌, sym, subst}
use Rattle.std.specs.Prelude.{Ok}
use Rattle.std.proofs.lemmas.List.{append-nil}
use Rattle.silo_event.specs.Failed.{as_failed}
use Rattle.silo_event.specs.declared.step.Step.{Step}
use Rattle.silo_event.specs.declared.step.Answer.{Answer}
use Rattle.silo_event.specs.declared.step.Answer.TheVariants.{Done, Failed, NotNow}
use Rattle.grain_logic.specs.Logic.{Logic}
use Rattle.silo_model.specs.Opening.{Setup}
use Rattle.silo_model.specs.Journal.{LeadsTo}
use Rattle.silo_model.proofs.Journals.{journals_grow, not_now}
use Rattle.silo_state.specs.inside.Held.{Held}
use Rattle.silo_state.specs.Moves.{Moves}
use Rattle.silo_core.specs.History.{StepAnswersInParts}
use Rattle.silo_core.specs.Runs.{noted}
use Rattle.silo_core.proofs.Steps.{done_parts}

leads_on : (logic : Logic) (setup : Setup) (journal : List Step) (old new : Held) (s : Step) (a : Answer) → LeadsTo logic setup journal old.whole → Moves logic old s (Ok a) new → LeadsTo logic setup (journal ++ noted s a) new.whole
leads_on logic setup journal old new s Done leads h = journals_grow logic setup journal old.whole new.whole s leads h.0
leads_on logic setup journal old new s Failed leads h = journals_grow logic setup journal old.whole new.whole (as_failed s) leads h.1
leads_on logic setup journal old new s NotNow leads h =
    subst (λ (k : Held). LeadsTo logic setup (journal ++ []) k.whole) (sym h.1)
    (subst (λ (j : List Step). LeadsTo logic setup j old.whole) (sym (append-nil journal)) leads)

-- the journal with the step behind it, if it was done
pub moves_lead : (logic : Logic) (setup : Setup) (journal after : List Step) (old new : Held) (s : Step) (a : Answer)
    → LeadsTo logic setup journal old.whole → Moves logic old s (Ok a) new → after ≡ journal ++ noted s a → LeadsTo logic setup after new.whole
moves_lead logic setup journal after old new s a leads h grown = subst (λ (j : List Step). LeadsTo logic setup j new.whole) (sym grown) (leads_on logic setup journal old new s a leads h)

pub moved_parts : (logic : Logic) (setup : Setup) (journal : List Step) (old new : Held) (s : Step) (a : Answer) → LeadsTo logic setup journal old.whole → Moves logic old s (Ok a) new → StepAnswersInParts logic old.whole s (Ok a) new.whole
moved_parts logic setup journal old new s Done leads h = done_parts logic setup journal old.whole new.whole s leads h.0
moved_parts logic setup journal old new s Failed leads h = done_parts logic setup journal old.whole new.whole (as_failed s) leads h.1
moved_parts logic setup journal old new s NotNow leads h = λ tenant concerned. not_now logic old.whole s tenant concerned h.0
