-- What a silo's step shows of each tenant, by its journal.
use Rattle.std.proofs.Common.{◌≡◌, ℕ, true, List, [], ◌++◌, Option, Some, None, refl, ap, sym, ◌∙◌}
use Rattle.std.specs.Prelude.{Result, Ok, Err, filter}
use Rattle.std.proofs.lemmas.List.{append-nil}
use Rattle.grain_id.proofs.Order.{same_text_decides}
use Rattle.silo_event.specs.Owner.{owner_of}
use Rattle.silo_event.specs.Failed.{as_failed}
use Rattle.silo_event.specs.declared.reply.Reply.{Reply}
use Rattle.silo_event.specs.declared.step.Step.{Step}
use Rattle.silo_event.specs.declared.step.Answer.{Answer}
use Rattle.silo_event.specs.declared.step.Answer.TheVariants.{Done, Failed, NotNow}
use Rattle.silo_event.specs.declared.step.StepFault.{StepFault}
use Rattle.silo_event.specs.declared.step.StepFault.TheVariants.{Memory, Stranger}
use Rattle.grain_logic.specs.Logic.{Logic}
use Rattle.silo_model.specs.Whole.{Whole, is_to, shown_to, whole_step}
use Rattle.silo_model.specs.Run.{concerns, concerns_by}
use Rattle.silo_model.specs.Opening.{Setup}
use Rattle.silo_model.specs.Journal.{LeadsTo}
use Rattle.silo_model.proofs.Isolation.{shared_by}
use Rattle.silo_model.proofs.SharedSteps.{shared_leaves}
use Rattle.silo_model.proofs.Journals.{own_part, other_parts, not_now, adds_replies}
use Rattle.silo_core.specs.History.{History, Answered, StepAnswersInParts, StepsInParts}

-- The replies that a step adds stand last among all, and last among those of each tenant that it concerns.
record Adds (w : Whole) (s : Step) (after : Whole) : Type 0 where
  added : List Reply
  replies : after.replies ≡ w.replies ++ added
  own_replies : (tenant : List ℕ) → concerns tenant s ≡ true → (shown_to tenant after).replies ≡ (shown_to tenant w).replies ++ added

module _ (logic : Logic) (setup : Setup) (journal : List Step) (w after : Whole) (s : Step) (leads : LeadsTo logic setup journal w) (step : whole_step logic w s ≡ Some after) where
  replies_shown : (tenant : List ℕ) → after.replies ≡ w.replies → (shown_to tenant after).replies ≡ (shown_to tenant w).replies
  unfolding shown_to
  replies_shown tenant same = ap (filter (is_to tenant)) same

  adds_by : (o : Option (List ℕ)) → owner_of s ≡ o → Adds w s after
  adds_by None is =
      let same = (shared_leaves w after s (sym (shared_by logic w s is) ∙ step)).replies in
      record {
        added = [];
        replies = same ∙ sym (append-nil w.replies);
        own_replies = λ tenant concerned. replies_shown tenant same ∙ sym (append-nil (shown_to tenant w).replies);
      }
  adds_by (Some owner) is =
      let adds = adds_replies logic setup journal w after s leads step in
      record {
        added = adds.added;
        replies = adds.replies;
        own_replies = λ tenant concerned. adds.own_replies tenant (is ∙ ap Some ((same_text_decides owner tenant).0 (sym (ap (concerns_by tenant) is) ∙ concerned)));
      }

  pub done_parts : StepsInParts logic w s after
  done_parts =
      let adds = adds_by (owner_of s) refl in
      record {
        own = λ tenant concerned. own_part logic setup journal w after s tenant leads concerned step;
        others = λ tenant apart. other_parts logic setup journal w after s tenant leads apart step;
        added = adds.added;
        replies = adds.replies;
        own_replies = adds.own_replies;
      }

pub step_parts : (logic : Logic) (old new : History) (s : Step) (r : Result Answer StepFault) → LeadsTo logic old.setup old.journal old.whole → Answered logic old s r new → StepAnswersInParts logic old.whole s r new.whole
step_parts logic old new s (Ok Done) leads h = done_parts logic old.setup old.journal old.whole new.whole s leads h.whole
step_parts logic old new s (Ok Failed) leads h = done_parts logic old.setup old.journal old.whole new.whole (as_failed s) leads h.advances.whole
step_parts logic old new s (Ok NotNow) leads h = λ tenant concerned. not_now logic old.whole s tenant concerned h.impossible
step_parts logic old new s (Err Memory) leads h = ap (λ (k : History). k.whole) h
step_parts logic old new s (Err Stranger) leads h = absurd h
