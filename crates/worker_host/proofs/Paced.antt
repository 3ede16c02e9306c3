-- A paced journal is paced still after a step by which nobody asks, or a client of whom nothing waits or is open.
use Rattle.std.proofs.Common.{◌≡◌, ℕ, true, refl, ap, ◌∙◌}
use Rattle.std.specs.Prelude.{◌&&◌, Result, Ok, Err}
use Rattle.grain_logic.specs.Logic.{Logic}
use Rattle.silo_event.specs.Failed.{as_failed}
use Rattle.silo_event.specs.declared.step.Step.{Step}
use Rattle.silo_event.specs.declared.step.Step.TheVariants.{Refuse}
use Rattle.silo_event.specs.declared.step.Answer.{Answer}
use Rattle.silo_event.specs.declared.step.Answer.TheVariants.{Done, Failed, NotNow}
use Rattle.silo_event.specs.declared.step.StepFault.{StepFault}
use Rattle.silo_event.specs.declared.step.StepFault.TheVariants.{Memory, Stranger}
use Rattle.silo_model.specs.Opening.{Setup}
use Rattle.silo_model.specs.Journal.{LeadsTo}
use Rattle.lane_model.specs.Asking.{asker_of}
use Rattle.lane_model.specs.Pacing.{is_paced}
use Rattle.lane_model.proofs.PacedGrowth.{paced_grows}
use Rattle.silo_core.specs.History.{History, Advances, Answered}
use Rattle.worker_host.specs.inside.Working.{may_ask_in}

-- a step whose storage call failed is asked by the same client
pub asker_failed : (s : Step) → asker_of (as_failed s) ≡ asker_of s
asker_failed (Refuse caller id code) = refl
asker_failed _ = refl

module _ (logic : Logic) (old new : History) (paced : is_paced logic old.setup old.journal ≡ true) where
  pub stays_paced : new ≡ old → is_paced logic new.setup new.journal ≡ true
  stays_paced same = ap (λ (h : History). is_paced logic h.setup h.journal) same ∙ paced

  module _ (leads : LeadsTo logic old.setup old.journal old.whole) where
    paced_step : (s : Step) (n : ℕ) → may_ask_in old.whole (asker_of s) ≡ true → Advances logic old s n new → is_paced logic new.setup new.journal ≡ true
    paced_step s n may step =
        ap (λ (setup : Setup). is_paced logic setup new.journal) step.setup
        ∙ ap (is_paced logic old.setup) step.journal
        ∙ paced_grows logic old.setup old.journal old.whole s leads
        ∙ (λ i. paced i && may i)

    pub paced_answer : (s : Step) (r : Result Answer StepFault) → may_ask_in old.whole (asker_of s) ≡ true → Answered logic old s r new → is_paced logic new.setup new.journal ≡ true
    paced_answer s (Ok Done) may h = paced_step s 0 may h
    paced_answer s (Ok Failed) may h = paced_step (as_failed s) 1 (ap (may_ask_in old.whole) (asker_failed s) ∙ may) h.advances
    paced_answer s (Ok NotNow) may h = stays_paced h.unchanged
    paced_answer s (Err Memory) may h = stays_paced h
    paced_answer s (Err Stranger) may h = absurd h
