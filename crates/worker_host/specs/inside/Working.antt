-- What a silo at work knows beside its history: how much each client is owed, as far as its replies were looked at; that its journal is
-- paced; and that nothing was kept as it opened.
use Rattle.std.specs.Prelude.{◌≡◌, ℕ, ◌+◌, ◌≤◌, Bool, true, false, length, take, Option, Some, None, Result, Ok, Err}
use Rattle.indexmap.specs.IndexMap.{IndexMap}
use Rattle.grain_id.specs.Names.{Client}
use Rattle.grain_logic.specs.Logic.{Logic}
use Rattle.silo_event.specs.declared.step.Answer.{Answer}
use Rattle.silo_event.specs.declared.step.Answer.TheVariants.{Done, Failed, NotNow}
use Rattle.silo_event.specs.declared.step.StepFault.{StepFault}
use Rattle.silo_event.specs.declared.step.Step.{Step}
use Rattle.silo_model.specs.Whole.{Whole, shown_to}
use Rattle.silo_model.specs.Journal.{LeadsTo}
use Rattle.silo_model.specs.Opening.{nothing_kept}
use Rattle.lane_model.specs.Asking.{ids_asked, ids_told}
use Rattle.lane_model.specs.Pacing.{is_paced, may_ask}
use Rattle.silo_core.specs.History.{Answered, History}
use Rattle.silo_core.specs.AtOnce.{Serves}
use Rattle.lane_workers.specs.declared.owed.Owed.{Owed}
use Rattle.lane_workers.specs.Owing.{owing_to}

-- a step with this answer was done
abbrev pub was_done : Result Answer StepFault → Bool
was_done (Ok Done) = true
was_done (Ok Failed) = true
was_done (Ok NotNow) = false
was_done (Err why) = false

-- The journal leads to what the silo has, and is paced. The silo was new as it opened. What each client is owed, and what it was told
-- by the replies that were looked at, is together what it asked.
pub record IsWorking {S : Type 0} (logic : Logic) (h : History) (owing : IndexMap Client Owed S) (seen : ℕ) : Type 0 where
  pub leads : LeadsTo logic h.setup h.journal h.whole
  pub paced : is_paced logic h.setup h.journal ≡ true
  pub new : h.setup.kept ≡ nothing_kept
  pub within : seen ≤ length h.whole.replies
  pub owed : (client : Client) → owing_to owing client + length (ids_told client (take seen h.whole.replies))
      ≡ length (ids_asked client h.journal)

-- nobody asks, or nothing of the client who asks waits or is open in the whole
abbrev pub may_ask_in : Whole → Option Client → Bool
may_ask_in w asker = may_ask (λ client. shown_to client.tenant w) asker

-- it was served, or done with this answer
abbrev pub was_taken : Result (Option Answer) StepFault → Bool
was_taken (Ok None) = true
was_taken (Ok (Some answer)) = was_done (Ok answer)
was_taken (Err why) = was_done (Err why)

-- the answer of a step that has one
abbrev pub with_answer : Result Answer StepFault → Result (Option Answer) StepFault
with_answer (Ok answer) = Ok (Some answer)
with_answer (Err why) = Err why

-- The step is a call that was served, and has no answer; or it was answered as any.
abbrev pub ServedOrAnswered : Logic → History → Step → Result (Option Answer) StepFault → History → Type 0
ServedOrAnswered logic old s (Ok None) new = Serves logic old s new
ServedOrAnswered logic old s (Ok (Some answer)) new = Answered logic old s (Ok answer) new
ServedOrAnswered logic old s (Err why) new = Answered logic old s (Err why) new
