-- A line is answered as with good luck if the storage didn't fail and there was memory for the turns that came of it.
use Rattle.std.proofs.Common.{◌≡◌, ◌∙◌, ◌≤◌, ℕ, Bool, true, false, ◌&&◌, List, [], ◌∷◌, ◌++◌, length, append-nil, arith, refl, ap, sym, subst, true≢false, length-append}
use Rattle.std.specs.Prelude.{drop, not}
use Rattle.std.specs.List.{list_all}
use Rattle.std.proofs.Math.Seq.{drop-append_seam}
use Rattle.silo_event.specs.Failed.{has_failed}
use Rattle.silo_event.specs.declared.step.Step.{Step}
use Rattle.grain_logic.specs.Logic.{Logic}
use Rattle.silo_model.specs.Journal.{LeadsTo}
use Rattle.silo_model.specs.Whole.{whole_step}
use Rattle.silo_model.specs.Run.{done_by}
use Rattle.silo_core.specs.History.{History}
use Rattle.line_parser.specs.Meaning.{meaning_of}
use Rattle.answer_model.specs.Answering.{all_answered, whole_stepper}
use Rattle.answer_model.specs.Certain.{AllStored}
use Rattle.answer_model.specs.Idle.{AllIdle}
use Rattle.line_answer.specs.Texts.{all_steps, asks_by, line_text}
use Rattle.line_answer.specs.Runs.{AnswersLineBy}
use Rattle.line_answer.proofs.Alone.{line_surely}
use Rattle.line_answer.proofs.Asked.{run_all}
use Rattle.log_answer.specs.Answers.{LeadsLines}

and_all : (b c : Bool) → (b && c) ≡ true → (b ≡ true) × (c ≡ true)
and_all true c is = (refl, is)
and_all false c is = absurd (true≢false (sym is))

-- the storage didn't fail in the step
abbrev pub is_stored : Step → Bool
is_stored s = not (has_failed s)

no_mark : (b : Bool) → not b ≡ true → b ≡ false
no_mark false is = refl
no_mark true is = absurd (true≢false (sym is))

pub all_by : (steps : List Step) → list_all is_stored steps ≡ true → AllStored steps
all_by [] is = tt
all_by (s ∷ steps) is = let both = and_all (is_stored s) (list_all is_stored steps) is in (no_mark (has_failed s) both.0, all_by steps both.1)

-- the steps before stand in the journal
pub some_before : (old new more : List Step) → new ≡ old ++ more → length old ≤ length new
some_before old new more is = omega (arith, ap length is, length-append old more)

steps_since : (old new more : List Step) → new ≡ old ++ more → drop (length old) new ≡ more
steps_since old new more is = ap (drop (length old)) is ∙ drop-append_seam old more

module _ (logic : Logic) (n : ℕ) where
  pub leads_well : (old new : History) (line text : List ℕ) → LeadsTo logic old.setup old.journal old.whole → AllIdle old.whole.entries
      → AnswersLineBy logic n old (meaning_of line) true new text → list_all is_stored (drop (length old.journal) new.journal) ≡ true
      → LeadsLines logic n old (line ∷ []) new text
  leads_well old new line text leads idle answered stored =
      let answers = answered.answers in
      let by = whole_stepper logic in
      let said = meaning_of line in
      let asks = asks_by said answers.0 in
      let all : AllStored (done_by (whole_step logic) old.whole (all_steps by n old.whole asks)) =
      subst AllStored (steps_since old.journal new.journal _ answers.1.journal) (all_by _ stored) in
      let same = line_surely logic old.setup n old.whole said answers.0 (old.journal, leads) idle (answered.had refl) all in
      record {
        setup = answers.1.setup;
        whole = answers.1.whole ∙ run_all by n old.whole asks ∙ same.0 ∙ ap (all_answered by n old.whole) (sym (append-nil (asks_by said [])));
        idle = answers.3;
        text_is = answers.2 ∙ same.1 ∙ sym (append-nil (line_text by n old.whole said []));
      }
