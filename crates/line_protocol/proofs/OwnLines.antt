-- What is written for the lines of one tenant, among those of many.
use Rattle.std.proofs.Common.{◌≡◌, ℕ, Bool, true, false, cond, List, [], ◌∷◌, ◌++◌, length, drop, Option, Some, None, unwrap_or, refl, sym, ap, ap₂, ◌∙◌}
use Rattle.std.proofs.Math.Seq.{drop-append_seam}
use Rattle.silo_event.specs.Failed.{marked_step}
use Rattle.silo_event.specs.declared.reply.Reply.{Reply}
use Rattle.silo_event.specs.declared.step.Answer.{Answer}
use Rattle.silo_event.specs.declared.step.Step.{Step}
use Rattle.grain_logic.specs.Logic.{Logic}
use Rattle.silo_model.specs.Machine.{Machine}
use Rattle.silo_model.specs.Opening.{Setup}
use Rattle.silo_model.specs.Journal.{LeadsTo}
use Rattle.silo_model.specs.Run.{concerns, answers_to}
use Rattle.silo_model.specs.Step.{machine_step}
use Rattle.silo_model.specs.Whole.{Whole, whole_step, shown_to}
use Rattle.silo_model.proofs.AnswersInParts.{concerns_marked, answered_in_parts}
use Rattle.silo_model.proofs.Journals.{journal_sound, journals_grow, not_now}
use Rattle.silo_model.proofs.Runs.{whole_after, machine_after, next_shown}
use Rattle.silo_core.specs.History.{History}
use Rattle.silo_core.proofs.Steps.{done_parts}
use Rattle.line_text.specs.LineTexts.{whole_stepper, machine_stepper, texts_of, step_text, line_text, line_texts, said_lines, steps_said, as_taken, lines_to, texts_to}
use Rattle.line_protocol.specs.LineRuns.{AnswersSaid, AnswersLines}
use Rattle.line_parser.specs.declared.line.Line.{Line}
use Rattle.line_parser.specs.declared.line.Line.TheVariants as line
use Rattle.line_text.proofs.Saids.{EachAnswered}

-- ---- one step

-- what stands behind the replies that were there
behind : (old added new : List Reply) → new ≡ old ++ added → drop (length old) new ≡ added
behind old added new e = ap (drop (length old)) e ∙ drop-append_seam old added

module _ (logic : Logic) (setup : Setup) (journal : List Step) (w : Whole) (leads : LeadsTo logic setup journal w) (s : Step) where
  -- a journal that leads on
  leads_on : (r : Option Whole) → whole_step logic w s ≡ r → (more : List Step) × LeadsTo logic setup more (unwrap_or r w)
  leads_on None e = (journal, leads)
  leads_on (Some after) e = (journal ++ s ∷ [], journals_grow logic setup journal w after s leads e)

  module _ (tenant : List ℕ) where
    own_text_by : concerns tenant s ≡ true → (r : Option Whole) → whole_step logic w s ≡ r → step_text (λ x. x.replies) w r ≡ step_text (λ m. m.replies) (shown_to tenant w) (machine_step logic (shown_to tenant w) s)
    own_text_by concerned None e = sym (ap (step_text (λ m. m.replies) (shown_to tenant w)) (not_now logic w s tenant concerned e))
    own_text_by concerned (Some after) e =
        let parts = done_parts logic setup journal w after s leads e in
        ap texts_of
        (behind w.replies parts.added after.replies parts.replies
        ∙ sym (behind (shown_to tenant w).replies parts.added (shown_to tenant after).replies (parts.own_replies tenant concerned)))
        ∙ sym (ap (step_text (λ m. m.replies) (shown_to tenant w)) (parts.own tenant concerned))

    -- the text of a step is that of the machine of each tenant that it concerns
    own_text : concerns tenant s ≡ true → line_text (whole_stepper logic) w (line.Step s) ≡ line_text (machine_stepper logic) (shown_to tenant w) (line.Step s)
    own_text concerned = own_text_by concerned (whole_step logic w s) refl

    shown_after : (b : Bool) → concerns tenant s ≡ b → shown_to tenant (whole_after logic w s) ≡ cond b (machine_after logic (shown_to tenant w) s) (shown_to tenant w)
    shown_after b is = next_shown logic w s (journal_sound logic setup journal w leads) tenant ∙ ap (λ c. cond c (machine_after logic (shown_to tenant w) s) (shown_to tenant w)) is

-- ---- lines

own_texts : (logic : Logic) (setup : Setup) (tenant : List ℕ) (saids : List Line) (given : List Answer) (journal : List Step) (w : Whole) → LeadsTo logic setup journal w → EachAnswered saids given
    → texts_to tenant saids (line_texts (whole_stepper logic) w (as_taken saids given)) ≡ line_texts (machine_stepper logic) (shown_to tenant w) (as_taken (lines_to tenant saids) (answers_to tenant (steps_said saids) given))
own_texts logic setup tenant [] given journal w leads each = refl
own_texts logic setup tenant (line.Nothing ∷ saids) given journal w leads each = ap (λ texts. [] ∷ texts) (own_texts logic setup tenant saids given journal w leads each)
own_texts logic setup tenant (line.Refusal r ∷ saids) given journal w leads each =
    ap (λ texts. line_text (whole_stepper logic) w (line.Refusal r) ∷ texts) (own_texts logic setup tenant saids given journal w leads each)
own_texts logic setup tenant (line.Step s ∷ saids) [] journal w leads each = absurd (cc (each))
own_texts logic setup tenant (line.Step s ∷ saids) (a ∷ given) journal w leads each =
    let on = leads_on logic setup journal w leads taken (whole_step logic w taken) refl in
    by_concern (concerns tenant s) refl (own_texts logic setup tenant saids given on.0 after on.1 (cc (each)))
  where
    taken : Step
    taken = marked_step s a

    after : Whole
    after = whole_after logic w taken

    machine : Machine
    machine = shown_to tenant w

    text : List ℕ
    text = line_text (whole_stepper logic) w (line.Step taken)

    texts : List (List ℕ)
    texts = texts_to tenant saids (line_texts (whole_stepper logic) after (as_taken saids given))

    own : List Line
    own = lines_to tenant saids

    answers : List Answer
    answers = answers_to tenant (steps_said saids) given

    written : Machine → List (List ℕ)
    written m = line_texts (machine_stepper logic) m (as_taken own answers)

    by_concern : (b : Bool) → concerns tenant s ≡ b → texts ≡ written (shown_to tenant after)
        → cond b (text ∷ texts) texts ≡ line_texts (machine_stepper logic) machine (as_taken (cond b (line.Step s ∷ own) own) (cond b (a ∷ answers) answers))
    by_concern true is rest =
        let concerned = concerns_marked tenant s a ∙ is in
        ap₂ (λ (t : List ℕ) (ts : List (List ℕ)). t ∷ ts) (own_text logic setup journal w leads taken tenant concerned)
        (rest ∙ ap written (shown_after logic setup journal w leads taken tenant true concerned))
    by_concern false is rest = rest ∙ ap written (shown_after logic setup journal w leads taken tenant false (concerns_marked tenant s a ∙ is))

-- what holds of all tenants holds of each alone
pub lines_own : (logic : Logic) (old new : History) (lines : List (List ℕ)) (given : List Answer) (text : List ℕ) → LeadsTo logic old.setup old.journal old.whole → AnswersSaid logic old (said_lines lines) given new text
    → AnswersLines logic old lines given new text
lines_own logic old new lines given text leads p = record {
  all = p;
  own = λ tenant. record {
    silo = answered_in_parts logic old.setup old.journal old.whole tenant (steps_said (said_lines lines)) given leads p.silo.answers;
    texts = own_texts logic old.setup tenant (said_lines lines) given old.journal old.whole leads p.silo.each_answered;
  };
}
