-- A silo that dropped its history answers as if it had kept all.
use Rattle.std.proofs.Common.{◌≡◌, ℕ, ◌+◌, Bool, true, false, List, [], ◌∷◌, ◌++◌, length, drop, Option, Some, None, refl, ap, sym, ◌∙◌, subst, inl, inr, append_assoc}
use Rattle.std.specs.Prelude.{option_map, Result, Ok, Err}
use Rattle.std.proofs.lemmas.List.{append-nil}
use Rattle.silo_event.specs.declared.reply.Reply.{Reply}
use Rattle.silo_event.specs.declared.step.Step.{Step}
use Rattle.grain_logic.specs.Logic.{Logic}
use Rattle.silo_model.specs.Collected.{AllIdle}
use Rattle.silo_model.specs.Run.{done_by}
use Rattle.silo_model.specs.Segments.{told_before, untold}
use Rattle.silo_model.specs.Whole.{Whole, whole_step}
use Rattle.silo_model.proofs.Common.{whole_run}
use Rattle.silo_model.proofs.Framed.{framed_step}
use Rattle.silo_core.specs.History.{History, Failures, failed_since}
use Rattle.silo_core.specs.Reopening.{Reopens, ReopensOrNot}
use Rattle.line_parser.specs.declared.line.Line.{Line}
use Rattle.line_parser.specs.declared.line.Line.TheVariants as line
use Rattle.line_text.specs.LineTexts.{texts_of}
use Rattle.answer_model.specs.Answering.{Stepper, Asked, Luck, taken, is_asked, whole_stepper, answering, answered, all_answered}
use Rattle.answer_model.proofs.Untold.{answered_told, answering_told, done_told, run_told}
use Rattle.line_answer.specs.Dropped.{IsLeftOf, Leaves, MayDrop}
use Rattle.line_answer.specs.Runs.{AnswersLine}
use Rattle.line_answer.specs.Texts.{all_steps, asked_text, asks_by, line_text, step_text, text_if}
use Rattle.line_answer.specs.Trying.{Tries, failed_among}

-- ---- nothing that is done or written depends on the replies before

drop_both : (rs a b : List Reply) → drop (length (rs ++ a)) (rs ++ b) ≡ drop (length a) b
drop_both [] a b = refl
drop_both (r ∷ rs) a b = drop_both rs a b

module _ (logic : Logic) (n : ℕ) (rs : List Reply) where
  abbrev by : Stepper Whole
  by = whole_stepper logic

  steps_told : (asks : List Asked) (w : Whole) → all_steps by n (told_before rs w) asks ≡ all_steps by n w asks
  steps_told [] w = refl
  steps_told (asked ∷ others) w =
      ap (λ steps. steps ++ all_steps by n (answered by n (told_before rs w) asked) others) (answering_told logic rs n w asked)
      ∙ ap (λ (v : Whole). answering by n w asked ++ all_steps by n v others) (answered_told logic rs n w asked)
      ∙ ap (λ steps. answering by n w asked ++ steps) (steps_told others (answered by n w asked))

  same_text_if : (o : Option Whole) (text : List ℕ) → text_if (option_map (told_before rs) o) text ≡ text_if o text
  same_text_if None text = refl
  same_text_if (Some w) text = refl

  asked_told : (w : Whole) (asked : Asked) → asked_text by n (told_before rs w) asked ≡ asked_text by n w asked
  asked_told w asked =
      ap (λ (v : Whole). text_if (whole_step logic (told_before rs w) (taken asked)) (texts_of (drop (length (rs ++ w.replies)) v.replies))) (answered_told logic rs n w asked)
      ∙ ap (λ (new : List Reply). text_if (whole_step logic (told_before rs w) (taken asked)) (texts_of new)) (drop_both rs w.replies (answered by n w asked).replies)
      ∙ ap (λ (o : Option Whole). text_if o (texts_of (drop (length w.replies) (answered by n w asked).replies))) (framed_step logic rs w (taken asked))
      ∙ same_text_if (whole_step logic w (taken asked)) (texts_of (drop (length w.replies) (answered by n w asked).replies))

  step_told : (b : Bool) (w : Whole) (s : Step) (lucks : List Luck) → step_text by n b (told_before rs w) s lucks ≡ step_text by n b w s lucks
  step_told true w s lucks = asked_told w (record { step = s; lucks = lucks })
  step_told false w s lucks = refl

  pub text_told : (w : Whole) (said : Line) (lucks : List Luck) → line_text by n (told_before rs w) said lucks ≡ line_text by n w said lucks
  text_told w line.Nothing lucks = refl
  text_told w (line.Refusal r) lucks = refl
  text_told w (line.Step s) lucks = step_told (is_asked s) w s lucks

  -- ---- one line

  abbrev done_in : Whole → List Asked → List Step
  done_in w asks = done_by (whole_step logic) w (all_steps by n w asks)

  done_alike : (asks : List Asked) (w : Whole) → done_in (told_before rs w) asks ≡ done_in w asks
  done_alike asks w =
      ap (done_by (whole_step logic) (told_before rs w)) (steps_told asks w) ∙ done_told logic rs (all_steps by n w asks) w

  run_alike : (asks : List Asked) (w : Whole) → whole_run logic (told_before rs w) (all_steps by n (told_before rs w) asks) ≡ told_before rs (whole_run logic w (all_steps by n w asks))
  run_alike asks w =
      ap (whole_run logic (told_before rs w)) (steps_told asks w) ∙ run_told logic rs (all_steps by n w asks) w

module _ (logic : Logic) (n : ℕ) where
  -- the history that would be, had all been kept
  abbrev gone_on : History → History → List Reply → List Asked → History → History
  gone_on all left told asks new = record {
    setup = all.setup;
    whole = told_before told new.whole;
    journal = all.journal ++ done_in logic n told left.whole asks;
    failures = failed_since (failed_among (done_in logic n told left.whole asks)) all.failures;
  }

  line_left : (all left new : History) (said : Line) (text : List ℕ) → IsLeftOf all left → AnswersLine logic n left said new text
      → (more : History) × AnswersLine logic n all said more text × IsLeftOf more new
  line_left all left new said text p answers =
      let lucks = answers.0 in
      let tries = answers.1 in
      let asks = asks_by said lucks in
      let more = gone_on all left p.told asks new in
      let done = done_in logic n p.told left.whole asks in (
        more,
        (
          lucks,
          record {
            setup = refl;
            whole = ap (told_before p.told) tries.whole ∙ sym (run_alike logic n p.told asks left.whole)
                ∙ ap (λ (v : Whole). whole_run logic v (all_steps (whole_stepper logic) n v asks)) (sym p.whole);
            journal = ap (λ (steps : List Step). all.journal ++ steps) (alike left.whole asks p.told p.whole);
            failures = ap (λ (steps : List Step). failed_since (failed_among steps) all.failures) (alike left.whole asks p.told p.whole);
          },
          answers.2 ∙ sym (text_told logic n p.told left.whole said lucks) ∙ ap (λ (v : Whole). line_text (whole_stepper logic) n v said lucks) (sym p.whole),
          answers.3,
        ),
        record {
          before = p.before;
          told = p.told;
          journal = ap (λ (steps : List Step). steps ++ done) p.journal ∙ append_assoc p.before left.journal done
              ∙ ap (λ (steps : List Step). p.before ++ steps) (sym tries.journal);
          whole = refl;
          failures = ap (λ (k : ℕ). k + failed_among done) p.failures ∙ sym (ap (λ (f : Failures). f.now) tries.failures);
        },
      )
    where
      alike : (w : Whole) (asks : List Asked) (told : List Reply) → all.whole ≡ told_before told w → done_in logic n told w asks ≡ done_in logic n told all.whole asks
      alike w asks told is = sym (done_alike logic n told asks w) ∙ ap (λ (v : Whole). done_in logic n told v asks) (sym is)

  -- what is left answers a line as all would
  pub leaves_line : (keeps : Bool) (all left new : History) (said : Line) (text : List ℕ) → Leaves keeps all left → AnswersLine logic n left said new text
      → (more : History) × AnswersLine logic n all said more text × Leaves keeps more new
  leaves_line true all left new said text same answers = (new, subst (λ (h : History). AnswersLine logic n h said new text) same answers, refl)
  leaves_line false all left new said text p answers = line_left all left new said text p answers

-- ---- where nothing was dropped yet, and where more is

pub leaves_self : (keeps : Bool) (h : History) → Leaves keeps h h
leaves_self true h = refl
leaves_self false h = record { before = []; told = []; journal = refl; whole = refl; failures = refl }

left_behind : (all left new : History) → IsLeftOf all left → Reopens left new → IsLeftOf all new
left_behind all left new p r = record {
  before = p.before ++ left.journal;
  told = p.told ++ left.whole.replies;
  journal = p.journal ∙ sym (append-nil (p.before ++ left.journal)) ∙ ap (λ (steps : List Step). (p.before ++ left.journal) ++ steps) (sym r.journal);
  whole = p.whole
      ∙ ap (λ (rs : List Reply). record left.whole { replies = rs }) (sym (append-nil (p.told ++ left.whole.replies)))
      ∙ ap (told_before (p.told ++ left.whole.replies)) (sym r.whole);
  failures = p.failures ∙ sym (ap (λ (f : Failures). f.now) r.failures);
}

pub leaves_dropped : (keeps : Bool) (all left new : History) → Leaves keeps all left → MayDrop keeps left new → Leaves keeps all new
leaves_dropped true all left new same is = is ∙ same
leaves_dropped false all left new p (inl is) = subst (λ (h : History). IsLeftOf all h) (sym is) p
leaves_dropped false all left new p (inr r) = left_behind all left new p r

-- of a silo that keeps all the setup is as it was
pub leaves_setup : (keeps : Bool) (all left : History) → Leaves keeps all left → keeps ≡ true → left.setup ≡ all.setup
leaves_setup true all left same kept = ap (λ (h : History). h.setup) same
leaves_setup false all left p kept = absurd (let e = kept in cc)

-- ---- one look whether it is due

pub drops_none : (keeps : Bool) (h : History) → MayDrop keeps h h
drops_none true h = refl
drops_none false h = inl refl

reopened_or_not : {E : Type 0} (result : Result Bool E) (old new : History) → ReopensOrNot result old new → MayDrop false old new
reopened_or_not (Ok true) old new r = inr r
reopened_or_not (Ok false) old new same = inl same
reopened_or_not (Err e) old new same = inl same

pub drops_reopened : {E : Type 0} (keeps : Bool) (result : Result Bool E) (old new : History) → keeps ≡ false → ReopensOrNot result old new → MayDrop keeps old new
drops_reopened keeps result old new lets r = subst (λ b. MayDrop b old new) (sym lets) (reopened_or_not result old new r)

pub idle_dropped : {E : Type 0} (result : Result Bool E) (old new : History) → ReopensOrNot result old new → AllIdle old.whole.entries → AllIdle new.whole.entries
idle_dropped (Ok true) old new r idle = subst (λ (w : Whole). AllIdle w.entries) (sym r.whole) idle
idle_dropped (Ok false) old new same idle = subst (λ (h : History). AllIdle h.whole.entries) (sym same) idle
idle_dropped (Err e) old new same idle = subst (λ (h : History). AllIdle h.whole.entries) (sym same) idle
