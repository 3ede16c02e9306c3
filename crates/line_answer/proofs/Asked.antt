-- What is asked by one line more, and what is written for it.
use Rattle.std.proofs.Common.{◌≡◌, ℕ, Bool, true, false, List, [], ◌∷◌, ◌++◌, length, Option, Some, None, is_some, refl, ap, sym, ◌∙◌, subst, append_assoc, true≢false}
use Rattle.std.specs.Prelude.{map as map_list, drop, if◌then◌else◌}
use Rattle.std.proofs.lemmas.List.{append-nil}
use Rattle.std.specs.FinMap as map
use Rattle.std.specs.Ordering.{nat_cmp}
use Rattle.silo_event.specs.Asker.{asking_of}
use Rattle.silo_event.specs.declared.step.Step.{Step}
use Rattle.grain_logic.specs.Logic.{Logic}
use Rattle.silo_model.specs.Collected.{IsIdle}
use Rattle.silo_model.specs.Journal.{LeadsTo}
use Rattle.silo_model.specs.Machine.{Request}
use Rattle.silo_model.specs.Opening.{Setup, opening}
use Rattle.silo_model.specs.Whole.{Whole, shown_to, whole_step}
use Rattle.silo_model.specs.Run.{run_by}
use Rattle.silo_model.proofs.Opening.{woken}
use Rattle.silo_model.proofs.Runs.{run_by-append}
use Rattle.silo_core.specs.History.{History}
use Rattle.line_parser.specs.Meaning.{meaning_of}
use Rattle.line_parser.specs.declared.line.Line.{Line}
use Rattle.line_parser.specs.declared.line.Line.TheVariants as line
use Rattle.line_parser.specs.declared.line.LineRefusal.TheVariants.{NotARequest}
use Rattle.line_text.specs.LineTexts.{ended, texts_of, texts_to, said_lines}
use Rattle.line_text.specs.Text.{refusal_line, not_now_line}
use Rattle.line_text.proofs.Saids.{said_lines-more}
use Rattle.answer_model.specs.Answering.{Stepper, Asked, taken, is_asked, whole_stepper, answering, answered, all_answered}
use Rattle.answer_model.specs.Idle.{AllIdle, TellsAsker}
use Rattle.answer_model.proofs.Idle.{answered_at_once}
use Rattle.answer_model.proofs.Apart.{tenants_apart}
use Rattle.line_answer.specs.Texts.{Heard, asked_if, asks_by, asks_of, text_if, all_steps, step_text, line_text, line_texts, lines_text}
use Rattle.line_answer.specs.Trying.{Tries, AnswersAsked, AnswersBy}
use Rattle.line_answer.specs.Runs.{AnswersLine, AnswersLineBy, AnswersLines}
use Rattle.line_answer.proofs.OwnTexts.{own_texts}
use Rattle.line_answer.proofs.Trying.{tries_none, tries_on}

-- ---- lists of what is asked

asks_of-more : (heard : List Heard) (h : Heard) → asks_of (heard ++ h ∷ []) ≡ asks_of heard ++ asks_by h.said h.lucks
asks_of-more [] h = append-nil (asks_by h.said h.lucks)
asks_of-more (x ∷ heard) h = ap (λ asks. asks_by x.said x.lucks ++ asks) (asks_of-more heard h) ∙ sym (append_assoc (asks_by x.said x.lucks) (asks_of heard) (asks_by h.said h.lucks))

module _ {M : Type 0} (by : Stepper M) (n : ℕ) where
  pub all_answered-append : (m : M) (asks others : List Asked) → all_answered by n m (asks ++ others) ≡ all_answered by n (all_answered by n m asks) others
  all_answered-append m [] others = refl
  all_answered-append m (asked ∷ asks) others = all_answered-append (answered by n m asked) asks others

  all_steps-append : (m : M) (asks others : List Asked) → all_steps by n m (asks ++ others) ≡ all_steps by n m asks ++ all_steps by n (all_answered by n m asks) others
  all_steps-append m [] others = refl
  all_steps-append m (asked ∷ asks) others =
      let first = answering by n m asked in
      let next = answered by n m asked in
      ap (λ steps. first ++ steps) (all_steps-append next asks others)
      ∙ sym (append_assoc first (all_steps by n next asks) (all_steps by n (all_answered by n next asks) others))

  -- the steps lead where the answers lead
  pub run_all : (m : M) (asks : List Asked) → run_by by.step m (all_steps by n m asks) ≡ all_answered by n m asks
  run_all m [] = refl
  run_all m (asked ∷ asks) =
      run_by-append by.step m (answering by n m asked) (all_steps by n (answered by n m asked) asks) ∙ run_all (answered by n m asked) asks

  lines_text-more : (m : M) (heard : List Heard) (h : Heard)
      → lines_text by n m (heard ++ h ∷ []) ≡ lines_text by n m heard ++ line_text by n (all_answered by n m (asks_of heard)) h.said h.lucks
  lines_text-more m [] h = append-nil (line_text by n m h.said h.lucks)
  lines_text-more m (x ∷ heard) h =
      let first = line_text by n m x.said x.lucks in
      let next = all_answered by n m (asks_by x.said x.lucks) in
      ap (λ text. first ++ text) (lines_text-more next heard h)
      ∙ sym (append_assoc first (lines_text by n next heard) (line_text by n (all_answered by n next (asks_of heard)) h.said h.lucks))
      ∙ ap (λ k. (first ++ lines_text by n next heard) ++ line_text by n k h.said h.lucks) (sym (all_answered-append m (asks_by x.said x.lucks) (asks_of heard)))

-- ---- one line

module _ (logic : Logic) (n : ℕ) where
  -- a line that asks nothing
  pub nothing_asked : (old : History) (said : Line) (text : List ℕ) → asks_by said [] ≡ [] → text ≡ line_text (whole_stepper logic) n old.whole said []
      → AllIdle old.whole.entries → AnswersLineBy logic n old said true old text
  nothing_asked old said text none is idle =
      record {
        answers = ([], subst (λ asks. Tries logic old (all_steps (whole_stepper logic) n old.whole asks) old) (sym none) (tries_none logic old), is, idle);
        had = λ _. refl;
      }

  -- a step that is no client's to ask
  pub not_asked : (old : History) (s : Step) (text : List ℕ) → is_asked s ≡ false → text ≡ ended (refusal_line NotARequest) → AllIdle old.whole.entries
      → AnswersLineBy logic n old (line.Step s) true old text
  not_asked old s text never is idle =
      nothing_asked old (line.Step s) text (ap (λ b. asked_if b s []) never) (is ∙ sym (ap (λ b. step_text (whole_stepper logic) n b old.whole s []) never)) idle

  text_by : (r : Option Whole) (done : Bool) (text : List ℕ) → is_some r ≡ done → (if done then text else ended not_now_line) ≡ text_if r text
  text_by None true text e = absurd (true≢false (sym e))
  text_by None false text e = refl
  text_by (Some w) true text e = refl
  text_by (Some w) false text e = absurd (true≢false e)

  -- a step that is
  pub asked_line : (old new : History) (s : Step) (done memory : Bool) (text : List ℕ) → is_asked s ≡ true → AnswersBy logic n old s done memory new
      → text ≡ (if done then texts_of (drop (length old.whole.replies) new.whole.replies) else ended not_now_line) → AllIdle new.whole.entries
      → AnswersLineBy logic n old (line.Step s) memory new text
  asked_line old new s done memory text asked by_luck is idle =
      let answers = by_luck.answers in
      let by = whole_stepper logic in
      let one : Asked = record { step = s; lucks = answers.lucks } in
      let after : new.whole ≡ answered by n old.whole one = answers.tries.whole in
      let answered_line : AnswersLine logic n old (line.Step s) new text = (
        answers.lucks,
        subst (λ b. Tries logic old (all_steps by n old.whole (asked_if b s answers.lucks)) new) (sym asked)
            (subst (λ steps. Tries logic old steps new) (sym (append-nil (answering by n old.whole one))) answers.tries),
        is
            ∙ ap (λ (w : Whole). if done then texts_of (drop (length old.whole.replies) w.replies) else ended not_now_line) after
            ∙ text_by (whole_step logic old.whole (taken one)) done (texts_of (drop (length old.whole.replies) (answered by n old.whole one).replies)) answers.possible
            ∙ sym (ap (λ b. step_text by n b old.whole s answers.lucks) asked),
        idle,
      )
      in record { answers = answered_line; had = by_luck.had }

-- ---- what is asked of a silo where all is idle

pub opening_idle : (setup : Setup) → AllIdle (opening setup).entries
unfolding opening
opening_idle setup g e found =
    let k = woken setup.kept.grains g e found in
    subst IsIdle k.2 (record { state = k.0.state; version = k.0.version; phase = refl; nothing_waits = refl; none_open = map.len-empty nat_cmp Request })

module _ (logic : Logic) (n : ℕ) (old new : History) (s : Step) (done : Bool) (leads : LeadsTo logic old.setup old.journal old.whole) (idle : AllIdle old.whole.entries)
    (asked : is_asked s ≡ true) (memory : Bool) (answers_by : AnswersBy logic n old s done memory new) where
  abbrev answers : AnswersAsked logic n old s done new
  answers = answers_by.answers

  abbrev one : Asked
  one = record { step = s; lucks = answers.lucks }

  pub idle_after : AllIdle new.whole.entries
  idle_after =
      subst (λ (w : Whole). AllIdle w.entries) (sym answers.tries.whole) (answered_at_once logic old.setup old.journal old.whole n one leads idle asked).0

  pub told_after : TellsAsker (asking_of s) old.whole.replies new.whole.replies
  told_after =
      subst (λ (w : Whole). TellsAsker (asking_of s) old.whole.replies w.replies) (sym answers.tries.whole) (answered_at_once logic old.setup old.journal old.whole n one leads idle asked).1

-- ---- lines, and one more

-- what was heard of lines and answered
pub record Hears (logic : Logic) (n : ℕ) (old : History) (lines : List (List ℕ)) (new : History) (text : List ℕ) : Type 0 where
  pub heard : List Heard
  pub said : map_list (λ h. h.said) heard ≡ said_lines lines
  pub tries : Tries logic old (all_steps (whole_stepper logic) n old.whole (asks_of heard)) new
  pub text_is : text ≡ lines_text (whole_stepper logic) n old.whole heard
  pub idle : AllIdle new.whole.entries

map-more : (heard : List Heard) (h : Heard) → map_list (λ x. x.said) (heard ++ h ∷ []) ≡ map_list (λ x. x.said) heard ++ h.said ∷ []
map-more [] h = refl
map-more (x ∷ heard) h = ap (λ rest. x.said ∷ rest) (map-more heard h)

module _ (logic : Logic) (n : ℕ) where
  pub hears_none : (old : History) → AllIdle old.whole.entries → Hears logic n old [] old []
  hears_none old idle = record { heard = []; said = refl; tries = tries_none logic old; text_is = refl; idle = idle }

  pub hears_more : (old mid new : History) (lines : List (List ℕ)) (l : List ℕ) (text last : List ℕ) → Hears logic n old lines mid text
      → AnswersLine logic n mid (meaning_of l) new last → Hears logic n old (lines ++ l ∷ []) new (text ++ last)
  hears_more old mid new lines l text last p answers =
      let by = whole_stepper logic in
      let h : Heard = record { said = meaning_of l; lucks = answers.0 } in
      let at : mid.whole ≡ all_answered by n old.whole (asks_of p.heard) = p.tries.whole ∙ run_all by n old.whole (asks_of p.heard) in
      record {
        heard = p.heard ++ h ∷ [];
        said = map-more p.heard h ∙ ap (λ saids. saids ++ meaning_of l ∷ []) p.said ∙ sym (said_lines-more lines l);
        tries =
            subst (λ asks. Tries logic old (all_steps by n old.whole asks) new) (sym (asks_of-more p.heard h))
            (subst (λ steps. Tries logic old steps new) (sym (all_steps-append by n old.whole (asks_of p.heard) (asks_by (meaning_of l) answers.0)))
            (tries_on logic old mid new (all_steps by n old.whole (asks_of p.heard)) _ p.tries
            (subst (λ w. Tries logic mid (all_steps by n w (asks_by (meaning_of l) answers.0)) new) at answers.1)));
        text_is =
            (λ i. p.text_is i ++ (answers.2 ∙ ap (λ w. line_text by n w (meaning_of l) answers.0) at) i)
            ∙ sym (lines_text-more by n old.whole p.heard h);
        idle = answers.3;
      }

  -- and so it is for every tenant alone
  pub hears_own : (old new : History) (lines : List (List ℕ)) (text : List ℕ) → LeadsTo logic old.setup old.journal old.whole → Hears logic n old lines new text
      → AnswersLines logic n old lines new text
  hears_own old new lines text leads p = record {
    heard = p.heard;
    said = p.said;
    tries = p.tries;
    text_is = p.text_is;
    idle = p.idle;
    own = λ tenant.
        ap (shown_to tenant) (p.tries.whole ∙ run_all (whole_stepper logic) n old.whole (asks_of p.heard))
        ∙ tenants_apart logic old.setup old.journal old.whole n tenant (asks_of p.heard) leads;
    texts = λ tenant.
        ap (λ saids. texts_to tenant saids (line_texts (whole_stepper logic) n old.whole p.heard)) (sym p.said)
        ∙ own_texts logic old.setup n tenant p.heard old.whole (old.journal, leads);
  }
