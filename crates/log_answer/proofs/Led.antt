-- Where lines lead and what they are told, one after another.
use Rattle.std.proofs.Common.{◌≡◌, ◌∙◌, ℕ, List, [], ◌∷◌, ◌++◌, append_assoc, refl, ap, sym}
use Rattle.grain_logic.specs.Logic.{Logic}
use Rattle.silo_model.specs.Journal.{LeadsTo}
use Rattle.silo_model.specs.Whole.{Whole, shown_to}
use Rattle.silo_core.specs.History.{History}
use Rattle.line_parser.specs.Meaning.{meaning_of}
use Rattle.line_text.specs.LineTexts.{said_lines}
use Rattle.line_text.proofs.ReadLines.{said_cut}
use Rattle.answer_model.specs.Answering.{all_answered, whole_stepper}
use Rattle.answer_model.specs.Idle.{AllIdle}
use Rattle.answer_model.proofs.Apart.{tenants_apart}
use Rattle.line_answer.specs.Texts.{asks_by, asks_of, line_text}
use Rattle.line_answer.proofs.Asked.{all_answered-append}
use Rattle.log_text.specs.Batches as text
use Rattle.log_answer.specs.Answers.{IsLed, heard_of, kept_line, kept_lines, led, told_for}
use Rattle.log_answer.specs.Laws.{LinesLeadOn, SilosGrow}

module _ (logic : Logic) (n : ℕ) where
  -- where one line leads
  abbrev pub led_by : Whole → List ℕ → Whole
  led_by w line = all_answered (whole_stepper logic) n w (asks_by (meaning_of line) [])

  led_first : (w : Whole) (line : List ℕ) (lines : List (List ℕ)) → led logic n w (line ∷ lines) ≡ led logic n (led_by w line) lines
  led_first w line lines = all_answered-append (whole_stepper logic) n w (asks_by (meaning_of line) []) (asks_of (heard_of lines))

  pub led_append : (w : Whole) (lines more : List (List ℕ)) → led logic n w (lines ++ more) ≡ led logic n (led logic n w lines) more
  led_append w [] more = refl
  led_append w (line ∷ lines) more =
      led_first w line (lines ++ more) ∙ led_append (led_by w line) lines more
      ∙ ap (λ x. led logic n x more) (sym (led_first w line lines))

  pub told_append : (w : Whole) (lines more : List (List ℕ)) → told_for logic n w (lines ++ more) ≡ told_for logic n w lines ++ told_for logic n (led logic n w lines) more
  told_append w [] more = refl
  told_append w (line ∷ lines) more =
      let first = line_text (whole_stepper logic) n w (meaning_of line) [] in
      ap (λ l. first ++ l) (told_append (led_by w line) lines more)
      ∙ sym (append_assoc first (told_for logic n (led_by w line) lines) (told_for logic n (led logic n (led_by w line) lines) more))
      ∙ ap (λ x. (first ++ told_for logic n (led_by w line) lines) ++ told_for logic n x more) (sym (led_first w line lines))

pub silos_grow : SilosGrow
silos_grow logic n w lines more = (told_for logic n (led logic n w lines) more, sym (told_append logic n w lines more))

pub lines_lead_on : LinesLeadOn
lines_lead_on logic n w lines more = led_append logic n w lines more

-- and so it is for every tenant alone
pub is_led : (logic : Logic) (n : ℕ) (old new : History) (lines : List (List ℕ)) → LeadsTo logic old.setup old.journal old.whole
    → new.setup ≡ old.setup → new.whole ≡ led logic n old.whole lines → AllIdle new.whole.entries → IsLed logic n old lines new
is_led logic n old new lines leads setup whole idle = record {
  setup = setup;
  whole = whole;
  idle = idle;
  own = λ tenant. ap (shown_to tenant) whole ∙ tenants_apart logic old.setup old.journal old.whole n tenant (asks_of (heard_of lines)) leads;
}

-- ---- what a log has of lines says as much

pub kept_says : (lines : List (List ℕ)) → said_lines (kept_lines lines) ≡ said_lines lines
kept_says [] = refl
kept_says (line ∷ lines) = (λ i. said_cut line i ∷ kept_says lines i)

pub kept_append : (lines more : List (List ℕ)) → kept_lines (lines ++ more) ≡ kept_lines lines ++ kept_lines more
kept_append [] more = refl
kept_append (line ∷ lines) more = ap (λ l. kept_line line ∷ l) (kept_append lines more)

pub text_append : (lines more : List (List ℕ)) → text.lines_text (lines ++ more) ≡ text.lines_text lines ++ text.lines_text more
text_append [] more = refl
text_append (line ∷ lines) more =
    ap (λ l. text.line_text line ++ l) (text_append lines more) ∙ sym (append_assoc (text.line_text line) (text.lines_text lines) (text.lines_text more))
