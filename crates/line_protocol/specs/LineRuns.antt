-- What a run over lines leaves: in the silo, in the reader and in the writer, and as each tenant sees it.
use Rattle.std.specs.Prelude.{◌≡◌, ◌≢◌, ℕ, ◌≤◌, List, [], ◌∷◌, ◌++◌, length, true, Option, Some, Ok, ◌⊎◌}
use Rattle.std.specs.Io.KnownBytes.{Appends, Keeps}
use Rattle.silo_event.specs.Failed.{marked_step}
use Rattle.silo_event.specs.declared.step.Answer.{Answer}
use Rattle.grain_logic.specs.Logic.{Logic}
use Rattle.silo_model.specs.Whole.{Whole, shown_to}
use Rattle.silo_model.specs.Run.{answers_to}
use Rattle.silo_model.specs.Parts.{AnsweredAlone}
use Rattle.silo_core.specs.History.{History, Answered}
use Rattle.silo_core.specs.Runs.{Takes}
use Rattle.line_text.specs.Limits.{calls_limit, lines_limit}
use Rattle.line_text.specs.Lines.{lines_of}
use Rattle.line_text.specs.Reading.{Reading, AreTaken, AreTakenButOne, left_of}
use Rattle.line_text.specs.Text.{refusal_line}
use Rattle.line_text.specs.Writing.{WrittenInPart}
use Rattle.line_text.specs.LineTexts.{whole_stepper, machine_stepper, said_lines, steps_said, as_taken}
use Rattle.line_text.specs.LineTexts.{ended, line_text, line_texts, lines_text, lines_to, texts_to}
use Rattle.line_parser.specs.declared.line.Line.{Line}
use Rattle.line_parser.specs.declared.line.Line.TheVariants as line
use Rattle.line_text.specs.declared.written.WriterCalls.{WriterCalls}
use Rattle.line_text.specs.declared.fault.LineFault.{LineFault}
use Rattle.line_text.specs.declared.fault.LineFault.TheVariants as fault

-- ---- lines, and what is written for them

-- The silo took what one line says, and this is its text: a line that says no step changes nothing.
abbrev pub AnswersLine : Logic → History → Line → History → List ℕ → Type 0
AnswersLine logic old line.Nothing new text = (new ≡ old) × (text ≡ [])
AnswersLine logic old (line.Refusal r) new text = (new ≡ old) × (text ≡ ended (refusal_line r))
AnswersLine logic old (line.Step s) new text =
    (a : Answer) × Answered logic old s (Ok a) new
    × (text ≡ line_text (whole_stepper logic) old.whole (line.Step (marked_step s a)))

-- The silo took the steps that are said, each with its answer, and this is the text of all that is said.
pub record AnswersSaid (logic : Logic) (old : History) (saids : List Line) (given : List Answer) (new : History)
    (text : List ℕ) : Type 0 where
  pub silo : Takes logic old (steps_said saids) given new
  pub text_is : text ≡ lines_text (whole_stepper logic) old.whole (as_taken saids given)

-- For one tenant: the answers at its steps are its own machine's over these steps alone, which lead that machine to the
-- tenant's part; and the texts of the lines that concern it are what that machine writes for these lines alone.
pub record AnswersOwn (logic : Logic) (tenant : List ℕ) (w : Whole) (saids : List Line) (given : List Answer) : Type 0 where
  pub silo : AnsweredAlone logic tenant w (steps_said saids) given
  pub texts : texts_to tenant saids (line_texts (whole_stepper logic) w (as_taken saids given))
      ≡ line_texts (machine_stepper logic) (shown_to tenant w)
      (as_taken (lines_to tenant saids) (answers_to tenant (steps_said saids) given))

-- The silo took these lines, and this is their text; and so it is for every tenant alone.
pub record AnswersLines (logic : Logic) (old : History) (lines : List (List ℕ)) (given : List Answer) (new : History)
    (text : List ℕ) : Type 0 where
  pub all : AnswersSaid logic old (said_lines lines) given new text
  pub own : (tenant : List ℕ) → AnswersOwn logic tenant old.whole (said_lines lines) given

-- the same, and one line more
abbrev pub AnswersNext : Logic → History → List (List ℕ) → List (List ℕ) → List Answer → History → List ℕ → Type 0
AnswersNext logic old done [] given new text = ⊥
AnswersNext logic old done (l ∷ rest) given new text =
    (more : List Answer) × (last : List ℕ)
    × AnswersLines logic old (done ++ l ∷ []) (given ++ more) new (text ++ last)

-- ---- a run

-- All of the input was read, it has n lines, the silo took each, and what was written is their text and nothing else.
pub record AnswersAll (logic : Logic) (input : List ℕ) (n : ℕ) (old new : History) (left before after : Option (List ℕ)) : Type 0 where
  pub read : left ≡ Some []
  pub count : n ≡ length (lines_of input)
  pub given : List Answer
  pub text : List ℕ
  pub answers : AnswersLines logic old (lines_of input) given new text
  pub written : Appends before after text

-- The silo took the lines before the failing one, and their text was written whole, and nothing after it.
pub record StopsBefore (logic : Logic) (lines : List (List ℕ)) (old new : History) (before after : Option (List ℕ)) : Type 0 where
  pub done : List (List ℕ)
  pub rest : List (List ℕ)
  pub parts : lines ≡ done ++ rest
  pub given : List Answer
  pub text : List ℕ
  pub answers : AnswersLines logic old done given new text
  pub written : Appends before after text

-- The same, but the silo may also have taken the failing line.
pub record StopsAt (logic : Logic) (lines : List (List ℕ)) (old new : History) (before after : Option (List ℕ)) : Type 0 where
  pub done : List (List ℕ)
  pub rest : List (List ℕ)
  pub parts : lines ≡ done ++ rest
  pub given : List Answer
  pub text : List ℕ
  pub mid : History
  pub answers : AnswersLines logic old done given mid text
  pub next : (new ≡ mid) ⊎ AnswersNext logic old done rest given new text
  pub written : Appends before after text

-- The silo took the lines before the failing one, and that one, if there is one. The text of the lines before was written
-- whole, and a part of its own.
pub record StopsAfter (logic : Logic) (lines : List (List ℕ)) (old new : History) (before after : Option (List ℕ)) : Type 0 where
  pub done : List (List ℕ)
  pub last : List (List ℕ)
  pub rest : List (List ℕ)
  pub at_most_one : length last ≤ 1
  pub parts : lines ≡ (done ++ last) ++ rest
  pub given : List Answer
  pub more : List Answer
  pub text : List ℕ
  pub last_text : List ℕ
  pub mid : History
  pub before_it : AnswersLines logic old done given mid text
  pub answers : AnswersLines logic old (done ++ last) (given ++ more) new (text ++ last_text)
  pub during : Option (List ℕ)
  pub written : Appends before during text
  pub part : WrittenInPart during after last_text

-- As many lines were done as an input may have, and there are more.
abbrev pub IsFull : List (List ℕ) → List (List ℕ) → Type 0
IsFull done rest = (length done ≡ lines_limit) × (rest ≢ [])

-- Why a run stops, by its fault: the last call of the reader failed; there were too many lines, or all calls of the reader
-- were made; memory was refused; or a call of the writer failed.
-- And which line failed, by what the reader has left, and by what is left with the bytes that are read ahead. `Read`, and
-- `TooMuch` by calls: the lines that were done are those that were taken, and nothing is read ahead. `Memory`: of the lines
-- that were taken at most the last one wasn't done.
module _ (logic : Logic) (input : List ℕ) (reading : Reading) (left : Option (List ℕ)) (writing : WriterCalls) (old new : History)
    (before after : Option (List ℕ)) where
  abbrev pub StopsBy : LineFault → Type 0
  StopsBy fault.Read =
      (p : StopsBefore logic (lines_of input) old new before after) × (reading.calls.failed ≡ true) × AreTaken input left p.done
  StopsBy fault.TooMuch =
      (p : StopsBefore logic (lines_of input) old new before after)
      × (IsFull p.done p.rest ⊎ ((reading.calls.made ≡ calls_limit) × AreTaken input left p.done))
  StopsBy fault.Memory =
      (p : StopsAt logic (lines_of input) old new before after) × AreTakenButOne input (left_of reading left) p.done
  StopsBy fault.Write = StopsAfter logic (lines_of input) old new before after × (writing.failed ≡ true)

-- ---- one line of a run

-- Nothing changed, or the silo took what the line says.
abbrev pub MayTake : Logic → History → Line → History → Type 0
MayTake logic old said new = (new ≡ old) ⊎ ((text : List ℕ) × AnswersLine logic old said new text)

-- by the fault that stopped one line
abbrev pub LineStopsBy : Logic → LineFault → Line → WriterCalls → History → History → Option (List ℕ) → Option (List ℕ) → Type 0
LineStopsBy logic fault.Read said writing old new before after = ⊥
LineStopsBy logic fault.TooMuch said writing old new before after = ⊥
LineStopsBy logic fault.Memory said writing old new before after = MayTake logic old said new × Keeps before after
LineStopsBy logic fault.Write said writing old new before after =
    ((text : List ℕ) × AnswersLine logic old said new text × WrittenInPart before after text) × (writing.failed ≡ true)
