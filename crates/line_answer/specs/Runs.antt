-- What answering lines at once leaves: in the silo, in the reader and in the writer, and as each tenant sees it.
use Rattle.std.specs.Prelude.{◌≡◌, ◌⊎◌, ℕ, Bool, true, false, List, [], ◌∷◌, ◌++◌, length, map, Option, Some}
use Rattle.std.specs.Io.KnownBytes.{Appends, Keeps}
use Rattle.grain_logic.specs.Logic.{Logic}
use Rattle.silo_model.specs.Whole.{shown_to}
use Rattle.silo_core.specs.History.{History}
use Rattle.line_parser.specs.Meaning.{meaning_of}
use Rattle.line_parser.specs.declared.line.Line.{Line}
use Rattle.line_text.specs.Limits.{calls_limit}
use Rattle.line_text.specs.Lines.{lines_of}
use Rattle.line_text.specs.LineTexts.{said_lines, texts_to}
use Rattle.line_text.specs.Writing.{WrittenInPart}
use Rattle.line_text.specs.Reading.{Reading, AreTaken, AreTakenButOne, left_of}
use Rattle.line_text.specs.declared.written.WriterCalls.{WriterCalls}
use Rattle.line_text.specs.declared.fault.LineFault.{LineFault}
use Rattle.line_text.specs.declared.fault.LineFault.TheVariants as fault
use Rattle.answer_model.specs.Answering.{Luck, all_answered, all_have_memory, machine_stepper, whole_stepper}
use Rattle.answer_model.specs.Apart.{asked_by}
use Rattle.answer_model.specs.Idle.{AllIdle}
use Rattle.line_answer.specs.Dropped.{Leaves}
use Rattle.line_answer.specs.Limits.{IsAnsweredOut}
use Rattle.line_answer.specs.Texts.{Heard, asks_by, asks_of, all_steps, heard_to, line_text, line_texts, lines_text}
use Rattle.line_answer.specs.Trying.{Tries}

-- a silo that answers at once: its history, whether it stopped for want of memory, and whether it keeps its history
pub record Answering : Type 0 where
  pub history : History
  pub stopped : Bool
  pub keeps : Bool

-- With some luck this was done and written for one line, and all is idle again.
abbrev pub AnswersLine : Logic → ℕ → History → Line → History → List ℕ → Type 0
AnswersLine logic n old said new text =
    (lucks : List Luck) × Tries logic old (all_steps (whole_stepper logic) n old.whole (asks_by said lucks)) new
    × (text ≡ line_text (whole_stepper logic) n old.whole said lucks) × AllIdle new.whole.entries

-- The same; and there was memory, if so it says, to close the turns that came of it.
pub record AnswersLineBy (logic : Logic) (n : ℕ) (old : History) (said : Line) (memory : Bool) (new : History)
    (text : List ℕ) : Type 0 where
  pub answers : AnswersLine logic n old said new text
  pub had : memory ≡ true → all_have_memory answers.0 ≡ true

-- So it was for these lines. Each tenant is shown what its own machine is after what the tenant and nobody asked alone; and the texts
-- of the lines that concern it are what that machine writes for these lines alone, with the same luck.
pub record AnswersLines (logic : Logic) (n : ℕ) (old : History) (lines : List (List ℕ)) (new : History) (text : List ℕ) : Type 0 where
  pub heard : List Heard
  pub said : map (λ h. h.said) heard ≡ said_lines lines
  pub tries : Tries logic old (all_steps (whole_stepper logic) n old.whole (asks_of heard)) new
  pub text_is : text ≡ lines_text (whole_stepper logic) n old.whole heard
  pub idle : AllIdle new.whole.entries
  pub own : (tenant : List ℕ) → shown_to tenant new.whole ≡ all_answered (machine_stepper logic) n (shown_to tenant old.whole)
      (asked_by tenant (asks_of heard))
  pub texts : (tenant : List ℕ) → texts_to tenant (said_lines lines) (line_texts (whole_stepper logic) n old.whole heard)
      ≡ line_texts (machine_stepper logic) n (shown_to tenant old.whole) (heard_to tenant heard)

-- All of the input was read, it has so many lines, each was answered, and what was written is their text and nothing else.
pub record AnswersAll (logic : Logic) (n : ℕ) (input : List ℕ) (count : ℕ) (old new : History)
    (left before after : Option (List ℕ)) : Type 0 where
  pub read : left ≡ Some []
  pub counted : count ≡ length (lines_of input)
  pub text : List ℕ
  pub answers : AnswersLines logic n old (lines_of input) new text
  pub written : Appends before after text

-- The lines before the failing one were answered, and their text was written whole.
pub record AnswersBefore (logic : Logic) (n : ℕ) (lines : List (List ℕ)) (old new : History) (before after : Option (List ℕ)) : Type 0 where
  pub done : List (List ℕ)
  pub rest : List (List ℕ)
  pub parts : lines ≡ done ++ rest
  pub text : List ℕ
  pub answers : AnswersLines logic n old done new text
  pub written : Appends before after text

-- Behind them nothing more was written; or the next line was answered, and its text was written in part.
abbrev pub WritesOn : Logic → ℕ → List (List ℕ) → History → History → Option (List ℕ) → Option (List ℕ) → Type 0
WritesOn logic n rest mid new during after =
    ((new ≡ mid) × Keeps during after)
    ⊎ ((l : List ℕ) × (others : List (List ℕ)) × (text : List ℕ) × (rest ≡ l ∷ others)
    × AnswersLine logic n mid (meaning_of l) new text × WrittenInPart during after text)

-- Why it stops, by its fault, and which line failed: as where steps are taken line by line. After `Memory` nothing of the failing line
-- was written, and it isn't told what the silo holds of it.
module _ (logic : Logic) (n : ℕ) (input : List ℕ) (reading : Reading) (left : Option (List ℕ)) (writing : WriterCalls) (old new : History)
    (before after : Option (List ℕ)) where
  abbrev pub StopsBy : LineFault → Type 0
  StopsBy fault.Read =
      (p : AnswersBefore logic n (lines_of input) old new before after) × (reading.calls.failed ≡ true) × AreTaken input left p.done
  StopsBy fault.TooMuch =
      (p : AnswersBefore logic n (lines_of input) old new before after)
      × (IsAnsweredOut p.done p.rest ⊎ ((reading.calls.made ≡ calls_limit) × AreTaken input left p.done))
  StopsBy fault.Memory =
      (mid : History) × (p : AnswersBefore logic n (lines_of input) old mid before after)
      × AreTakenButOne input (left_of reading left) p.done
  StopsBy fault.Write =
      (mid : History) × (during : Option (List ℕ)) × (p : AnswersBefore logic n (lines_of input) old mid before during)
      × WritesOn logic n p.rest mid new during after × (writing.failed ≡ true)

-- By the fault that stopped one line: nothing was written for want of memory, or its text in part.
abbrev pub LineStopsBy : Logic → ℕ → LineFault → Line → WriterCalls → History → History → Option (List ℕ) → Option (List ℕ) → Type 0
LineStopsBy logic n fault.Read said writing old new before after = ⊥
LineStopsBy logic n fault.TooMuch said writing old new before after = ⊥
LineStopsBy logic n fault.Memory said writing old new before after = Keeps before after
LineStopsBy logic n fault.Write said writing old new before after =
    ((text : List ℕ) × AnswersLine logic n old said new text × WrittenInPart before after text) × (writing.failed ≡ true)

-- it may have stopped for want of memory, and for nothing else
abbrev pub MayStop : LineFault → Bool → Type 0
MayStop fault.Read stopped = stopped ≡ false
MayStop fault.TooMuch stopped = stopped ≡ false
MayStop fault.Write stopped = stopped ≡ false
MayStop fault.Memory stopped = Unit {0}

-- the setup is as it was, unless memory was refused, of which this isn't told
abbrev pub KeepsSetup : LineFault → History → History → Type 0
KeepsSetup fault.Read old new = new.setup ≡ old.setup
KeepsSetup fault.TooMuch old new = new.setup ≡ old.setup
KeepsSetup fault.Write old new = new.setup ≡ old.setup
KeepsSetup fault.Memory old new = Unit {0}

-- ---- where the silo may have dropped its history

-- Of this history the silo has what is left, unless memory was refused: then it isn't told what it holds.
abbrev pub LeavesBy : LineFault → Bool → History → History → Type 0
LeavesBy fault.Read keeps all left = Leaves keeps all left
LeavesBy fault.TooMuch keeps all left = Leaves keeps all left
LeavesBy fault.Write keeps all left = Leaves keeps all left
LeavesBy fault.Memory keeps all left = Unit {0}

module _ (keeps : Bool) (logic : Logic) (n : ℕ) (input : List ℕ) where
  -- All was answered, and of the history to which that leads the silo has what is left.
  pub record AnswersOn (count : ℕ) (old new : History) (left before after : Option (List ℕ)) : Type 0 where
    pub all : History
    pub leaves : Leaves keeps all new
    pub answers : AnswersAll logic n input count old all left before after

  -- It stopped by this fault, and so it is of the history up to there.
  pub record StopsOn (reading : Reading) (left : Option (List ℕ)) (writing : WriterCalls) (old new : History)
      (before after : Option (List ℕ)) (e : LineFault) : Type 0 where
    pub all : History
    pub leaves : LeavesBy e keeps all new
    pub stops : StopsBy logic n input reading left writing old all before after e
