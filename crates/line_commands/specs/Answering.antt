-- What `silo answer` does with the lines of an input.
use Rattle.std.specs.Prelude.{◌≡◌, ◌⊎◌, ◌++◌, ℕ, List, Option, None, Some, IfSome}
use Rattle.silo_core.specs.History.{History}
use Rattle.line_text.specs.Lines.{lines_of}
use Rattle.line_text.specs.Reading.{Reading}
use Rattle.line_text.specs.declared.written.WriterCalls.{WriterCalls}
use Rattle.line_text.specs.declared.fault.LineFault.{LineFault}
use Rattle.line_text.specs.declared.fault.LineFault.TheVariants as line
use Rattle.line_answer.specs.Runs.{AnswersAll, AnswersLines, StopsBy}
use Rattle.journal_text.specs.Text.{journal_text}
use Rattle.command_parts.specs.Files.{FileClaims}
use Rattle.command_parts.specs.Journals.{silo_journal}
use Rattle.command_parts.specs.Kept.{KeepsSecond, MayFailAgain, MayFailAt, empty_journal, opened}
use Rattle.command_parts.specs.Setups.{Start}
use Rattle.command_parts.specs.Streams.{IsUnbegun}
use Rattle.command_parts.specs.declared.failure.Cause.{Cause}
use Rattle.command_parts.specs.declared.failure.Cause.TheVariants as cause

-- ---- what is answered

-- All of the input was read, each line was answered with at most so many deliveries behind it, and what was written is their
-- text and nothing else. Of an input that isn't known nothing is said.
abbrev pub AnswersToEnd : Start → ℕ → History → Option (List ℕ) → Option (List ℕ) → Option (List ℕ) → Option (List ℕ) → Type 0
AnswersToEnd start sends silo from left before after =
    IfSome from (λ input. (count : ℕ) × AnswersAll start.version.logic sends input count (opened start.setup) silo left before after)

-- The same up to this fault.
abbrev pub AnswersUpTo : Start → ℕ → LineFault → History → Option (List ℕ) → Option (List ℕ) → Reading → Option (List ℕ)
    → Option (List ℕ) → WriterCalls → Type 0
AnswersUpTo start sends why silo from left reading before after writing =
    IfSome from (λ input. StopsBy start.version.logic sends input reading left writing (opened start.setup) silo before after why)

-- The same up to this fault, if there is one.
abbrev pub AnswersInput : Start → ℕ → Option LineFault → History → Option (List ℕ) → Option (List ℕ) → Reading → Option (List ℕ)
    → Option (List ℕ) → WriterCalls → Type 0
AnswersInput start sends None silo from left reading before after writing = AnswersToEnd start sends silo from left before after
AnswersInput start sends (Some why) silo from left reading before after writing =
    AnswersUpTo start sends why silo from left reading before after writing

-- All lines of the input, or the first of them, were answered, and led to this silo.
pub record AnswersFirst (start : Start) (sends : ℕ) (input : List ℕ) (silo : History) : Type 0 where
  pub done : List (List ℕ)
  pub rest : List (List ℕ)
  pub parts : lines_of input ≡ done ++ rest
  pub text : List ℕ
  pub answers : AnswersLines start.version.logic sends (opened start.setup) done silo text

-- ---- the journal

-- The journal of no step was written to the path, then that of the silo that the first lines led to, or all, and nothing else.
pub record WritesSecond (start : Start) (sends : ℕ) (files : FileClaims) (path : List ℕ) (from : Option (List ℕ)) : Type 0 where
  pub silo : History
  pub led : IfSome from (λ input. AnswersFirst start sends input silo)
  pub written : files.written_again path (empty_journal start) (journal_text (silo_journal start.version silo))

-- One journal was written, or both.
abbrev pub WritesJournals : Start → ℕ → FileClaims → List ℕ → Option (List ℕ) → Type 0
WritesJournals start sends files path from =
    files.written path (empty_journal start) ⊎ WritesSecond start sends files path from

-- No file was written, or, if a path is given, one journal was, or both.
abbrev pub WritesJournalsAtMost : Start → ℕ → FileClaims → Option (List ℕ) → Option (List ℕ) → Type 0
WritesJournalsAtMost start sends files None from = files.same
WritesJournalsAtMost start sends files (Some path) from = files.same ⊎ WritesJournals start sends files path from

-- ---- how answering ends

-- The lines of the input were answered, no call of the storage failed, and the journal was written, if a path is given.
pub record AnswersLanes (start : Start) (sends : ℕ) (files : FileClaims) (journal : Option (List ℕ))
    (from left before after : Option (List ℕ)) : Type 0 where
  pub silo : History
  pub answered : AnswersToEnd start sends silo from left before after
  pub unfailed : silo.failures.now ≡ 0
  pub kept : KeepsSecond start files journal silo

-- The same up to this fault; and the journal was written, unless a call at its path may fail.
pub record StopsAnswering (start : Start) (sends : ℕ) (files : FileClaims) (journal : Option (List ℕ)) (why : LineFault)
    (from left : Option (List ℕ)) (reading : Reading) (before after : Option (List ℕ)) (writing : WriterCalls) : Type 0 where
  pub silo : History
  pub answered : AnswersUpTo start sends why silo from left reading before after writing
  pub unfailed : silo.failures.now ≡ 0
  pub kept : KeepsSecond start files journal silo ⊎ MayFailAgain start files journal

-- The lines of the input were answered, but the journal wasn't written to the path that is given, where a call may fail.
pub record LosesSecond (start : Start) (sends : ℕ) (files : FileClaims) (journal : Option (List ℕ))
    (from left before after : Option (List ℕ)) : Type 0 where
  pub silo : History
  pub answered : AnswersToEnd start sends silo from left before after
  pub unfailed : silo.failures.now ≡ 0
  pub fails : MayFailAgain start files journal

-- Memory was refused: before the first line, or while lines were answered, or when they were, up to a fault or to the end.
pub record LacksMemory (start : Start) (sends : ℕ) (from left : Option (List ℕ)) (reading : Reading)
    (before after : Option (List ℕ)) (writing : WriterCalls) : Type 0 where
  pub ended : Option LineFault
  pub silo : History
  pub answered : AnswersInput start sends ended silo from left reading before after writing
  pub unfailed : silo.failures.now ≡ 0

-- By what answering fails, and when it comes. Writing fails before the first line, if a call at the journal's path may fail;
-- or in a line, if a call of the writer failed; or at the end, if a call at the path may fail.
abbrev pub AnsweringFailsBy : Start → ℕ → FileClaims → Option (List ℕ) → Cause → Option (List ℕ) → Option (List ℕ) → Reading
    → Option (List ℕ) → Option (List ℕ) → WriterCalls → Type 0
AnsweringFailsBy start sends files journal cause.Read from left reading before after writing =
    StopsAnswering start sends files journal line.Read from left reading before after writing
AnsweringFailsBy start sends files journal cause.TooMuch from left reading before after writing =
    StopsAnswering start sends files journal line.TooMuch from left reading before after writing
AnsweringFailsBy start sends files journal cause.Write from left reading before after writing =
    (MayFailAt files.may_fail journal × IsUnbegun from left before after)
    ⊎ (StopsAnswering start sends files journal line.Write from left reading before after writing
    ⊎ LosesSecond start sends files journal from left before after)
AnsweringFailsBy start sends files journal cause.Memory from left reading before after writing =
    IsUnbegun from left before after ⊎ LacksMemory start sends from left reading before after writing
AnsweringFailsBy start sends files journal why from left reading before after writing = ⊥

-- ---- its parts

-- why lines that were answered up to this fault end with this cause: memory was refused then, too, or the journal was written,
-- unless a call at its path may fail
abbrev pub EndsBy : LineFault → Type 0 → Cause → Type 0
EndsBy line.Read kept why = (why ≡ cause.Memory) ⊎ ((why ≡ cause.Read) × kept)
EndsBy line.Write kept why = (why ≡ cause.Memory) ⊎ ((why ≡ cause.Write) × kept)
EndsBy line.TooMuch kept why = (why ≡ cause.Memory) ⊎ ((why ≡ cause.TooMuch) × kept)
EndsBy line.Memory kept why = why ≡ cause.Memory
