-- What is kept of a silo's journal in a file: the journal of no step first, and then the silo's.
use Rattle.std.specs.Prelude.{◌≢◌, ◌⊎◌, ℕ, List, [], Option, None, Some, IfSome}
use Rattle.silo_model.specs.Opening.{Setup, opening}
use Rattle.silo_core.specs.History.{History}
use Rattle.journal_text.specs.Text.{journal_text}
use Rattle.command_parts.specs.Files.{FileClaims}
use Rattle.command_parts.specs.Journals.{HasNoDifference, ReadsAgain, silo_journal}
use Rattle.command_parts.specs.Setups.{Start, Version}
use Rattle.command_parts.specs.declared.failure.Cause.{Cause}
use Rattle.command_parts.specs.declared.failure.Cause.TheVariants as cause

-- ---- the silo's journal

-- The journal of the silo was written to the path, once and nothing else. The file at the path may have it. It keeps a journal's rules,
-- and in it no tenant differs from its machine.
pub record HoldsJournal (version : Version) (files : FileClaims) (path : List ℕ) (silo : History) : Type 0 where
  pub written : files.written path (journal_text (silo_journal version silo))
  pub held : files.may_hold path (journal_text (silo_journal version silo))
  pub is_journal : ReadsAgain version silo
  pub no_difference : HasNoDifference version silo

-- the same, if a path is given
abbrev pub KeepsJournal : Version → FileClaims → Option (List ℕ) → History → Type 0
KeepsJournal version files journal silo = IfSome journal (λ path. HoldsJournal version files path silo)

-- No file was written, or the journal of the silo was, once, to the path that is given.
abbrev pub WritesAtMost : Version → FileClaims → Option (List ℕ) → History → Type 0
WritesAtMost version files None silo = files.same
WritesAtMost version files (Some path) silo = files.same ⊎ files.written path (journal_text (silo_journal version silo))

-- A path is given, and a call at it may fail.
abbrev pub MayFailAt : (List ℕ → Type 0) → Option (List ℕ) → Type 0
MayFailAt may_fail None = ⊥
MayFailAt may_fail (Some path) = may_fail path

-- a path is given, and memory was refused, or a call at the path may fail
abbrev pub IsKeepingCause : (List ℕ → Type 0) → Option (List ℕ) → Cause → Type 0
IsKeepingCause may_fail journal cause.Memory = journal ≢ None
IsKeepingCause may_fail journal cause.Write = MayFailAt may_fail journal
IsKeepingCause may_fail journal why = ⊥

-- ---- the journal of no step

-- a silo at its opening, which took no step, and whose storage didn't fail
abbrev pub opened : Setup → History
opened setup = record { setup = setup; whole = opening setup; journal = []; failures = record { at_opening = 0; now = 0 } }

-- the journal of no step
abbrev pub empty_journal : Start → List ℕ
empty_journal start = journal_text (silo_journal start.version (opened start.setup))

-- The journal of no step was written to the path, if one is given, and nothing else.
abbrev pub WritesFirst : Start → FileClaims → Option (List ℕ) → Type 0
WritesFirst start files None = files.same
WritesFirst start files (Some path) = files.written path (empty_journal start)

-- No file was written, or the journal of no step was, to the path that is given.
abbrev pub WritesFirstAtMost : Start → FileClaims → Option (List ℕ) → Type 0
WritesFirstAtMost start files None = files.same
WritesFirstAtMost start files (Some path) = files.same ⊎ files.written path (empty_journal start)

-- ---- the one, and then the other

-- The journal of no step was written to the path, then that of the silo, and nothing else. The file at the path may have the
-- second. It keeps a journal's rules, and in it no tenant differs from its machine.
pub record HoldsSecond (start : Start) (files : FileClaims) (path : List ℕ) (silo : History) : Type 0 where
  pub written : files.written_again path (empty_journal start) (journal_text (silo_journal start.version silo))
  pub held : files.may_hold path (journal_text (silo_journal start.version silo))
  pub is_journal : ReadsAgain start.version silo
  pub no_difference : HasNoDifference start.version silo

-- the same, if a path is given
abbrev pub KeepsSecond : Start → FileClaims → Option (List ℕ) → History → Type 0
KeepsSecond start files journal silo = IfSome journal (λ path. HoldsSecond start files path silo)

-- A path is given, and a call at it may fail behind the first write.
abbrev pub MayFailAgain : Start → FileClaims → Option (List ℕ) → Type 0
MayFailAgain start files journal = MayFailAt (λ path. files.may_fail_again path (empty_journal start)) journal
