-- What the program says of a fault, by the status that it ends with.
use Rattle.command_parts.specs.declared.failure.Cause.{Cause}
use Rattle.command_parts.specs.declared.failure.End.{End}
use Rattle.silo_program.specs.Ends.{AreRefusedBy, AskForFolder, EndsAs, FailsBy, IsFaultOf, RefusesFolder, RefusesJournal, RefusesLog, RefusesRows, SaysMisfit}
use Rattle.silo_program.specs.Program.{program_start}
use Rattle.tenant_gate.specs.Table.{Table}
use Rattle.idle_collector.specs.Ages.{Ages}
use Rattle.data_command.specs.Data.{LogClaims}
use Rattle.data_command.specs.Folder.{FolderFailsBy}
use Rattle.data_command.specs.declared.fault.DataFault.{DataFault}
use Rattle.data_command.specs.declared.fault.DataFault.TheVariants as data_fault
use Rattle.command_parts.specs.Files.{FileClaims}
use Rattle.std.proofs.Common.{List, Option, inl, inr, ℕ, ⊎_elim, ◌≡◌, ◌≢◌, ◌⊎◌}
use Rattle.command_parts.specs.declared.failure.ProgramFault.{ProgramFault}
use Rattle.line_text.specs.Reading.{Reading}
use Rattle.clap.specs.Words.{Text}
use Rattle.line_text.specs.declared.written.WriterCalls.{WriterCalls}
use Rattle.std.specs.Prelude.{string_bytes}
use Rattle.command_parts.specs.Streams.{IsUnbegun, Tells, TellsEnd}
use Rattle.command_parts.specs.Status.{end_status, failure_text, status_of, told_text}
use Rattle.command_parts.specs.declared.failure.End.TheVariants as end
use Rattle.command_parts.specs.declared.failure.ProgramFault.TheVariants as fault

module _ (words : List Text) (files : FileClaims) (log : LogClaims) (from left : Option (List ℕ)) (reading : Reading) (before after : Option (List ℕ)) (writing : WriterCalls) where
  -- with status 2 no file was written, but perhaps in a folder of data that is asked for
  pub untouched_by : (why : ProgramFault) → status_of why ≡ 2 → IsFaultOf words files log why from left reading before after writing → ((folder : Text) → ¬ AskForFolder words folder) → files.same
  untouched_by (fault.Failed why) two is none = absurd (cc (two))
  untouched_by (fault.Refused text) two is none =
      ⊎_elim (λ words_so. words_so.3) (λ k. absurd (none k.folder (k.age, k.asked.given, k.sends, k.sync, k.asked.arguments, k.asked.asked))) is
  untouched_by (fault.NoJournal text) two is none = absurd (cc (two))

module _ (words : List Text) (files : FileClaims) (log : LogClaims) (from left : Option (List ℕ)) (reading : Reading) (before after : Option (List ℕ)) (writing : WriterCalls) (said told : Option (List ℕ)) (telling : WriterCalls) where
  -- with status 1 the program failed
  pub failed_by : (why : ProgramFault) → status_of why ≡ 1 → IsFaultOf words files log why from left reading before after writing → Tells said told telling (told_text why)
      → (cause : Cause) × FailsBy words files log cause from left reading before after writing × Tells said told telling (failure_text cause)
  failed_by (fault.Failed why) one is tells = (why, is, tells)
  failed_by (fault.Refused text) one is tells = absurd (cc (one))
  failed_by (fault.NoJournal text) one is tells = absurd (cc (one))

  -- with status 2 the words are refused
  pub refused_by : (why : ProgramFault) → status_of why ≡ 2 → IsFaultOf words files log why from left reading before after writing → Tells said told telling (told_text why)
      → (text : Text) × ((AreRefusedBy words text × files.same) ⊎ RefusesFolder words log text from left reading before after) × Tells said told telling text
  refused_by (fault.Failed why) two is tells = absurd (cc (two))
  refused_by (fault.Refused text) two is tells =
      (string_bytes text, ⊎_elim (λ words_so. inl (words_so.0, words_so.3)) (λ folder_so. inr folder_so) is, tells)
  refused_by (fault.NoJournal text) two is tells = absurd (cc (two))

  -- with status 4 a file has no journal, or a folder's checkpoint or log is refused
  pub unread_by : (why : ProgramFault) → status_of why ≡ 4 → IsFaultOf words files log why from left reading before after writing → Tells said told telling (told_text why)
      → (text : Text) × ((RefusesJournal words files text from left before after ⊎ RefusesRows words files text from left before after) ⊎ RefusesLog words log text from left reading before after) × Tells said told telling text
  unread_by (fault.Failed why) four is tells = absurd (cc (four))
  unread_by (fault.Refused text) four is tells = absurd (cc (four))
  unread_by (fault.NoJournal text) four is tells = (string_bytes text, is, tells)

-- with status 0 all is well, and what is told of it is told
pub ends_well : (how : End) (words : List Text) (files : FileClaims) (log : LogClaims) (from left before after said told : Option (List ℕ)) (writing : WriterCalls) → end_status how ≡ 0 → EndsAs how words files log from left before after → TellsEnd said told writing how
    → (how : End) × (how ≢ end.Differs) × EndsAs how words files log from left before after × TellsEnd said told writing how
ends_well end.Well words files log from left before after said told writing zero is tells = (end.Well, (λ e. absurd (cc e)), is, tells)
ends_well (end.Told text) words files log from left before after said told writing zero is tells = (end.Told text, (λ e. absurd (cc e)), is, tells)
ends_well end.Differs words files log from left before after said told writing zero is tells = absurd (cc (zero))

-- ---- nothing was read and nothing written

module _ (words : List Text) (log : LogClaims) (text : Text) (from left : Option (List ℕ)) (reading : Reading) (before after : Option (List ℕ)) where
  -- if these words don't fit the data
  misfits_unbegun : (tenants : Table) (age : ℕ) (ages : Ages) (sends : ℕ) (why : DataFault) → FolderFailsBy (program_start tenants age ages) sends log why from left reading before after
      → SaysMisfit why text → IsUnbegun from left before after
  misfits_unbegun tenants age ages sends data_fault.OtherWords fails said = ⊎_elim (λ start. start.1) (λ run. ⊎_elim (λ start. start.1) (λ stops. absurd stops) run.holds) fails
  misfits_unbegun tenants age ages sends (data_fault.HasTenant name) fails said = ⊎_elim (λ start. start.1) (λ run. ⊎_elim (λ start. start.1) (λ stops. absurd stops) run.holds) fails
  misfits_unbegun tenants age ages sends (data_fault.Failed why) fails said = absurd said
  misfits_unbegun tenants age ages sends data_fault.NoCheckpoint fails said = absurd said
  misfits_unbegun tenants age ages sends data_fault.NoLog fails said = absurd said
  misfits_unbegun tenants age ages sends (data_fault.Refused line) fails said = absurd said
  misfits_unbegun tenants age ages sends (data_fault.Otherwise line) fails said = absurd said

  pub folder_unbegun : RefusesFolder words log text from left reading before after → IsUnbegun from left before after
  folder_unbegun is = misfits_unbegun is.tenants is.age is.ages is.sends is.why is.refused is.said
