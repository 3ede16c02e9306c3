-- How the program ends, by its status: what the words ask for, what was read and written, and what was told.
use Rattle.std.specs.Prelude.{◌≡◌, ◌⊎◌, ℕ, Bool, true, List, [], Option, Some, string_bytes}
use Rattle.std.specs.Io.KnownBytes.{Appends, Keeps}
use Rattle.clap.specs.Words.{Text}
use Rattle.tenant_gate.specs.Table.{Table}
use Rattle.idle_collector.specs.Ages.{Ages}
use Rattle.line_text.specs.Reading.{Reading}
use Rattle.line_text.specs.declared.written.WriterCalls.{WriterCalls}
use Rattle.line_text.specs.declared.fault.LineFault.{LineFault}
use Rattle.silo_program.specs.Program.{program_start}
use Rattle.silo_words.specs.Words.{AreRefused, AskForAnswering, AskForAudit, AskForData, AskForHelp, AskForMigration, AskForNothing}
use Rattle.silo_words.specs.Words.{AskForRows, AskForServing, AskForSteps, AskForVersion, EndsWithExample, nothing_told}
use Rattle.silo_words.specs.declared.task.Telling.{Telling}
use Rattle.command_parts.specs.Status.{cause_of}
use Rattle.silo_program.specs.Arguments.{no_ages_text, refused_text, version_text}
use Rattle.command_parts.specs.Streams.{BreaksOff}
use Rattle.serve_command.specs.Telling.{asks_to_tell}
use Rattle.silo_words.specs.Ages.{NamesAges}
use Rattle.silo_words.specs.Tenants.{IsFirstRefused, NameTenants}
use Rattle.line_commands.specs.Steps.{AnswersFrom, StopsFrom}
use Rattle.command_parts.specs.Files.{FileClaims}
use Rattle.line_commands.specs.Answering.{AnsweringFailsBy, AnswersLanes, WritesJournals}
use Rattle.data_command.specs.Data.{LogClaims}
use Rattle.data_command.specs.Folder.{FolderAnswers, FolderFailsBy, FolderHas, FolderLasts}
use Rattle.data_command.specs.Texts.{has_tenant_text, no_checkpoint_text, no_log_text, other_words_text, otherwise_text}
use Rattle.data_command.specs.Texts.{refused_text as refused_line_text}
use Rattle.data_command.specs.declared.fault.DataFault.{DataFault}
use Rattle.data_command.specs.declared.fault.DataFault.TheVariants as data_fault
use Rattle.serve_command.specs.Serving.{ServesLanes, ServingFailsBy, WritesServed}
use Rattle.journal_commands.specs.Auditing.{AuditFailsBy, AuditsFile, RefusesFile}
use Rattle.journal_commands.specs.Migrating.{MigratesFile, MigrationFailsBy}
use Rattle.rows_command.specs.Rows.{PrintsRows, RefusesPoint, RowsFailBy, checkpoint_path}
use Rattle.command_parts.specs.declared.failure.Cause.{Cause}
use Rattle.command_parts.specs.declared.failure.Cause.TheVariants as cause
use Rattle.command_parts.specs.declared.failure.End.{End}
use Rattle.command_parts.specs.declared.failure.End.TheVariants as end
use Rattle.command_parts.specs.declared.failure.ProgramFault.{ProgramFault}
use Rattle.command_parts.specs.declared.failure.ProgramFault.TheVariants as fault

-- ---- what the words ask for

-- the text that the words ask for: help, or the version
abbrev pub AskForText : List Text → Text → Type 0
AskForText words text = (AskForHelp words × EndsWithExample words text) ⊎ (AskForVersion words × (text ≡ version_text))

-- The words ask to take steps for these tenants, each within its limits, under this age and these ages of kinds.
pub record AskForTenants (words : List Text) (tenants : Table) (age : ℕ) (ages : Ages) : Type 0 where
  pub given : Option Text
  pub arguments : List Text
  pub asked : AskForSteps words age given arguments
  pub named : NameTenants arguments tenants
  pub aged : NamesAges given ages

-- The words ask to serve the lines of an input by so many threads, for these tenants under this age and these ages of kinds, for the
-- journal at this path, and to tell this of it.
pub record AskForThreads (words : List Text) (workers : ℕ) (tenants : Table) (age : ℕ) (ages : Ages) (journal : Option Text)
    (telling : Telling) : Type 0 where
  pub given : Option Text
  pub arguments : List Text
  pub asked : AskForServing words workers age given journal telling arguments
  pub named : NameTenants arguments tenants
  pub aged : NamesAges given ages

-- The words ask to answer the lines of an input at once, for these tenants under this age and these ages of kinds, with so many
-- deliveries behind each line, and for the journal at this path.
pub record AskForAnswers (words : List Text) (tenants : Table) (age : ℕ) (ages : Ages) (sends : ℕ) (journal : Option Text) : Type 0 where
  pub given : Option Text
  pub arguments : List Text
  pub asked : AskForAnswering words age given sends journal arguments
  pub named : NameTenants arguments tenants
  pub aged : NamesAges given ages

-- The words ask to answer the lines of an input at once, for these tenants under this age and these ages of kinds, with so many
-- deliveries behind each line, and to keep what was answered in this folder, which replies wait for if they are to.
pub record AskForKeeping (words : List Text) (tenants : Table) (age : ℕ) (ages : Ages) (sends : ℕ) (folder : Text) (sync : Bool)
    : Type 0 where
  pub given : Option Text
  pub arguments : List Text
  pub asked : AskForData words age given sends folder sync arguments
  pub named : NameTenants arguments tenants
  pub aged : NamesAges given ages

-- The words ask for a folder of data.
abbrev pub AskForFolder : List Text → Text → Type 0
AskForFolder words folder = (age : ℕ) × (given : Option Text) × (sends : ℕ) × (sync : Bool) × (arguments : List Text)
    × AskForData words age given sends folder sync arguments

-- The words ask for the journal at the path, of lines that are served or answered at once.
abbrev pub AskForJournal : List Text → Text → Type 0
AskForJournal words path =
    ((workers : ℕ) × (age : ℕ) × (given : Option Text) × (telling : Telling) × (arguments : List Text)
    × AskForServing words workers age given (Some path) telling arguments)
    ⊎ ((age : ℕ) × (given : Option Text) × (sends : ℕ) × (arguments : List Text)
    × AskForAnswering words age given sends (Some path) arguments)

-- The words ask for an audit of the journal at the path, or to migrate it.
abbrev pub AskForFile : List Text → Text → Type 0
AskForFile words path = AskForAudit words path ⊎ AskForMigration words path

-- The words have this text of the kinds' ages and these tenant arguments, whether they ask to take steps, to serve, or to answer at once,
-- with a folder of data or without.
abbrev pub HaveArguments : List Text → Option Text → List Text → Type 0
HaveArguments words given arguments =
    ((age : ℕ) × AskForSteps words age given arguments)
    ⊎ (((workers : ℕ) × (age : ℕ) × (journal : Option Text) × (telling : Telling)
    × AskForServing words workers age given journal telling arguments)
    ⊎ (((age : ℕ) × (sends : ℕ) × (journal : Option Text) × AskForAnswering words age given sends journal arguments)
    ⊎ ((age : ℕ) × (sends : ℕ) × (folder : Text) × (sync : Bool) × AskForData words age given sends folder sync arguments)))

-- The words ask for work that takes maps: to take steps, to serve, to answer at once, or to audit.
abbrev pub AskForWork : List Text → Type 0
AskForWork words = ((given : Option Text) × (arguments : List Text) × HaveArguments words given arguments)
    ⊎ ((path : Text) × AskForAudit words path)

-- The arguments name tenants, but the text of ages names no table.
pub record NameNoAges (given : Option Text) (arguments : List Text) : Type 0 where
  pub tenants : Table
  pub named : NameTenants arguments tenants
  pub refused : (ages : Ages) → ¬ NamesAges given ages

-- What is said where a text of ages and tenant arguments aren't taken: which tenant argument is the first that is refused; or, where the
-- arguments name tenants, that the ages are refused.
abbrev pub AreNotTakenBy : Option Text → List Text → Text → Type 0
AreNotTakenBy given arguments text =
    ((number : ℕ) × IsFirstRefused arguments number × (text ≡ refused_text number))
    ⊎ (NameNoAges given arguments × (text ≡ no_ages_text))

-- The words have tenant arguments, and perhaps a text of ages, that aren't taken, and this is said of it.
pub record HaveWrongArguments (words : List Text) (text : Text) : Type 0 where
  pub given : Option Text
  pub arguments : List Text
  pub asked : HaveArguments words given arguments
  pub why : AreNotTakenBy given arguments text

-- What is said of words that are refused: clap's text, or that a number is out of its range, or what isn't taken of their tenant arguments
-- and their text of ages.
abbrev pub AreRefusedBy : List Text → Text → Type 0
AreRefusedBy words text = (AreRefused words ⊎ AskForNothing words) ⊎ HaveWrongArguments words text

-- ---- a text is shown

-- The text that the words ask for was written, and nothing was read.
pub record ShowsText (words : List Text) (from left before after : Option (List ℕ)) : Type 0 where
  pub text : Text
  pub asked : AskForText words text
  pub kept : Keeps from left
  pub written : Appends before after text

-- The text that the words ask for breaks off: a call of the writer failed. Nothing was read.
pub record StopsText (words : List Text) (from left before after : Option (List ℕ)) (writing : WriterCalls) : Type 0 where
  pub text : Text
  pub asked : AskForText words text
  pub kept : Keeps from left
  pub part : BreaksOff before after writing text

-- Before a task is done memory may be refused, or writing a text may fail, or the source of random bytes, from which the task's maps have
-- their seed.
abbrev pub FailsEarly : List Text → Cause → Option (List ℕ) → Option (List ℕ) → Option (List ℕ) → Option (List ℕ) → WriterCalls → Type 0
FailsEarly words cause.Read from left before after writing = AskForWork words × Keeps from left × Keeps before after
FailsEarly words cause.Write from left before after writing = StopsText words from left before after writing
FailsEarly words cause.Memory from left before after writing = Keeps from left × Keeps before after
FailsEarly words cause.TooMuch from left before after writing = ⊥
FailsEarly words cause.NoWorker from left before after writing = ⊥
FailsEarly words cause.Strayed from left before after writing = ⊥
FailsEarly words cause.InUse from left before after writing = ⊥

-- ---- steps are taken

-- The words name tenants, and the steps of the input were answered for them.
pub record ServesSteps (words : List Text) (from left before after : Option (List ℕ)) : Type 0 where
  pub tenants : Table
  pub age : ℕ
  pub ages : Ages
  pub asked : AskForTenants words tenants age ages
  pub answered : AnswersFrom (program_start tenants age ages) from left before after

-- The words name tenants, and the steps of the input were answered for them up to this fault.
pub record FailsInSteps (words : List Text) (why : Cause) (from left : Option (List ℕ)) (reading : Reading)
    (before after : Option (List ℕ)) (writing : WriterCalls) : Type 0 where
  pub tenants : Table
  pub age : ℕ
  pub ages : Ages
  pub asked : AskForTenants words tenants age ages
  pub fault : LineFault
  pub is : why ≡ cause_of fault
  pub stopped : StopsFrom (program_start tenants age ages) fault from left reading before after writing

-- ---- lines are served

-- The words name tenants, and the lines of the input were served for them. The text is what the words ask to tell of them.
pub record ServesInput (words : List Text) (files : FileClaims) (telling : Telling) (from left before after : Option (List ℕ))
    (text : List ℕ) : Type 0 where
  pub workers : ℕ
  pub tenants : Table
  pub age : ℕ
  pub ages : Ages
  pub journal : Option Text
  pub asked : AskForThreads words workers tenants age ages journal telling
  pub served : ServesLanes (program_start tenants age ages) files journal telling from left before after text

-- The words name tenants, and serving the lines of the input for them failed.
pub record FailsInServing (words : List Text) (files : FileClaims) (why : Cause) (from left : Option (List ℕ)) (reading : Reading)
    (before after : Option (List ℕ)) (writing : WriterCalls) : Type 0 where
  pub workers : ℕ
  pub tenants : Table
  pub age : ℕ
  pub ages : Ages
  pub journal : Option Text
  pub telling : Telling
  pub asked : AskForThreads words workers tenants age ages journal telling
  pub failed : ServingFailsBy (program_start tenants age ages) files journal why from left reading.calls before after writing

-- The words name tenants and a path. To this path the journal of no step was written, or this and then the journal of what was
-- served, and nothing else.
pub record WritesJournal (words : List Text) (files : FileClaims) (from left : Option (List ℕ)) : Type 0 where
  pub workers : ℕ
  pub tenants : Table
  pub age : ℕ
  pub ages : Ages
  pub path : Text
  pub telling : Telling
  pub asked : AskForThreads words workers tenants age ages (Some path) telling
  pub written : WritesServed (program_start tenants age ages) files path from left

-- ---- lines are answered at once

-- The words name tenants, and the lines of the input were answered at once for them.
pub record AnswersAtOnce (words : List Text) (files : FileClaims) (from left before after : Option (List ℕ)) : Type 0 where
  pub tenants : Table
  pub age : ℕ
  pub ages : Ages
  pub sends : ℕ
  pub journal : Option Text
  pub asked : AskForAnswers words tenants age ages sends journal
  pub answered : AnswersLanes (program_start tenants age ages) sends files journal from left before after

-- The words name tenants, and answering the lines of the input at once for them failed.
pub record FailsInAnswering (words : List Text) (files : FileClaims) (why : Cause) (from left : Option (List ℕ)) (reading : Reading)
    (before after : Option (List ℕ)) (writing : WriterCalls) : Type 0 where
  pub tenants : Table
  pub age : ℕ
  pub ages : Ages
  pub sends : ℕ
  pub journal : Option Text
  pub asked : AskForAnswers words tenants age ages sends journal
  pub failed : AnsweringFailsBy (program_start tenants age ages) sends files journal why from left reading before after writing

-- The words name tenants and a path. To this path the journal of no step was written, or this and then the journal of what was
-- answered, and nothing else.
pub record WritesAnswered (words : List Text) (files : FileClaims) (from : Option (List ℕ)) : Type 0 where
  pub tenants : Table
  pub age : ℕ
  pub ages : Ages
  pub sends : ℕ
  pub path : Text
  pub asked : AskForAnswers words tenants age ages sends (Some path)
  pub written : WritesJournals (program_start tenants age ages) sends files path from

-- ---- lines are answered at once, with a folder of data

-- The words name tenants and a folder. The lines of the input were answered at once for them, by a silo that is where the folder's
-- checkpoint and the lines of the log behind it lead; and the log has them, or a checkpoint in its place, if replies are to wait for it.
pub record AnswersInFolder (words : List Text) (log : LogClaims) (from left before after : Option (List ℕ)) : Type 0 where
  pub tenants : Table
  pub age : ℕ
  pub ages : Ages
  pub sends : ℕ
  pub folder : Text
  pub sync : Bool
  pub asked : AskForKeeping words tenants age ages sends folder sync
  pub answered : FolderAnswers (program_start tenants age ages) sends log from left before after
  pub has : sync ≡ true → FolderHas (program_start tenants age ages) sends log from

-- The words name tenants and a folder, and answering the lines of the input at once for them failed.
pub record FailsInFolder (words : List Text) (log : LogClaims) (why : Cause) (from left : Option (List ℕ)) (reading : Reading)
    (before after : Option (List ℕ)) : Type 0 where
  pub tenants : Table
  pub age : ℕ
  pub ages : Ages
  pub sends : ℕ
  pub folder : Text
  pub sync : Bool
  pub asked : AskForKeeping words tenants age ages sends folder sync
  pub failed : FolderFailsBy (program_start tenants age ages) sends log (data_fault.Failed why) from left reading before after

-- what is said of a folder that the words don't fit
abbrev pub SaysMisfit : DataFault → Text → Type 0
SaysMisfit data_fault.OtherWords text = text ≡ other_words_text
SaysMisfit (data_fault.HasTenant name) text = text ≡ has_tenant_text name.bytes
SaysMisfit why text = ⊥

-- what is said of a folder with which no silo goes on under the same words
abbrev pub SaysFault : DataFault → Text → Type 0
SaysFault data_fault.NoCheckpoint text = text ≡ no_checkpoint_text
SaysFault data_fault.NoLog text = text ≡ no_log_text
SaysFault (data_fault.Refused line) text = text ≡ refused_line_text line
SaysFault (data_fault.Otherwise line) text = text ≡ otherwise_text line
SaysFault why text = ⊥

-- The words name tenants and a folder with which no silo goes on, and this was said of it. Nothing was read and nothing written, and the
-- folder is as it was.
pub record RefusesData (Says : DataFault → Text → Type 0) (words : List Text) (log : LogClaims) (text : Text) (from left : Option (List ℕ))
    (reading : Reading) (before after : Option (List ℕ)) : Type 0 where
  pub tenants : Table
  pub age : ℕ
  pub ages : Ages
  pub sends : ℕ
  pub folder : Text
  pub sync : Bool
  pub asked : AskForKeeping words tenants age ages sends folder sync
  pub why : DataFault
  pub refused : FolderFailsBy (program_start tenants age ages) sends log why from left reading before after
  pub said : Says why text

-- Its checkpoint or its log has other words, and can't change to these.
abbrev pub RefusesFolder : List Text → LogClaims → Text → Option (List ℕ) → Option (List ℕ) → Reading → Option (List ℕ) → Option (List ℕ)
    → Type 0
RefusesFolder = RefusesData SaysMisfit

-- Its checkpoint is refused, or it lacks its log, or a line of that is refused, or answered otherwise than it was.
abbrev pub RefusesLog : List Text → LogClaims → Text → Option (List ℕ) → Option (List ℕ) → Reading → Option (List ℕ) → Option (List ℕ)
    → Type 0
RefusesLog = RefusesData SaysFault

-- The words name tenants and a folder. If replies are to wait for its log: at each moment, whatever a crash leaves of the log, all that was
-- told is the beginning of what it answers.
pub record KeepsFolder (words : List Text) (log : LogClaims) : Type 0 where
  pub tenants : Table
  pub age : ℕ
  pub ages : Ages
  pub sends : ℕ
  pub folder : Text
  pub sync : Bool
  pub asked : AskForKeeping words tenants age ages sends folder sync
  pub lasts : sync ≡ true → FolderLasts (program_start tenants age ages) sends log

-- ---- what files have

-- No file was written, or the journals that the words ask for were, or the words ask for a folder of data, and that lasts.
abbrev pub LeavesFiles : List Text → FileClaims → LogClaims → Option (List ℕ) → Option (List ℕ) → Type 0
LeavesFiles words files log from left =
    files.same ⊎ (WritesJournal words files from left ⊎ (WritesAnswered words files from ⊎ KeepsFolder words log))

-- ---- a journal is audited

-- The words name a file, and its journal was audited. Nothing was read from the input, and no file was written.
pub record Audits (words : List Text) (files : FileClaims) (how : End) (from left before after : Option (List ℕ)) : Type 0 where
  pub path : Text
  pub asked : AskForAudit words path
  pub kept : Keeps from left
  pub unwritten : files.same
  pub audited : AuditsFile (files.may_hold path) how before after

-- The words name a file, and its audit failed. Nothing was read from the input, and no file was written.
pub record FailsInAudit (words : List Text) (files : FileClaims) (why : Cause) (from left before after : Option (List ℕ))
    (writing : WriterCalls) : Type 0 where
  pub path : Text
  pub asked : AskForAudit words path
  pub kept : Keeps from left
  pub unwritten : files.same
  pub failed : AuditFailsBy (files.may_hold path) (files.may_fail path) why before after writing

-- ---- a journal is migrated

-- The words name a file, and its journal was migrated. Nothing was read from the input, and no file was written.
pub record Migrates (words : List Text) (files : FileClaims) (from left before after : Option (List ℕ)) : Type 0 where
  pub path : Text
  pub asked : AskForMigration words path
  pub kept : Keeps from left
  pub unwritten : files.same
  pub migrated : MigratesFile (files.may_hold path) before after

-- The words name a file, and migrating its journal failed. Nothing was read from the input, and no file was written.
pub record FailsInMigration (words : List Text) (files : FileClaims) (why : Cause) (from left before after : Option (List ℕ))
    (writing : WriterCalls) : Type 0 where
  pub path : Text
  pub asked : AskForMigration words path
  pub kept : Keeps from left
  pub unwritten : files.same
  pub failed : MigrationFailsBy (files.may_hold path) (files.may_fail path) why before after writing

-- ---- rows are printed

-- The words name a folder, and what its checkpoint has was printed: of the tenant, if one is named. Nothing was read from the input, and no
-- file was written.
pub record ListsRows (words : List Text) (files : FileClaims) (from left before after : Option (List ℕ)) : Type 0 where
  pub folder : Text
  pub tenant : Option Text
  pub asked : AskForRows words folder tenant
  pub kept : Keeps from left
  pub unwritten : files.same
  pub printed : PrintsRows (files.may_hold (checkpoint_path folder)) tenant before after

-- The words name a folder, and printing what its checkpoint has failed. Nothing was read from the input, and no file was written.
pub record FailsInRows (words : List Text) (files : FileClaims) (why : Cause) (from left before after : Option (List ℕ))
    (writing : WriterCalls) : Type 0 where
  pub folder : Text
  pub tenant : Option Text
  pub asked : AskForRows words folder tenant
  pub kept : Keeps from left
  pub unwritten : files.same
  pub failed : RowsFailBy (files.may_hold (checkpoint_path folder)) (files.may_fail (checkpoint_path folder)) tenant why before after
      writing

-- The words name a folder whose checkpoint is refused, and that was said. Nothing was read from the input, and no file was written.
pub record RefusesRows (words : List Text) (files : FileClaims) (text : Text) (from left before after : Option (List ℕ)) : Type 0 where
  pub folder : Text
  pub tenant : Option Text
  pub asked : AskForRows words folder tenant
  pub kept : Keeps from left
  pub unwritten : files.same
  pub refused : RefusesPoint (files.may_hold (checkpoint_path folder)) text before after

-- ---- there is no journal

-- The words name a file that has no journal, and that was said. Nothing was read from the input, and no file was written.
pub record RefusesJournal (words : List Text) (files : FileClaims) (text : Text) (from left before after : Option (List ℕ)) : Type 0 where
  pub path : Text
  pub asked : AskForFile words path
  pub kept : Keeps from left
  pub unwritten : files.same
  pub refused : RefusesFile (files.may_hold path) text before after

-- ---- how the program ends

-- All is well: the words ask for a text, or to migrate a journal, or to print rows, which was written, or for steps, which were answered,
-- or for lines to be served or answered at once, with a folder of data or without, which they were, or for an audit, which found no
-- difference. The same of lines that were served, of which this text is to be told. A tenant differs: the words ask for an audit, which
-- found that.
abbrev pub EndsAs : End → List Text → FileClaims → LogClaims → Option (List ℕ) → Option (List ℕ) → Option (List ℕ) → Option (List ℕ)
    → Type 0
EndsAs end.Well words files log from left before after =
    (ShowsText words from left before after
    ⊎ (Migrates words files from left before after ⊎ ListsRows words files from left before after))
    ⊎ (ServesSteps words from left before after
    ⊎ (ServesInput words files nothing_told from left before after []
    ⊎ (AnswersAtOnce words files from left before after
    ⊎ (AnswersInFolder words log from left before after ⊎ Audits words files end.Well from left before after))))
EndsAs (end.Told text) words files log from left before after =
    (telling : Telling) × (asks_to_tell telling ≡ true) × ServesInput words files telling from left before after (string_bytes text)
EndsAs end.Differs words files log from left before after = Audits words files end.Differs from left before after

-- How lines that are served end, if they do.
abbrev pub EndsServing : End → List Text → FileClaims → Telling → Option (List ℕ) → Option (List ℕ) → Option (List ℕ) → Option (List ℕ)
    → Type 0
EndsServing end.Well words files telling from left before after =
    (telling ≡ nothing_told) × ServesInput words files telling from left before after []
EndsServing (end.Told text) words files telling from left before after =
    (asks_to_tell telling ≡ true) × ServesInput words files telling from left before after (string_bytes text)
EndsServing end.Differs words files telling from left before after = ⊥

-- What was done before the program failed by this: nothing yet, or a part of what the words ask for.
abbrev pub FailsBy : List Text → FileClaims → LogClaims → Cause → Option (List ℕ) → Option (List ℕ) → Reading → Option (List ℕ)
    → Option (List ℕ) → WriterCalls → Type 0
FailsBy words files log why from left reading before after writing =
    (FailsEarly words why from left before after writing
    ⊎ (FailsInMigration words files why from left before after writing ⊎ FailsInRows words files why from left before after writing))
    ⊎ (FailsInSteps words why from left reading before after writing
    ⊎ (FailsInServing words files why from left reading before after writing
    ⊎ (FailsInAnswering words files why from left reading before after writing
    ⊎ (FailsInFolder words log why from left reading before after ⊎ FailsInAudit words files why from left before after writing))))

-- Why a text isn't shown, or steps aren't taken.
abbrev pub IsStreamFault : List Text → ProgramFault → Option (List ℕ) → Option (List ℕ) → Reading → Option (List ℕ) → Option (List ℕ)
    → WriterCalls → Type 0
IsStreamFault words (fault.Failed why) from left reading before after writing =
    FailsEarly words why from left before after writing ⊎ FailsInSteps words why from left reading before after writing
IsStreamFault words (fault.Refused text) from left reading before after writing =
    AreRefusedBy words (string_bytes text) × Keeps from left × Keeps before after
IsStreamFault words (fault.NoJournal text) from left reading before after writing = ⊥

-- Why tenants and ages aren't named: the arguments or the ages aren't taken, or memory was refused.
abbrev pub IsNamingFault : Option Text → List Text → ProgramFault → Type 0
IsNamingFault given arguments (fault.Failed why) = why ≡ cause.Memory
IsNamingFault given arguments (fault.Refused text) = AreNotTakenBy given arguments (string_bytes text)
IsNamingFault given arguments (fault.NoJournal text) = ⊥

-- Why lines aren't served.
abbrev pub IsServingFault : List Text → FileClaims → ProgramFault → Option (List ℕ) → Option (List ℕ) → Reading → Option (List ℕ)
    → Option (List ℕ) → WriterCalls → Type 0
IsServingFault words files (fault.Failed why) from left reading before after writing =
    FailsEarly words why from left before after writing ⊎ FailsInServing words files why from left reading before after writing
IsServingFault words files (fault.Refused text) from left reading before after writing =
    AreRefusedBy words (string_bytes text) × Keeps from left × Keeps before after × files.same
IsServingFault words files (fault.NoJournal text) from left reading before after writing = ⊥

-- Why lines aren't answered at once.
abbrev pub IsAnsweringFault : List Text → FileClaims → ProgramFault → Option (List ℕ) → Option (List ℕ) → Reading → Option (List ℕ)
    → Option (List ℕ) → WriterCalls → Type 0
IsAnsweringFault words files (fault.Failed why) from left reading before after writing =
    FailsEarly words why from left before after writing ⊎ FailsInAnswering words files why from left reading before after writing
IsAnsweringFault words files (fault.Refused text) from left reading before after writing =
    AreRefusedBy words (string_bytes text) × Keeps from left × Keeps before after × files.same
IsAnsweringFault words files (fault.NoJournal text) from left reading before after writing = ⊥

-- Why lines aren't answered at once with a folder of data.
abbrev pub IsFolderFault : List Text → FileClaims → LogClaims → ProgramFault → Option (List ℕ) → Option (List ℕ) → Reading
    → Option (List ℕ) → Option (List ℕ) → WriterCalls → Type 0
IsFolderFault words files log (fault.Failed why) from left reading before after writing =
    FailsEarly words why from left before after writing ⊎ FailsInFolder words log why from left reading before after
IsFolderFault words files log (fault.Refused text) from left reading before after writing =
    (AreRefusedBy words (string_bytes text) × Keeps from left × Keeps before after × files.same)
    ⊎ RefusesFolder words log (string_bytes text) from left reading before after
IsFolderFault words files log (fault.NoJournal text) from left reading before after writing =
    RefusesLog words log (string_bytes text) from left reading before after

-- Why the program doesn't do what the words ask for. If the words are refused, nothing was read and nothing written, also no file.
abbrev pub IsFaultOf : List Text → FileClaims → LogClaims → ProgramFault → Option (List ℕ) → Option (List ℕ) → Reading → Option (List ℕ)
    → Option (List ℕ) → WriterCalls → Type 0
IsFaultOf words files log (fault.Failed why) from left reading before after writing =
    FailsBy words files log why from left reading before after writing
IsFaultOf words files log (fault.Refused text) from left reading before after writing =
    (AreRefusedBy words (string_bytes text) × Keeps from left × Keeps before after × files.same)
    ⊎ RefusesFolder words log (string_bytes text) from left reading before after
IsFaultOf words files log (fault.NoJournal text) from left reading before after writing =
    (RefusesJournal words files (string_bytes text) from left before after
    ⊎ RefusesRows words files (string_bytes text) from left before after)
    ⊎ RefusesLog words log (string_bytes text) from left reading before after
