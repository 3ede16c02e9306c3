-- What a task that was done, or wasn't, is to the words that ask for it.
use Rattle.idle_collector.specs.Ages.{Ages}
use Rattle.command_parts.specs.declared.failure.Cause.{Cause}
use Rattle.command_parts.specs.declared.failure.End.{End}
use Rattle.data_command.specs.Data.{LogClaims, LogView, RunFailsBy, since}
use Rattle.data_command.specs.Folder.{FolderAnswers, FolderFailsBy, FolderHas, FolderLasts}
use Rattle.data_command.specs.Texts.{IsDataFault}
use Rattle.data_command.specs.declared.fault.DataFault.{DataFault}
use Rattle.data_command.specs.declared.fault.DataFault.TheVariants as data_fault
use Rattle.silo_program.specs.Ends.{AnswersInFolder, AskForFolder, AskForJournal, AskForKeeping, EndsAs, EndsServing, IsAnsweringFault, IsFaultOf, IsFolderFault}
use Rattle.silo_program.specs.Ends.{IsNamingFault, IsServingFault, IsStreamFault, LeavesFiles, RefusesData, SaysFault, SaysMisfit, ServesInput, ShowsText}
use Rattle.command_parts.specs.Files.{FileClaims}
use Rattle.command_parts.specs.Setups.{Start}
use Rattle.command_parts.specs.Streams.{IsUnbegun}
use Rattle.command_parts.specs.declared.failure.Cause.TheVariants as cause
use Rattle.std.proofs.Common.{Bool, IfErr, IfOk, List, None, Option, Result, Some, [], inl, inr, refl, subst, sym, true, ℕ, ⊎_elim, ◌≡◌}
use Rattle.std.proofs.lemmas.Result.{IfErr-weaker, IfOk-weaker}
use Rattle.std.specs.Prelude.{string_bytes}
use Rattle.std.specs.Io.KnownBytes.{Keeps}
use Rattle.std.proofs.KnownBytes.{Keeps-refl}
use Rattle.serve_command.specs.Serving.{ServesLanes, WritesJournalAtMost}
use Rattle.command_parts.specs.declared.failure.ProgramFault.{ProgramFault}
use Rattle.line_text.specs.Reading.{Reading}
use Rattle.tenant_gate.specs.Table.{Table}
use Rattle.clap.specs.Words.{Text}
use Rattle.line_text.specs.declared.written.WriterCalls.{WriterCalls}
use Rattle.line_commands.specs.Answering.{WritesJournalsAtMost}
use Rattle.silo_program.specs.Program.{program_start}
use Rattle.silo_words.specs.Ages.{IsWhyNoAges, NamesAges}
use Rattle.silo_words.specs.Tenants.{IsReason, NameTenants}
use Rattle.silo_words.specs.Words.{AskForAnswering, AskForAudit, AskForData, AskForMigration, AskForRows, AskForServing, AskForSteps}
use Rattle.silo_words.specs.declared.task.Telling.{Telling}
use Rattle.silo_program.specs.Arguments.{IsAgesFault, IsTenantsFault}
use Rattle.journal_commands.specs.Auditing.{AuditsFile}
use Rattle.command_parts.specs.declared.failure.End.TheVariants as end
use Rattle.command_parts.specs.declared.failure.ProgramFault.TheVariants as fault
use Rattle.silo_words.specs.declared.ages.AgesFault.{AgesFault}
use Rattle.silo_words.specs.declared.ages.AgesFault.TheVariants as ages
use Rattle.silo_words.specs.declared.tenants.TenantsFault.{TenantsFault}
use Rattle.silo_words.specs.declared.tenants.TenantsFault.TheVariants as tenants
use Rattle.journal_commands.specs.Migrating.{IsMigrationFault}
use Rattle.rows_command.specs.Rows.{IsRowsFault, checkpoint_path}

-- ---- what was written to files

module _ (words : List Text) (files : FileClaims) (log : LogClaims) (from left : Option (List ℕ)) (workers age : ℕ) (given : Option Text) (tenants : Table) (ages : Ages) (arguments : List Text) where
  -- of what the words ask for
  pub files_left : (journal : Option Text) (telling : Telling) → AskForServing words workers age given journal telling arguments → NameTenants arguments tenants × NamesAges given ages → WritesJournalAtMost (program_start tenants age ages) files journal from left
      → LeavesFiles words files log from left
  files_left None telling asked named same = inl same
  files_left (Some path) telling asked named is =
      ⊎_elim (λ same. inl same)
      (λ written. inr (inl (record {
        workers = workers;
        tenants = tenants;
        age = age;
        ages = ages;
        path = path;
        telling = telling;
        asked = record { given = given; arguments = arguments; asked = asked; named = named.0; aged = named.1 };
        written = written;
      }))) is

-- no journal is asked for
pub untouched : (words : List Text) (files : FileClaims) (log : LogClaims) (from left : Option (List ℕ)) → LeavesFiles words files log from left → ((path : Text) → ¬ AskForJournal words path) → ((folder : Text) → ¬ AskForFolder words folder)
    → files.same
untouched words files log from left (inl same) never none = same
untouched words files log from left (inr (inl w)) never none = absurd (never w.path (inl (w.workers, w.age, w.asked.given, w.telling, w.asked.arguments, w.asked.asked)))
untouched words files log from left (inr (inr (inl w))) never none = absurd (never w.path (inr (w.age, w.asked.given, w.sends, w.asked.arguments, w.asked.asked)))
untouched words files log from left (inr (inr (inr k))) never none = absurd (none k.folder (k.age, k.asked.given, k.sends, k.sync, k.asked.arguments, k.asked.asked))

-- ---- tenants and ages aren't named

-- by the tenant arguments
pub tenants_not_named : (given : Option Text) (arguments : List Text) (why : TenantsFault) (told : ProgramFault) → IsReason arguments why → IsTenantsFault why told → IsNamingFault given arguments told
tenants_not_named given arguments tenants.Memory told reason is = subst (λ (f : ProgramFault). IsNamingFault given arguments f) (sym is) refl
tenants_not_named given arguments (tenants.Refused number) (fault.Failed why) reason is = is
tenants_not_named given arguments (tenants.Refused number) (fault.Refused text) reason is = inl (number, reason, is)
tenants_not_named given arguments (tenants.Refused number) (fault.NoJournal text) reason is = absurd is

-- by the text of ages, where the arguments name tenants
pub ages_not_named : (given : Option Text) (arguments : List Text) (tenants : Table) → NameTenants arguments tenants → (why : AgesFault) (told : ProgramFault) → IsWhyNoAges given why → IsAgesFault why told
    → IsNamingFault given arguments told
ages_not_named given arguments tenants named ages.Memory told refused is = subst (λ (f : ProgramFault). IsNamingFault given arguments f) (sym is) refl
ages_not_named given arguments tenants named ages.Refused (fault.Failed why) refused is = is
ages_not_named given arguments tenants named ages.Refused (fault.Refused text) refused is = inr (record { tenants = tenants; named = named; refused = refused }, is)
ages_not_named given arguments tenants named ages.Refused (fault.NoJournal text) refused is = absurd is

module _ (words : List Text) (from : Option (List ℕ)) (reading : Reading) (before : Option (List ℕ)) (writing : WriterCalls) (given : Option Text) (arguments : List Text) where
  -- and so steps aren't taken
  pub steps_refused : (age : ℕ) → AskForSteps words age given arguments → (told : ProgramFault) → IsNamingFault given arguments told → IsStreamFault words told from from reading before before writing
  steps_refused age asked (fault.Failed why) is = subst (λ (c : Cause). IsStreamFault words (fault.Failed c) from from reading before before writing) (sym is) (inl (Keeps-refl from, Keeps-refl before))
  steps_refused age asked (fault.Refused text) is = (inr (record { given = given; arguments = arguments; asked = inl (age, asked); why = is }), Keeps-refl from, Keeps-refl before)
  steps_refused age asked (fault.NoJournal text) is = absurd is

  module _ (files : FileClaims) (same : files.same) where
    -- nor lines served
    pub serving_refused : (workers age : ℕ) (journal : Option Text) (telling : Telling) → AskForServing words workers age given journal telling arguments → (told : ProgramFault) → IsNamingFault given arguments told
        → IsServingFault words files told from from reading before before writing
    serving_refused workers age journal telling asked (fault.Failed why) is =
        subst (λ (c : Cause). IsServingFault words files (fault.Failed c) from from reading before before writing) (sym is) (inl (Keeps-refl from, Keeps-refl before))
    serving_refused workers age journal telling asked (fault.Refused text) is =
        (inr (record { given = given; arguments = arguments; asked = inr (inl (workers, age, journal, telling, asked)); why = is }), Keeps-refl from, Keeps-refl before, same)
    serving_refused workers age journal telling asked (fault.NoJournal text) is = absurd is

    -- nor answered at once
    pub answering_refused : (age sends : ℕ) (journal : Option Text) → AskForAnswering words age given sends journal arguments → (told : ProgramFault) → IsNamingFault given arguments told
        → IsAnsweringFault words files told from from reading before before writing
    answering_refused age sends journal asked (fault.Failed why) is =
        subst (λ (c : Cause). IsAnsweringFault words files (fault.Failed c) from from reading before before writing) (sym is) (inl (Keeps-refl from, Keeps-refl before))
    answering_refused age sends journal asked (fault.Refused text) is =
        (inr (record { given = given; arguments = arguments; asked = inr (inr (inl (age, sends, journal, asked))); why = is }), Keeps-refl from, Keeps-refl before, same)
    answering_refused age sends journal asked (fault.NoJournal text) is = absurd is

    -- nor with a folder of data
    pub folder_refused : (log : LogClaims) (age sends : ℕ) (folder : Text) (sync : Bool) → AskForData words age given sends folder sync arguments → (told : ProgramFault) → IsNamingFault given arguments told
        → IsFolderFault words files log told from from reading before before writing
    folder_refused log age sends folder sync asked (fault.Failed why) is =
        subst (λ (c : Cause). IsFolderFault words files log (fault.Failed c) from from reading before before writing) (sym is) (inl (Keeps-refl from, Keeps-refl before))
    folder_refused log age sends folder sync asked (fault.Refused text) is =
        inl (inr (record { given = given; arguments = arguments; asked = inr (inr (inr (age, sends, folder, sync, asked))); why = is }), Keeps-refl from, Keeps-refl before, same)
    folder_refused log age sends folder sync asked (fault.NoJournal text) is = absurd is

-- ---- a text was asked for

module _ (words : List Text) (files : FileClaims) (log : LogClaims) (from left before after : Option (List ℕ)) where
  shown : (how : End) → (how ≡ end.Well) × ShowsText words from left before after → EndsAs how words files log from left before after
  shown how is = subst (λ (e : End). EndsAs e words files log from left before after) (sym is.0) (inl (inl is.1))

  pub ends_shown : {E : Type 0} (result : Result End E) → IfOk result (λ how. (how ≡ end.Well) × ShowsText words from left before after) → IfOk result (λ how. EndsAs how words files log from left before after)
  ends_shown result is = IfOk-weaker result (λ how. (how ≡ end.Well) × ShowsText words from left before after) (λ how. EndsAs how words files log from left before after) shown is

module _ (words : List Text) (files : FileClaims) (log : LogClaims) (from left : Option (List ℕ)) (reading : Reading) (before after : Option (List ℕ)) (writing : WriterCalls) (same : files.same) where
  stream_fault : (why : ProgramFault) → IsStreamFault words why from left reading before after writing → IsFaultOf words files log why from left reading before after writing
  stream_fault (fault.Failed why) is = ⊎_elim (λ early. inl (inl early)) (λ steps. inr (inl steps)) is
  stream_fault (fault.Refused text) is = inl (is.0, is.1, is.2, same)
  stream_fault (fault.NoJournal text) is = absurd is

  pub stream_faults : {T : Type 0} (result : Result T ProgramFault) → IfErr result (λ why. IsStreamFault words why from left reading before after writing) → IfErr result (λ why. IsFaultOf words files log why from left reading before after writing)
  stream_faults result is = IfErr-weaker result (λ why. IsStreamFault words why from left reading before after writing) (λ why. IsFaultOf words files log why from left reading before after writing) stream_fault is

-- ---- lines aren't answered at once

module _ (words : List Text) (files : FileClaims) (log : LogClaims) (from left : Option (List ℕ)) (reading : Reading) (before after : Option (List ℕ)) (writing : WriterCalls) where
  answering_fault : (why : ProgramFault) → IsAnsweringFault words files why from left reading before after writing → IsFaultOf words files log why from left reading before after writing
  answering_fault (fault.Failed why) is = ⊎_elim (λ early. inl (inl early)) (λ fails. inr (inr (inr (inl fails)))) is
  answering_fault (fault.Refused text) is = inl is
  answering_fault (fault.NoJournal text) is = absurd is

  pub answering_faults : {T : Type 0} (result : Result T ProgramFault) → IfErr result (λ why. IsAnsweringFault words files why from left reading before after writing) → IfErr result (λ why. IsFaultOf words files log why from left reading before after writing)
  answering_faults result is =
      IfErr-weaker result (λ why. IsAnsweringFault words files why from left reading before after writing) (λ why. IsFaultOf words files log why from left reading before after writing) answering_fault is

-- ---- lines aren't served

module _ (words : List Text) (files : FileClaims) (log : LogClaims) (from left : Option (List ℕ)) (reading : Reading) (before after : Option (List ℕ)) (writing : WriterCalls) where
  serving_fault : (why : ProgramFault) → IsServingFault words files why from left reading before after writing → IsFaultOf words files log why from left reading before after writing
  serving_fault (fault.Failed why) is = ⊎_elim (λ early. inl (inl early)) (λ fails. inr (inr (inl fails))) is
  serving_fault (fault.Refused text) is = inl is
  serving_fault (fault.NoJournal text) is = absurd is

  pub serving_faults : {T : Type 0} (result : Result T ProgramFault) → IfErr result (λ why. IsServingFault words files why from left reading before after writing) → IfErr result (λ why. IsFaultOf words files log why from left reading before after writing)
  serving_faults result is =
      IfErr-weaker result (λ why. IsServingFault words files why from left reading before after writing) (λ why. IsFaultOf words files log why from left reading before after writing) serving_fault is

-- ---- lines are answered at once

module _ (words : List Text) (files : FileClaims) (log : LogClaims) (from left : Option (List ℕ)) (age : ℕ) (given : Option Text) (sends : ℕ) (tenants : Table) (ages : Ages) (arguments : List Text) where
  -- of what the words ask for
  pub answered_left : (journal : Option Text) → AskForAnswering words age given sends journal arguments → NameTenants arguments tenants × NamesAges given ages → WritesJournalsAtMost (program_start tenants age ages) sends files journal from
      → LeavesFiles words files log from left
  answered_left None asked named same = inl same
  answered_left (Some path) asked named is =
      ⊎_elim (λ same. inl same)
      (λ written. inr (inr (inl (record {
        tenants = tenants;
        age = age;
        ages = ages;
        sends = sends;
        path = path;
        asked = record { given = given; arguments = arguments; asked = asked; named = named.0; aged = named.1 };
        written = written;
      })))) is

-- ---- lines are answered at once, with a folder of data

module _ (words : List Text) (files : FileClaims) (log : LogClaims) (from left : Option (List ℕ)) (age : ℕ) (given : Option Text) (sends : ℕ) (folder : Text) (sync : Bool) (tenants : Table) (ages : Ages) (arguments : List Text) where
  -- what the words ask for lasts
  pub folder_left : AskForData words age given sends folder sync arguments → NameTenants arguments tenants × NamesAges given ages → (sync ≡ true → FolderLasts (program_start tenants age ages) sends log) → LeavesFiles words files log from left
  folder_left asked named lasts = inr (inr (inr (record {
    tenants = tenants;
    age = age;
    ages = ages;
    sends = sends;
    folder = folder;
    sync = sync;
    asked = record { given = given; arguments = arguments; asked = asked; named = named.0; aged = named.1 };
    lasts = lasts;
  })))

  keeping : AskForData words age given sends folder sync arguments → NameTenants arguments tenants × NamesAges given ages → AskForKeeping words tenants age ages sends folder sync
  keeping asked named = record { given = given; arguments = arguments; asked = asked; named = named.0; aged = named.1 }

  module _ (before after : Option (List ℕ)) where
    -- nothing was read or written yet, where it stops before any line is answered
    pub unbegun : (reading : Reading) (why : DataFault) → ((own : Start) (view : LogView) → RunFailsBy own sends (since view log.new) why from left reading before after → ⊥)
        → FolderFailsBy (program_start tenants age ages) sends log why from left reading before after → IsUnbegun from left before after
    unbegun reading why never (inl start) = start.1
    unbegun reading why never (inr run) = ⊎_elim (λ start. start.1) (λ stops. absurd (never run.own run.view stops)) run.holds

    -- and there is no memory for what is to be said
    lacks_memory : (reading : Reading) (writing : WriterCalls) (why : Cause) → why ≡ cause.Memory → IsUnbegun from left before after → IsFolderFault words files log (fault.Failed why) from left reading before after writing
    lacks_memory reading writing why is none = subst (λ (c : Cause). IsFolderFault words files log (fault.Failed c) from left reading before after writing) (sym is) (inl (none.0, none.1))

    -- all was answered
    pub folder_answered : AskForData words age given sends folder sync arguments → NameTenants arguments tenants × NamesAges given ages → FolderAnswers (program_start tenants age ages) sends log from left before after
        → (sync ≡ true → FolderHas (program_start tenants age ages) sends log from) → AnswersInFolder words log from left before after
    folder_answered asked named answered has = record {
      tenants = tenants;
      age = age;
      ages = ages;
      sends = sends;
      folder = folder;
      sync = sync;
      asked = keeping asked named;
      answered = answered;
      has = has;
    }

    -- no silo goes on with it, and this is said
    refused_by : (Says : DataFault → Text → Type 0) → AskForData words age given sends folder sync arguments → NameTenants arguments tenants × NamesAges given ages
        → (reading : Reading) (why : DataFault) (text : Text) → FolderFailsBy (program_start tenants age ages) sends log why from left reading before after → Says why text
        → RefusesData Says words log text from left reading before after
    refused_by Says asked named reading why text fails said =
        record { tenants = tenants; age = age; ages = ages; sends = sends; folder = folder; sync = sync; asked = keeping asked named; why = why; refused = fails; said = said }

    -- it wasn't, and this is said
    pub folder_failed : (reading : Reading) (writing : WriterCalls) → AskForData words age given sends folder sync arguments → NameTenants arguments tenants × NamesAges given ages → (why : DataFault) (told : ProgramFault) → IsDataFault why told
        → FolderFailsBy (program_start tenants age ages) sends log why from left reading before after → IsFolderFault words files log told from left reading before after writing
    folder_failed reading writing asked named (data_fault.Failed why) told is fails = subst (λ (f : ProgramFault). IsFolderFault words files log f from left reading before after writing) (sym is)
        (inr (record { tenants = tenants; age = age; ages = ages; sends = sends; folder = folder; sync = sync; asked = keeping asked named; failed = fails }))
    folder_failed reading writing asked named data_fault.OtherWords (fault.Failed why) is fails = lacks_memory reading writing why is (unbegun reading data_fault.OtherWords (λ own view r. r) fails)
    folder_failed reading writing asked named data_fault.OtherWords (fault.Refused text) is fails =
        inr (refused_by SaysMisfit asked named reading data_fault.OtherWords (string_bytes text) fails is)
    folder_failed reading writing asked named data_fault.OtherWords (fault.NoJournal text) is fails = absurd is
    folder_failed reading writing asked named (data_fault.HasTenant name) (fault.Failed why) is fails = lacks_memory reading writing why is (unbegun reading (data_fault.HasTenant name) (λ own view r. r) fails)
    folder_failed reading writing asked named (data_fault.HasTenant name) (fault.Refused text) is fails = inr (refused_by SaysMisfit asked named reading (data_fault.HasTenant name) (string_bytes text) fails is)
    folder_failed reading writing asked named (data_fault.HasTenant name) (fault.NoJournal text) is fails = absurd is
    folder_failed reading writing asked named data_fault.NoCheckpoint (fault.Failed why) is fails = lacks_memory reading writing why is (unbegun reading data_fault.NoCheckpoint (λ own view r. r) fails)
    folder_failed reading writing asked named data_fault.NoCheckpoint (fault.Refused text) is fails = absurd is
    folder_failed reading writing asked named data_fault.NoCheckpoint (fault.NoJournal text) is fails = refused_by SaysFault asked named reading data_fault.NoCheckpoint (string_bytes text) fails is
    folder_failed reading writing asked named data_fault.NoLog (fault.Failed why) is fails = lacks_memory reading writing why is (unbegun reading data_fault.NoLog (λ own view r. r) fails)
    folder_failed reading writing asked named data_fault.NoLog (fault.Refused text) is fails = absurd is
    folder_failed reading writing asked named data_fault.NoLog (fault.NoJournal text) is fails = refused_by SaysFault asked named reading data_fault.NoLog (string_bytes text) fails is
    folder_failed reading writing asked named (data_fault.Refused line) (fault.Failed why) is fails = lacks_memory reading writing why is (unbegun reading (data_fault.Refused line) (λ own view r. r) fails)
    folder_failed reading writing asked named (data_fault.Refused line) (fault.Refused text) is fails = absurd is
    folder_failed reading writing asked named (data_fault.Refused line) (fault.NoJournal text) is fails = refused_by SaysFault asked named reading (data_fault.Refused line) (string_bytes text) fails is
    folder_failed reading writing asked named (data_fault.Otherwise line) (fault.Failed why) is fails = lacks_memory reading writing why is (unbegun reading (data_fault.Otherwise line) (λ own view r. r) fails)
    folder_failed reading writing asked named (data_fault.Otherwise line) (fault.Refused text) is fails = absurd is
    folder_failed reading writing asked named (data_fault.Otherwise line) (fault.NoJournal text) is fails = refused_by SaysFault asked named reading (data_fault.Otherwise line) (string_bytes text) fails is

-- ---- how lines that were served end

module _ (words : List Text) (files : FileClaims) (telling : Telling) (from left before after : Option (List ℕ)) where
  -- of what the words ask for
  pub input_served : (workers age : ℕ) (given journal : Option Text) (tenants : Table) (ages : Ages) (arguments : List Text) (text : List ℕ) → AskForServing words workers age given journal telling arguments
      → NameTenants arguments tenants × NamesAges given ages → ServesLanes (program_start tenants age ages) files journal telling from left before after text → ServesInput words files telling from left before after text
  input_served workers age given journal tenants ages arguments text asked named served = record {
    workers = workers;
    tenants = tenants;
    age = age;
    ages = ages;
    journal = journal;
    asked = record { given = given; arguments = arguments; asked = asked; named = named.0; aged = named.1 };
    served = served;
  }

module _ (words : List Text) (files : FileClaims) (log : LogClaims) (telling : Telling) (from left before after : Option (List ℕ)) where
  served_end : (how : End) → EndsServing how words files telling from left before after → EndsAs how words files log from left before after
  served_end end.Well is = inr (inr (inl (subst (λ (t : Telling). ServesInput words files t from left before after []) is.0 is.1)))
  served_end (end.Told text) is = (telling, is.0, is.1)
  served_end end.Differs is = absurd is

  pub ends_served : {E : Type 0} (result : Result End E) → IfOk result (λ how. EndsServing how words files telling from left before after) → IfOk result (λ how. EndsAs how words files log from left before after)
  ends_served result is = IfOk-weaker result (λ how. EndsServing how words files telling from left before after) (λ how. EndsAs how words files log from left before after) served_end is

-- a journal was audited
module _ (words : List Text) (files : FileClaims) (log : LogClaims) (path : Text) (asked : AskForAudit words path) (same : files.same) (from left before after : Option (List ℕ)) (kept : Keeps from left) where
  audited_end : (how : End) → AuditsFile (files.may_hold path) how before after → EndsAs how words files log from left before after
  audited_end end.Well is = inr (inr (inr (inr (inr (record { path = path; asked = asked; kept = kept; unwritten = same; audited = is })))))
  audited_end (end.Told text) is = absurd is.found
  audited_end end.Differs is = record { path = path; asked = asked; kept = kept; unwritten = same; audited = is }

  pub ends_audited : {E : Type 0} (result : Result End E) → IfOk result (λ how. AuditsFile (files.may_hold path) how before after) → IfOk result (λ how. EndsAs how words files log from left before after)
  ends_audited result is = IfOk-weaker result (λ how. AuditsFile (files.may_hold path) how before after) (λ how. EndsAs how words files log from left before after) audited_end is

-- ---- it isn't migrated

module _ (words : List Text) (files : FileClaims) (log : LogClaims) (path : Text) (asked : AskForMigration words path) (same : files.same) (from left : Option (List ℕ)) (reading : Reading) (before after : Option (List ℕ)) (writing : WriterCalls) (kept : Keeps from left) where
  migration_fault : (why : ProgramFault) → IsMigrationFault (files.may_hold path) (files.may_fail path) why before after writing → IsFaultOf words files log why from left reading before after writing
  migration_fault (fault.Failed why) is = inl (inr (inl (record { path = path; asked = asked; kept = kept; unwritten = same; failed = is })))
  migration_fault (fault.Refused text) is = absurd is
  migration_fault (fault.NoJournal text) is = inl (inl (record { path = path; asked = inr asked; kept = kept; unwritten = same; refused = is }))

  pub migration_faults : {T : Type 0} (result : Result T ProgramFault) → IfErr result (λ why. IsMigrationFault (files.may_hold path) (files.may_fail path) why before after writing)
      → IfErr result (λ why. IsFaultOf words files log why from left reading before after writing)
  migration_faults result is =
      IfErr-weaker result (λ why. IsMigrationFault (files.may_hold path) (files.may_fail path) why before after writing) (λ why. IsFaultOf words files log why from left reading before after writing) migration_fault is

-- ---- rows aren't printed

module _ (words : List Text) (files : FileClaims) (log : LogClaims) (folder : Text) (tenant : Option Text) (asked : AskForRows words folder tenant) (same : files.same) (from left : Option (List ℕ)) (reading : Reading) (before after : Option (List ℕ)) (writing : WriterCalls) (kept : Keeps from left) where
  rows_fault : (why : ProgramFault) → IsRowsFault (files.may_hold (checkpoint_path folder)) (files.may_fail (checkpoint_path folder)) tenant why before after writing → IsFaultOf words files log why from left reading before after writing
  rows_fault (fault.Failed why) is = inl (inr (inr (record { folder = folder; tenant = tenant; asked = asked; kept = kept; unwritten = same; failed = is })))
  rows_fault (fault.Refused text) is = absurd is
  rows_fault (fault.NoJournal text) is = inl (inr (record { folder = folder; tenant = tenant; asked = asked; kept = kept; unwritten = same; refused = is }))

  pub rows_faults : {T : Type 0} (result : Result T ProgramFault) → IfErr result (λ why. IsRowsFault (files.may_hold (checkpoint_path folder)) (files.may_fail (checkpoint_path folder)) tenant why before after writing)
      → IfErr result (λ why. IsFaultOf words files log why from left reading before after writing)
  rows_faults result is =
      IfErr-weaker result (λ why. IsRowsFault (files.may_hold (checkpoint_path folder)) (files.may_fail (checkpoint_path folder)) tenant why before after writing)
      (λ why. IsFaultOf words files log why from left reading before after writing) rows_fault is
