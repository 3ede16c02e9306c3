-- What the words of a command line ask for, by clap's own account of what it makes of words.
use Rattle.std.specs.Prelude.{◌≡◌, ◌≢◌, ◌≤◌, ◌⊎◌, ◌++◌, ◌∷◌, ⊤, ℕ, Bool, true, false, List, [], Option, Some, None, codes, map, slice_get}
use Rattle.std.specs.Prelude.{not, slice_index, String, string_bytes, unwrap_or, if◌then◌else◌}
use Rattle.std.specs.Option.{option_map}
use Rattle.std.specs.Str.Parse.{IsNumeral, digits_value, without_leading_plus}
use Rattle.grain_id.specs.Names.{same_text}
use Rattle.clap.specs.Lexer.{usize_max}
use Rattle.clap.specs.Words.{App, IsAmong, Row, Rule, Shape, Text, all_of, fault_of, first_of, new_app, new_rule, one_of, subcommand_of}
use Rattle.clap.specs.Words.{with_rule, with_subcommand}
use Rattle.clap.specs.declared.builder.action.ArgAction.TheVariants.{Append, SetTrue}
use Rattle.clap.specs.declared.builder.value_parser.ValueParser.TheVariants.{Unsigned}
use Rattle.clap.specs.declared.error.kind.ErrorKind.{ErrorKind}
use Rattle.clap.specs.declared.error.kind.ErrorKind.TheVariants.{DisplayHelp, DisplayVersion, OutOfMemory}
use Rattle.silo_words.specs.declared.fault.TheConstants.{ANSWER_EXAMPLE, AUDIT_EXAMPLE, MIGRATE_EXAMPLE, ROWS_EXAMPLE, SERVE_EXAMPLE}
use Rattle.silo_words.specs.declared.fault.TheConstants.{SILO_EXAMPLE, STEPS_EXAMPLE}
use Rattle.silo_words.specs.declared.fault.WordsFault.{WordsFault}
use Rattle.silo_words.specs.declared.fault.WordsFault.TheVariants as fault
use Rattle.silo_words.specs.declared.task.Data.{Data}
use Rattle.silo_words.specs.declared.task.Task.{Task}
use Rattle.silo_words.specs.declared.task.Task.TheVariants as task
use Rattle.silo_words.specs.declared.task.Telling.{Telling}

-- ---- the command line

-- `--age MS`, a number from 1 to 86,400,000
abbrev pub age_rule : Rule
age_rule = record (new_rule (codes "age")) { long = Some (codes "age"); value_names = 1; parser = Some (Unsigned 1 86400000) }

-- `--ages KIND=MS,..`, a text
abbrev pub ages_rule : Rule
ages_rule = record (new_rule (codes "ages")) { long = Some (codes "ages"); value_names = 1 }

-- `--workers N`, a number from 1 to 64
abbrev pub workers_rule : Rule
workers_rule = record (new_rule (codes "workers")) { long = Some (codes "workers"); value_names = 1; parser = Some (Unsigned 1 64) }

-- `--sends N`, a number from 0 to 1,000,000
abbrev pub sends_rule : Rule
sends_rule = record (new_rule (codes "sends")) { long = Some (codes "sends"); value_names = 1; parser = Some (Unsigned 0 1000000) }

-- `--journal PATH`, a text
abbrev pub journal_rule : Rule
journal_rule = record (new_rule (codes "journal")) { long = Some (codes "journal"); value_names = 1 }

-- `--data DIR`, a text, and `--no-sync`, which takes none
abbrev pub data_rule : Rule
data_rule = record (new_rule (codes "data")) { long = Some (codes "data"); value_names = 1 }

abbrev pub no_sync_rule : Rule
no_sync_rule = record (new_rule (codes "no-sync")) { long = Some (codes "no-sync"); action = Some SetTrue }

-- `--explain-lines` and `--summary`, which take no text
abbrev pub explain_rule : Rule
explain_rule = record (new_rule (codes "explain-lines")) { long = Some (codes "explain-lines"); action = Some SetTrue }

abbrev pub summary_rule : Rule
summary_rule = record (new_rule (codes "summary")) { long = Some (codes "summary"); action = Some SetTrue }

-- `TENANT:ACT:MAIL..`, one text or more
abbrev pub tenants_rule : Rule
tenants_rule = record (new_rule (codes "tenants")) {
  action = Some Append;
  range = Some (record { start_inclusive = 1; end_inclusive = usize_max });
  value_names = 1;
  required = true;
}

-- `PATH`, one text
abbrev pub path_rule : Rule
path_rule = record (new_rule (codes "path")) { value_names = 1; required = true }

-- `DIR`, one text, and `TENANT`, which may be left out
abbrev pub folder_rule : Rule
folder_rule = record (new_rule (codes "folder")) { value_names = 1; required = true }

abbrev pub tenant_rule : Rule
tenant_rule = record (new_rule (codes "tenant")) { value_names = 1 }

-- `steps`, with the options for the ages and the tenant arguments
abbrev pub steps_app : App
steps_app = with_rule (with_rule (with_rule (new_app (codes "steps")) age_rule) ages_rule) tenants_rule

-- `answer`, with these and four options more: at first with the options alone, but for the last two
abbrev pub journaled_app : App
journaled_app = with_rule (with_rule (with_rule (with_rule (new_app (codes "answer")) age_rule) ages_rule) sends_rule) journal_rule

abbrev pub answer_app : App
answer_app = with_rule (with_rule (with_rule journaled_app data_rule) no_sync_rule) tenants_rule

-- `serve`, with those of `steps` and four options more: at first with the options alone, but for the last two
abbrev pub kept_app : App
kept_app = with_rule (with_rule (with_rule (with_rule (new_app (codes "serve")) workers_rule) age_rule) ages_rule) journal_rule

abbrev pub serve_app : App
serve_app = with_rule (with_rule (with_rule kept_app explain_rule) summary_rule) tenants_rule

-- `audit`, with a path
abbrev pub audit_app : App
audit_app = with_rule (new_app (codes "audit")) path_rule

-- `migrate`, with a path
abbrev pub migrate_app : App
migrate_app = with_rule (new_app (codes "migrate")) path_rule

-- `rows`, with a folder, and perhaps a tenant
abbrev pub rows_app : App
rows_app = with_rule (with_rule (new_app (codes "rows")) folder_rule) tenant_rule

-- `silo`, which has a version and wants one of the six
abbrev pub silo_shape : Shape
silo_shape = record (new_app (codes "silo")).top { has_version = true; subcommand_required = true }

-- `silo` with the first, with the first two, three, four and five, and with all
abbrev pub stepping_app : App
stepping_app = with_subcommand (record (new_app (codes "silo")) { top = silo_shape }) steps_app.top

abbrev pub answering_app : App
answering_app = with_subcommand stepping_app answer_app.top

abbrev pub serving_app : App
serving_app = with_subcommand answering_app serve_app.top

abbrev pub auditing_app : App
auditing_app = with_subcommand serving_app audit_app.top

abbrev pub migrating_app : App
migrating_app = with_subcommand auditing_app migrate_app.top

abbrev pub silo_app : App
silo_app = with_subcommand migrating_app rows_app.top

-- ---- the words

module _ {Z : Type 0} where
  -- the texts of the words
  abbrev pub texts_of : List (String Z) → List Text
  texts_of = map (λ word. string_bytes word)

-- clap takes the words
abbrev pub AreTaken : List Text → Type 0
AreTaken words = fault_of silo_app words ≡ []

-- the words ask for help
abbrev pub AskForHelp : List Text → Type 0
AskForHelp words = IsAmong DisplayHelp (fault_of silo_app words)

-- the words ask for the version
abbrev pub AskForVersion : List Text → Type 0
AskForVersion words = IsAmong DisplayVersion (fault_of silo_app words)

-- clap refuses the words: they ask for no text, and something is wrong with them
abbrev pub AreRefused : List Text → Type 0
AreRefused words = (kind : ErrorKind) × (kind ≢ DisplayHelp) × (kind ≢ DisplayVersion) × IsAmong kind (fault_of silo_app words)

-- ---- numbers

-- the text writes the number, in decimal digits with or without a `+` before them
abbrev pub Writes : Text → ℕ → Type 0
Writes text number = IsNumeral 10 (without_leading_plus text) × (digits_value 10 (without_leading_plus text) ≡ number)

-- the usual number if none is given, and otherwise the one that is written, if it is from the least to the most
abbrev pub IsNumber : ℕ → ℕ → ℕ → Option Text → ℕ → Type 0
IsNumber usual least most None number = number ≡ usual
IsNumber usual least most (Some text) number = Writes text number × (least ≤ number) × (number ≤ most)

-- the milliseconds of an age, 900,000 if none are given
abbrev pub IsAge : Option Text → ℕ → Type 0
IsAge given age = IsNumber 900000 1 86400000 given age

-- how many workers, 4 if no number is given
abbrev pub IsWorkers : Option Text → ℕ → Type 0
IsWorkers given workers = IsNumber 4 1 64 given workers

-- the text of a number, if one is given, has no sign, and no zero before other digits
abbrev pub IsPlain : Option Text → Type 0
IsPlain None = ⊤
IsPlain (Some text) = (text ≡ codes "0") ⊎ ((49 ≤ slice_index text 0) × (slice_index text 0 ≤ 57))

-- how many deliveries behind a line, by the rows that were found: 1,000 if no number is given
abbrev pub IsSends : List Row → ℕ → Type 0
IsSends rows sends = IsNumber 1000 0 1000000 (one_of (codes "sends") rows) sends × IsPlain (first_of (codes "sends") rows)

-- the age that was found is none
abbrev pub IsNoAge : List Row → Type 0
IsNoAge rows = (age : ℕ) → ¬ IsAge (one_of (codes "age") rows) age

-- the number of workers that was found is none
abbrev pub IsNoWorkers : List Row → Type 0
IsNoWorkers rows = (workers : ℕ) → ¬ IsWorkers (one_of (codes "workers") rows) workers

-- the number of deliveries that was found is none
abbrev pub IsNoSends : List Row → Type 0
IsNoSends rows = (sends : ℕ) → ¬ IsSends rows sends

-- ---- flags

-- a flag is there: clap finds the text `true` of it, and otherwise another
abbrev pub is_set : Option Text → Bool
is_set None = false
is_set (Some text) = same_text text (codes "true")

-- what is to be told is what the flags ask for
abbrev pub IsTelling : List Row → Telling → Type 0
IsTelling rows telling = (telling.explain_lines ≡ is_set (first_of (codes "explain-lines") rows))
    × (telling.summary ≡ is_set (first_of (codes "summary") rows))

-- whether the flag is there by which replies don't wait for the disk
abbrev pub is_unsynced : List Row → Bool
is_unsynced rows = is_set (first_of (codes "no-sync") rows)

-- nothing is to be told
abbrev pub nothing_told : Telling
nothing_told = record { explain_lines = false; summary = false }

-- ---- what is asked of what clap found: a subcommand's name, and the rows of its options and arguments

-- the tenant arguments that were found
abbrev pub tenants_in : List Row → List Text
tenants_in rows = unwrap_or (all_of (codes "tenants") rows) []

-- `steps`, with the age, the text of the kinds' ages and the tenant arguments that were found
pub record FindSteps (name : Text) (rows : List Row) (age : ℕ) (ages : Option Text) (tenants : List Text) : Type 0 where
  pub command : name ≡ codes "steps"
  pub within : IsAge (one_of (codes "age") rows) age
  pub aged : ages ≡ first_of (codes "ages") rows
  pub named : tenants ≡ tenants_in rows

-- `answer`, with the age, the text of the kinds' ages, the deliveries, the journal's path and the tenant arguments that were found,
-- and with no folder of data
pub record FindAnswering (name : Text) (rows : List Row) (age : ℕ) (ages : Option Text) (sends : ℕ) (journal : Option Text)
    (tenants : List Text) : Type 0 where
  pub command : name ≡ codes "answer"
  pub within : IsAge (one_of (codes "age") rows) age
  pub aged : ages ≡ first_of (codes "ages") rows
  pub behind : IsSends rows sends
  pub kept : journal ≡ first_of (codes "journal") rows
  pub named : tenants ≡ tenants_in rows
  pub no_data : first_of (codes "data") rows ≡ None
  pub synced : is_unsynced rows ≡ false

-- `answer`, with the age, the text of the kinds' ages, the deliveries, the folder of data and the tenant arguments that were found, and
-- with no journal; replies wait for the disk, unless the flag is there
pub record FindData (name : Text) (rows : List Row) (age : ℕ) (ages : Option Text) (sends : ℕ) (folder : Text) (sync : Bool)
    (tenants : List Text) : Type 0 where
  pub command : name ≡ codes "answer"
  pub within : IsAge (one_of (codes "age") rows) age
  pub aged : ages ≡ first_of (codes "ages") rows
  pub behind : IsSends rows sends
  pub given : Some folder ≡ first_of (codes "data") rows
  pub synced : sync ≡ not (is_unsynced rows)
  pub no_journal : first_of (codes "journal") rows ≡ None
  pub named : tenants ≡ tenants_in rows

-- `serve`, with the workers, the age, the text of the kinds' ages, the journal's path, what is to be told and the tenant arguments
-- that were found
pub record FindServing (name : Text) (rows : List Row) (workers age : ℕ) (ages journal : Option Text) (telling : Telling)
    (tenants : List Text) : Type 0 where
  pub command : name ≡ codes "serve"
  pub shared : IsWorkers (one_of (codes "workers") rows) workers
  pub within : IsAge (one_of (codes "age") rows) age
  pub aged : ages ≡ first_of (codes "ages") rows
  pub kept : journal ≡ first_of (codes "journal") rows
  pub told : IsTelling rows telling
  pub named : tenants ≡ tenants_in rows

-- `audit`, with the path that was found
pub record FindAudit (name : Text) (rows : List Row) (path : Text) : Type 0 where
  pub command : name ≡ codes "audit"
  pub given : Some path ≡ first_of (codes "path") rows

-- `migrate`, with the path that was found
pub record FindMigration (name : Text) (rows : List Row) (path : Text) : Type 0 where
  pub command : name ≡ codes "migrate"
  pub given : Some path ≡ first_of (codes "path") rows

-- `rows`, with the folder and the tenant, if there is one, that were found
pub record FindRows (name : Text) (rows : List Row) (folder : Text) (tenant : Option Text) : Type 0 where
  pub command : name ≡ codes "rows"
  pub given : Some folder ≡ first_of (codes "folder") rows
  pub chosen : tenant ≡ first_of (codes "tenant") rows

-- ---- what the words ask for

-- what clap finds in the words: the subcommand's name and rows
abbrev pub found_in : List Text → Option (Text × List Row)
found_in words = subcommand_of silo_app words

-- The words ask to take steps under this age and with this text of the kinds' ages, for these tenant arguments.
pub record AskForSteps (words : List Text) (age : ℕ) (ages : Option Text) (tenants : List Text) : Type 0 where
  pub taken : AreTaken words
  pub name : Text
  pub rows : List Row
  pub is : found_in words ≡ Some (name, rows)
  pub found : FindSteps name rows age ages tenants

-- The words ask to answer lines at once under this age and with this text of the kinds' ages, with so many deliveries behind each, for
-- these tenant arguments, and to keep the journal at a path if there is one.
pub record AskForAnswering (words : List Text) (age : ℕ) (ages : Option Text) (sends : ℕ) (journal : Option Text) (tenants : List Text)
    : Type 0 where
  pub taken : AreTaken words
  pub name : Text
  pub rows : List Row
  pub is : found_in words ≡ Some (name, rows)
  pub found : FindAnswering name rows age ages sends journal tenants

-- The words ask to answer lines at once under this age and with this text of the kinds' ages, with so many deliveries behind each, for
-- these tenant arguments, and to keep what was answered in a folder, which replies wait for if they are to.
pub record AskForData (words : List Text) (age : ℕ) (ages : Option Text) (sends : ℕ) (folder : Text) (sync : Bool) (tenants : List Text)
    : Type 0 where
  pub taken : AreTaken words
  pub name : Text
  pub rows : List Row
  pub is : found_in words ≡ Some (name, rows)
  pub found : FindData name rows age ages sends folder sync tenants

-- The words ask so many workers to serve under this age and with this text of the kinds' ages, for these tenant arguments, to keep the
-- journal at a path if there is one, and to tell this of it.
pub record AskForServing (words : List Text) (workers age : ℕ) (ages journal : Option Text) (telling : Telling) (tenants : List Text)
    : Type 0 where
  pub taken : AreTaken words
  pub name : Text
  pub rows : List Row
  pub is : found_in words ≡ Some (name, rows)
  pub found : FindServing name rows workers age ages journal telling tenants

-- The words ask to audit the journal at the path.
pub record AskForAudit (words : List Text) (path : Text) : Type 0 where
  pub taken : AreTaken words
  pub name : Text
  pub rows : List Row
  pub is : found_in words ≡ Some (name, rows)
  pub found : FindAudit name rows path

-- The words ask to migrate the journal at the path.
pub record AskForMigration (words : List Text) (path : Text) : Type 0 where
  pub taken : AreTaken words
  pub name : Text
  pub rows : List Row
  pub is : found_in words ≡ Some (name, rows)
  pub found : FindMigration name rows path

-- The words ask to print what the checkpoint in the folder has: of the tenant, if one is named.
pub record AskForRows (words : List Text) (folder : Text) (tenant : Option Text) : Type 0 where
  pub taken : AreTaken words
  pub name : Text
  pub rows : List Row
  pub is : found_in words ≡ Some (name, rows)
  pub found : FindRows name rows folder tenant

-- what was found makes no task
pub record MakesNoTask (name : Text) (rows : List Row) : Type 0 where
  pub steps : (age : ℕ) (ages : Option Text) (tenants : List Text) → ¬ FindSteps name rows age ages tenants
  pub answering : (age : ℕ) (ages : Option Text) (sends : ℕ) (journal : Option Text) (tenants : List Text)
      → ¬ FindAnswering name rows age ages sends journal tenants
  pub keeping : (age : ℕ) (ages : Option Text) (sends : ℕ) (folder : Text) (sync : Bool) (tenants : List Text)
      → ¬ FindData name rows age ages sends folder sync tenants
  pub serving : (workers age : ℕ) (ages journal : Option Text) (telling : Telling) (tenants : List Text)
      → ¬ FindServing name rows workers age ages journal telling tenants
  pub audit : (path : Text) → ¬ FindAudit name rows path
  pub migration : (path : Text) → ¬ FindMigration name rows path
  pub listing : (folder : Text) (tenant : Option Text) → ¬ FindRows name rows folder tenant

-- What was found in the words makes no task: a number is out of its range, or something that a task wants is not there, or two of its
-- parts don't go together.
pub record IsOutOfRange (words : List Text) : Type 0 where
  pub name : Text
  pub rows : List Row
  pub is : found_in words ≡ Some (name, rows)
  pub none : MakesNoTask name rows

-- clap takes the words, and what it finds makes no task
abbrev pub AskForNothing : List Text → Type 0
AskForNothing words = AreTaken words × IsOutOfRange words

-- ---- what was read

-- the task has what was found
abbrev pub IsTaskOf : Text → List Row → Task → Type 0
IsTaskOf name rows (task.Steps age ages tenants) = FindSteps name rows age (option_map (λ text. text.now) ages)
    (map (λ t. t.now) tenants.items)
IsTaskOf name rows (task.Answer age ages sends journal None tenants) = FindAnswering name rows age (option_map (λ text. text.now) ages)
    sends (option_map (λ path. path.now) journal) (map (λ t. t.now) tenants.items)
IsTaskOf name rows (task.Answer age ages sends journal (Some kept) tenants) = FindData name rows age (option_map (λ text. text.now) ages)
    sends kept.path.now kept.sync (map (λ t. t.now) tenants.items)
IsTaskOf name rows (task.Serve workers age ages journal telling tenants) = FindServing name rows workers age
    (option_map (λ text. text.now) ages) (option_map (λ path. path.now) journal) telling (map (λ t. t.now) tenants.items)
IsTaskOf name rows (task.Audit path) = FindAudit name rows path.now
IsTaskOf name rows (task.Migrate path) = FindMigration name rows path.now
IsTaskOf name rows (task.Rows folder tenant) = FindRows name rows folder.now (option_map (λ text. text.now) tenant)

-- the folder of data that was found, if one was: then there is no journal, and if none was there is no flag of it
abbrev pub IsData : List Row → Option Data → Type 0
IsData rows None = (first_of (codes "data") rows ≡ None) × (is_unsynced rows ≡ false)
IsData rows (Some kept) = (Some kept.path.now ≡ first_of (codes "data") rows) × (kept.sync ≡ not (is_unsynced rows))
    × (first_of (codes "journal") rows ≡ None)

-- why what was found is no task
abbrev pub IsNoTaskFor : Text → List Row → WordsFault → Type 0
IsNoTaskFor name rows fault.Memory = ⊤
IsNoTaskFor name rows (fault.Help text) = ⊥
IsNoTaskFor name rows fault.Version = ⊥
IsNoTaskFor name rows (fault.Wrong text) = MakesNoTask name rows

-- the words ask for the task
abbrev pub AskFor : List Text → Task → Type 0
AskFor words (task.Steps age ages tenants) = AskForSteps words age (option_map (λ text. text.now) ages)
    (map (λ t. t.now) tenants.items)
AskFor words (task.Answer age ages sends journal None tenants) = AskForAnswering words age (option_map (λ text. text.now) ages) sends
    (option_map (λ path. path.now) journal) (map (λ t. t.now) tenants.items)
AskFor words (task.Answer age ages sends journal (Some kept) tenants) = AskForData words age (option_map (λ text. text.now) ages) sends
    kept.path.now kept.sync (map (λ t. t.now) tenants.items)
AskFor words (task.Serve workers age ages journal telling tenants) = AskForServing words workers age (option_map (λ text. text.now) ages)
    (option_map (λ path. path.now) journal) telling (map (λ t. t.now) tenants.items)
AskFor words (task.Audit path) = AskForAudit words path.now
AskFor words (task.Migrate path) = AskForMigration words path.now
AskFor words (task.Rows folder tenant) = AskForRows words folder.now (option_map (λ text. text.now) tenant)

-- the word of that number, the program's name being the first, or nothing
abbrev pub word_at : ℕ → List Text → Text
word_at number words = unwrap_or (slice_get words number) []

-- the name of the command that the words ask for: the second word, and behind `help` the third
abbrev pub command_in : List Text → Text
command_in words = if same_text (word_at 1 words) (codes "help") then word_at 2 words else word_at 1 words

-- the example of the command of that name, and another if it is the name of none
abbrev pub example_of : Text → Text
example_of name = if same_text name (codes "steps") then STEPS_EXAMPLE.now
    else (if same_text name (codes "answer") then ANSWER_EXAMPLE.now
    else (if same_text name (codes "serve") then SERVE_EXAMPLE.now
    else (if same_text name (codes "audit") then AUDIT_EXAMPLE.now
    else (if same_text name (codes "migrate") then MIGRATE_EXAMPLE.now
    else (if same_text name (codes "rows") then ROWS_EXAMPLE.now else SILO_EXAMPLE.now)))))

-- the text ends with the example of the command that the words name, or of none
abbrev pub EndsWithExample : List Text → Text → Type 0
EndsWithExample words text = (front : Text) × (text ≡ front ++ example_of (command_in words))

-- Why the words ask for nothing, unless memory was refused: for help or the version, whose text is shown, or clap refuses them, or what
-- it found makes no task.
abbrev pub IsWhy : List Text → WordsFault → Type 0
IsWhy words fault.Memory = ⊤
IsWhy words (fault.Help text) = AskForHelp words × EndsWithExample words (string_bytes text)
IsWhy words fault.Version = AskForVersion words
IsWhy words (fault.Wrong text) = AreRefused words ⊎ AskForNothing words

-- what an error of clap's on the words becomes
abbrev pub IsFaultBy : List Text → ErrorKind → WordsFault → Type 0
IsFaultBy words kind fault.Memory = ⊤
IsFaultBy words kind (fault.Help text) = (kind ≡ DisplayHelp) × EndsWithExample words (string_bytes text)
IsFaultBy words kind fault.Version = kind ≡ DisplayVersion
IsFaultBy words kind (fault.Wrong text) = (kind ≢ OutOfMemory) × (kind ≢ DisplayHelp) × (kind ≢ DisplayVersion)

-- ---- words that are written out

-- `silo`, and then these words
abbrev pub after_silo : List Text → List Text
after_silo words = codes "silo" ∷ words

-- The account tells words apart: each subcommand with and without its options, help, the version, no words, numbers out of their range,
-- options that don't go together, and a word too few.
pub record TellsWordsApart : Type 0 where
  pub steps : AskForSteps (after_silo (codes "steps" ∷ codes "red:2:4" ∷ [])) 900000 None (codes "red:2:4" ∷ [])
  pub aged : AskForSteps (after_silo (codes "steps" ∷ codes "--age" ∷ codes "5" ∷ codes "--ages" ∷ codes "sheet=9"
      ∷ codes "red:2:4" ∷ [])) 5 (Some (codes "sheet=9")) (codes "red:2:4" ∷ [])
  pub answering : AskForAnswering (after_silo (codes "answer" ∷ codes "red:2:4" ∷ [])) 900000 None 1000 None (codes "red:2:4" ∷ [])
  pub undelivered : AskForAnswering (after_silo (codes "answer" ∷ codes "--sends" ∷ codes "0" ∷ codes "--journal" ∷ codes "day"
      ∷ codes "--ages" ∷ codes "sheet=9" ∷ codes "red:2:4" ∷ [])) 900000 (Some (codes "sheet=9")) 0 (Some (codes "day"))
      (codes "red:2:4" ∷ [])
  pub keeping : AskForData (after_silo (codes "answer" ∷ codes "--data" ∷ codes "kept" ∷ codes "red:2:4" ∷ [])) 900000 None 1000
      (codes "kept") true (codes "red:2:4" ∷ [])
  pub unsynced : AskForData (after_silo (codes "answer" ∷ codes "--no-sync" ∷ codes "--data" ∷ codes "kept" ∷ codes "--sends" ∷ codes "0"
      ∷ codes "red:2:4" ∷ [])) 900000 None 0 (codes "kept") false (codes "red:2:4" ∷ [])
  pub serving : AskForServing (after_silo (codes "serve" ∷ codes "red:2:4" ∷ [])) 4 900000 None None nothing_told (codes "red:2:4" ∷ [])
  pub journaled : AskForServing (after_silo (codes "serve" ∷ codes "--workers" ∷ codes "8" ∷ codes "--age" ∷ codes "5"
      ∷ codes "--ages" ∷ codes "sheet=9" ∷ codes "--journal" ∷ codes "day" ∷ codes "red:2:4" ∷ [])) 8 5 (Some (codes "sheet=9"))
      (Some (codes "day")) nothing_told (codes "red:2:4" ∷ [])
  pub explained : AskForServing (after_silo (codes "serve" ∷ codes "--explain-lines" ∷ codes "red:2:4" ∷ [])) 4 900000 None None
      (record { explain_lines = true; summary = false }) (codes "red:2:4" ∷ [])
  pub summed_up : AskForServing (after_silo (codes "serve" ∷ codes "--summary" ∷ codes "red:2:4" ∷ [])) 4 900000 None None
      (record { explain_lines = false; summary = true }) (codes "red:2:4" ∷ [])
  pub audit : AskForAudit (after_silo (codes "audit" ∷ codes "day" ∷ [])) (codes "day")
  pub migration : AskForMigration (after_silo (codes "migrate" ∷ codes "day" ∷ [])) (codes "day")
  pub listing : AskForRows (after_silo (codes "rows" ∷ codes "kept" ∷ [])) (codes "kept") None
  pub listing_one : AskForRows (after_silo (codes "rows" ∷ codes "kept" ∷ codes "red" ∷ [])) (codes "kept") (Some (codes "red"))
  pub help : AskForHelp (after_silo (codes "--help" ∷ []))
  pub help_of_steps : AskForHelp (after_silo (codes "steps" ∷ codes "-h" ∷ []))
  pub help_of_answer : AskForHelp (after_silo (codes "answer" ∷ codes "-h" ∷ []))
  pub help_of_serve : AskForHelp (after_silo (codes "serve" ∷ codes "-h" ∷ []))
  pub help_of_migrate : AskForHelp (after_silo (codes "migrate" ∷ codes "-h" ∷ []))
  pub help_of_rows : AskForHelp (after_silo (codes "rows" ∷ codes "-h" ∷ []))
  pub version : AskForVersion (after_silo (codes "--version" ∷ []))
  pub nothing : AreRefused (after_silo [])
  pub no_age : AreRefused (after_silo (codes "steps" ∷ codes "--age" ∷ codes "0" ∷ codes "red:2:4" ∷ []))
  pub ages_twice : AreRefused (after_silo (codes "steps" ∷ codes "--ages" ∷ codes "sheet=9" ∷ codes "--ages" ∷ codes "sheet=9"
      ∷ codes "red:2:4" ∷ []))
  pub no_tenant : AreRefused (after_silo (codes "steps" ∷ []))
  pub no_worker : AreRefused (after_silo (codes "serve" ∷ codes "--workers" ∷ codes "0" ∷ codes "red:2:4" ∷ []))
  pub too_many_workers : AreRefused (after_silo (codes "serve" ∷ codes "--workers" ∷ codes "65" ∷ codes "red:2:4" ∷ []))
  pub explained_twice : AreRefused (after_silo (codes "serve" ∷ codes "--explain-lines" ∷ codes "--explain-lines" ∷ codes "red:2:4" ∷ []))
  pub too_many_deliveries : AreRefused (after_silo (codes "answer" ∷ codes "--sends" ∷ codes "1000001" ∷ codes "red:2:4" ∷ []))
  pub signed_deliveries : AskForNothing (after_silo (codes "answer" ∷ codes "--sends" ∷ codes "+5" ∷ codes "red:2:4" ∷ []))
  pub padded_deliveries : AskForNothing (after_silo (codes "answer" ∷ codes "--sends" ∷ codes "05" ∷ codes "red:2:4" ∷ []))
  pub no_data : AskForNothing (after_silo (codes "answer" ∷ codes "--no-sync" ∷ codes "red:2:4" ∷ []))
  pub data_and_journal : AskForNothing (after_silo (codes "answer" ∷ codes "--data" ∷ codes "kept" ∷ codes "--journal" ∷ codes "day"
      ∷ codes "red:2:4" ∷ []))
  pub data_twice : AreRefused (after_silo (codes "answer" ∷ codes "--data" ∷ codes "kept" ∷ codes "--data" ∷ codes "kept"
      ∷ codes "red:2:4" ∷ []))
  pub no_tenant_to_answer : AreRefused (after_silo (codes "answer" ∷ []))
  pub no_tenant_to_serve : AreRefused (after_silo (codes "serve" ∷ []))
  pub no_path : AreRefused (after_silo (codes "audit" ∷ []))
  pub no_path_to_migrate : AreRefused (after_silo (codes "migrate" ∷ []))
  pub no_folder_to_list : AreRefused (after_silo (codes "rows" ∷ []))
  pub two_tenants_to_list : AreRefused (after_silo (codes "rows" ∷ codes "kept" ∷ codes "red" ∷ codes "blue" ∷ []))
