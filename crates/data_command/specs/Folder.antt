-- How a folder of data opens, and what a run makes of it: with what a silo goes on, and where its log goes on.
use Rattle.std.specs.Prelude.{◌≡◌, ◌≢◌, ◌⊎◌, ◌++◌, ◌&&◌, ◌||◌, ◌<◌, ◌≤◌, ℕ, nat_lt, Bool, true, not, List, [], find, length, string_bytes}
use Rattle.std.specs.Prelude.{Option, None, Some, IfSome, is_some, option_map}
use Rattle.std.specs.Option.{option_or}
use Rattle.std.specs.FinMap.{from_entries, get}
use Rattle.grain_id.specs.Names.{Grain}
use Rattle.tenant_gate.specs.Table.{Table, limits_of}
use Rattle.tenant_accounts.specs.declared.parts.AccountParts.{AccountParts}
use Rattle.grain_storage.specs.declared.row.Row.{Row}
use Rattle.silo_model.specs.Opening.{Setup, opening}
use Rattle.silo_model.specs.Segments.{resumed}
use Rattle.silo_state.specs.KeptParts.{MayResume, kept_in}
use Rattle.silo_state.specs.declared.parts.KeptParts.{KeptParts}
use Rattle.line_text.specs.Reading.{Reading}
use Rattle.log_text.specs.Lines.{whole_lines}
use Rattle.log_text.specs.Head.{IsNumber, head_text}
use Rattle.log_text.specs.Sums.{spelled}
use Rattle.log_host.specs.Files.{IsAt, with_log, with_point}
use Rattle.silo_checkpoint.specs.Saved.{HasText, Saved, saved_by, sum_in}
use Rattle.command_parts.specs.Setups.{Start}
use Rattle.command_parts.specs.Streams.{IsUnbegun}
use Rattle.command_parts.specs.declared.failure.Cause.{Cause}
use Rattle.command_parts.specs.declared.failure.Cause.TheVariants as cause
use Rattle.data_command.specs.Data.{AnswersData, DataFailsBy, HasOtherWords, IsFound, IsFoundPoint, IsNoLog}
use Rattle.data_command.specs.Data.{LeavesLog, LogClaims, LogView, NothingFollows, since}
use Rattle.data_command.specs.Passing.{RunHas, RunLasts}
use Rattle.data_command.specs.Words.{head_words}
use Rattle.data_command.specs.declared.fault.DataFault.{DataFault}
use Rattle.data_command.specs.declared.fault.DataFault.TheVariants as data_fault

-- why a folder isn't opened: reading and writing fail only if a call of the host failed
abbrev pub FailsToOpen : Cause → Bool → Type 0
FailsToOpen cause.Read failed = failed ≡ true
FailsToOpen cause.Write failed = failed ≡ true
FailsToOpen cause.Memory failed = Unit {0}
FailsToOpen cause.InUse failed = Unit {0}
FailsToOpen why failed = ⊥

-- ---- tables of other tenants, limits and ages

-- Nothing is kept of the tenant: no request was accepted, nothing that its grains sent waits, none of them is active, and none has a row.
pub record HasNothing (setup : Setup) (tenant : List ℕ) : Type 0 where
  pub account : IfSome (get setup.kept.accounts tenant) (λ a. (a.count ≡ 0) × (a.sends ≡ []))
  pub grains : (grain : Grain) → grain.tenant ≡ tenant → get setup.kept.grains grain ≡ None
  pub rows : (grain : Grain) → grain.tenant ≡ tenant → get setup.rows grain ≡ None

-- Of each tenant that the table hasn't nothing is kept.
abbrev pub LeavesNobodyOut : Table → Setup → Type 0
LeavesNobodyOut tenants setup = (tenant : List ℕ) → limits_of tenants tenant ≡ None → HasNothing setup tenant

-- whether the table hasn't the tenant
abbrev pub is_out : Table → List ℕ → Bool
is_out tenants tenant = not (is_some (limits_of tenants tenant))

-- whether it is that of such a tenant, and a request was accepted, or something that was sent waits
abbrev pub is_left_account : Table → AccountParts → Bool
is_left_account tenants a = (nat_lt 0 a.count || nat_lt 0 (length a.sends.items)) && is_out tenants (string_bytes a.name)

-- the first tenant of a list of grains that the table hasn't
abbrev pub first_out : {V : Type 0} → Table → List (Grain × V) → Option (List ℕ)
first_out tenants list = option_map (λ g. g.0.tenant) (find (λ g. is_out tenants g.0.tenant) list)

-- the first of what is kept, and then of the rows
abbrev pub first_left_out : Table → KeptParts → List (Grain × Row) → Option (List ℕ)
first_left_out tenants parts rows =
    option_or (option_map (λ a. string_bytes a.name) (find (is_left_account tenants) parts.accounts.items))
    (option_or (first_out tenants parts.grains.items) (first_out tenants rows))

-- The tenant is that one, where these are what is kept and the rows.
pub record IsLeftOut (tenants : Table) (setup : Setup) (tenant : List ℕ) : Type 0 where
  pub parts : KeptParts
  pub kept : kept_in parts ≡ setup.kept
  pub rows : List (Grain × Row)
  pub rows_are : from_entries rows ≡ setup.rows
  pub first : first_left_out tenants parts rows ≡ Some tenant

-- those tables, with what is kept of the other and its rows
abbrev pub with_kept : Setup → Setup → Setup
with_kept tables old = record tables { rows = old.rows; kept = old.kept }

-- with what a silo of those tables opens that goes on from there: of tenants that it hasn't it keeps nothing
abbrev pub carried : Setup → Setup → Setup
carried tables old = resumed tables (opening (with_kept tables old))

module _ (start : Start) (sends : ℕ) where
  -- the head of a log of that number
  abbrev pub own_head : List ℕ → List ℕ
  own_head number = head_text (head_words start sends) number

  -- ---- other words

  -- The checkpoint says the words of a silo that started so, and they are other words.
  pub record SaysOther (old view : LogView) : Type 0 where
    pub point : List ℕ
    pub was : IsFoundPoint (since old view) (Some point)
    pub before : Start
    pub most : ℕ
    pub follows : List ℕ
    pub says : HasText point (saved_by follows before.version.number most before.setup)
    pub other : (before.version.number ≡ start.version.number) × (most ≡ sends) × (head_words before most ≡ head_words start sends) → ⊥

  -- The log that goes on from the checkpoint, without a batch.
  abbrev pub empty_log : {old view : LogView} → SaysOther old view → List ℕ
  empty_log s = head_text (head_words s.before s.most) (spelled (sum_in s.point))

  -- Its logic is no newer one, and that is the log.
  pub record ReadsOther (old view : LogView) : Type 0 where
    pub words : SaysOther old view
    pub older : words.before.version.number ≤ start.version.number
    pub found : IsFound (since old view) (Some (empty_log words))

  abbrev pub setup_before : {old view : LogView} → ReadsOther old view → Setup
  setup_before r = r.words.before.setup

  abbrev pub number_before : {old view : LogView} → ReadsOther old view → List ℕ
  number_before r = spelled (sum_in r.words.point)

  -- Then this text is of a checkpoint of the silo's own words that takes the place of both, and nobody is left out.
  pub record BeginsWords (old view : LogView) (own : Start) (text : List ℕ) : Type 0 where
    pub reads : ReadsOther old view
    pub nobody : LeavesNobodyOut start.setup.tenants (setup_before reads)
    pub setup : own.setup ≡ carried start.setup (setup_before reads)
    pub says : HasText text (saved_by (number_before reads) start.version.number sends own.setup)
    pub new : spelled (sum_in text) ≢ number_before reads

  -- ---- with what a silo goes on

  module _ (old view : LogView) (own : Start) where
    -- There is no checkpoint: a silo starts with what the words say. Nothing was done.
    pub record OpensNew : Type 0 where
      pub is : own ≡ start
      pub none : IsFoundPoint (since old view) None
      pub left : LeavesLog (since old view)

    -- The log is the one that goes on from the checkpoint, and nothing was done.
    pub record HasItsLog (point : List ℕ) : Type 0 where
      pub rest : List ℕ
      pub found : IsFound (since old view) (Some (own_head (spelled (sum_in point)) ++ rest))
      pub left : LeavesLog (since old view)

    -- The log is the one whose place the checkpoint takes, whatever words it has: a start ended in between. Now the checkpoint has its own
    -- log, without a batch.
    pub record HadOldLog (point follows : List ℕ) : Type 0 where
      pub words : List ℕ
      pub rest : List ℕ
      pub found : IsFound (since old view) (Some (head_text words follows ++ rest))
      pub begun : old.acts ≡ Some [] → IsAt view.acts view.begun (Some (own_head (spelled (sum_in point)))) × (view.past ≡ old.past)

    -- The checkpoint says with what a silo goes on, under the same words.
    pub record OpensSaved : Type 0 where
      pub point : List ℕ
      pub was : IsFoundPoint (since old view) (Some point)
      pub follows : List ℕ
      pub says : HasText point (record { follows = follows; kinds = start.version.number; sends = sends; setup = own.setup })
      pub log : HasItsLog point ⊎ HadOldLog point follows

    -- The checkpoint said other words. One of the silo's own words took its place, and a log without a batch goes on from that.
    pub record OpensOther : Type 0 where
      pub text : List ℕ
      pub begins : BeginsWords old view own text
      pub begun : old.acts ≡ Some [] → IsAt view.acts view.begun (Some (own_head (spelled (sum_in text))))
          × (view.past ≡ with_log old.past text old.begun [])

    pub record OpensAt : Type 0 where
      pub version : own.version ≡ start.version
      pub words : head_words own sends ≡ head_words start sends
      pub from : OpensNew ⊎ (OpensSaved ⊎ OpensOther)

  -- A silo went on with what the folder had, and this holds of what it started with, and of the folder as it was then.
  pub record FromFolder (old : LogView) (Holds : Start → LogView → Type 0) : Type 0 where
    pub own : Start
    pub view : LogView
    pub opens : OpensAt old view own
    pub holds : Holds own view

  module _ (log : LogClaims) where
    -- ---- what a run comes to

    abbrev pub FolderAnswers : Option (List ℕ) → Option (List ℕ) → Option (List ℕ) → Option (List ℕ) → Type 0
    FolderAnswers from left before after =
        FromFolder log.old (λ own view. AnswersData own sends (since view log.new) from left before after)

    abbrev pub FolderHas : Option (List ℕ) → Type 0
    FolderHas from = FromFolder log.old (λ own view. RunHas own sends (since view log.new) from)

    -- A start under other words ended in between: a checkpoint of the silo's own words stands beside the log as it was.
    pub record IsBetween : Type 0 where
      pub own : Start
      pub text : List ℕ
      pub begins : BeginsWords log.old log.new own text
      pub at : IsAt log.new.acts log.new.begun log.old.begun
      pub past : log.new.past ≡ with_point log.old.past text

    -- in every outcome, if the log is known: nothing was done, or it lasts from there on, or a start under other words ended in between
    abbrev pub FolderLasts : Type 0
    FolderLasts = log.old.acts ≡ Some []
        → (IsAt log.new.acts log.new.begun log.old.begun × (log.new.past ≡ log.old.past))
        ⊎ (FromFolder log.old (λ own view. RunLasts own sends (since view log.new)) ⊎ IsBetween)

    -- ---- a folder that isn't gone on with

    -- The checkpoint says nothing, or what no silo can go on with: of a grain that isn't known, or of too many requests.
    pub record HasBadCheckpoint : Type 0 where
      pub point : List ℕ
      pub was : IsFoundPoint log (Some point)
      pub bad : ((saved : Saved) → HasText point saved → ⊥)
          ⊎ ((saved : Saved) × HasText point saved × ((parts : KeptParts) × (kept_in parts ≡ saved.setup.kept)
          × (MayResume start.version.logic parts → ⊥)))

    -- There is a checkpoint, and no log.
    pub record LacksLog : Type 0 where
      pub point : List ℕ
      pub was : IsFoundPoint log (Some point)
      pub none : IsFound log None

    -- The checkpoint says the words of a newer logic.
    pub record SaysNewer : Type 0 where
      pub words : SaysOther log.old log.new
      pub newer : start.version.number < words.before.version.number

    -- It says other words, and the log is another than the one without a batch that goes on from it.
    pub record HasOtherLog : Type 0 where
      pub words : SaysOther log.old log.new
      pub bytes : List ℕ
      pub found : IsFound log (Some bytes)
      pub not : bytes ≢ empty_log words

    -- It says other words, and no checkpoint of the silo's own words can follow its log.
    pub record CantChangeWords : Type 0 where
      pub reads : ReadsOther log.old log.new
      pub nothing : NothingFollows start.version sends (number_before reads) (carried start.setup (setup_before reads))

    -- It says other words, and something is kept of this tenant, which the silo's own leave out.
    pub record LeavesOut (tenant : List ℕ) : Type 0 where
      pub reads : ReadsOther log.old log.new
      pub left : IsLeftOut start.setup.tenants (setup_before reads) tenant

    -- The log is of another number than the two that may stand beside the checkpoint.
    pub record HasStrangeLog (line : ℕ) : Type 0 where
      pub point : List ℕ
      pub was : IsFoundPoint log (Some point)
      pub number : List ℕ
      pub rest : List ℕ
      pub numbered : IsNumber number
      pub found : IsFound log (Some (own_head number ++ rest))
      pub not_own : number ≢ spelled (sum_in point)
      pub not_old : (saved : Saved) → HasText point saved → number ≢ saved.follows
      pub line_is : line ≡ length (whole_lines (own_head number))

    -- Why no silo goes on with the folder. Then it is as it was, unless a call failed.
    abbrev pub OpeningFailsBy : DataFault → Type 0
    OpeningFailsBy (data_fault.Failed cause.InUse) = LeavesLog log
    OpeningFailsBy (data_fault.Failed why) = FailsToOpen why log.new.failed
    OpeningFailsBy data_fault.NoCheckpoint = LeavesLog log × HasBadCheckpoint
    OpeningFailsBy data_fault.NoLog = LeavesLog log × LacksLog
    OpeningFailsBy data_fault.OtherWords =
        LeavesLog log × (SaysNewer ⊎ (HasOtherLog ⊎ (CantChangeWords ⊎ HasOtherWords start sends log)))
    OpeningFailsBy (data_fault.HasTenant name) = LeavesLog log × LeavesOut name.bytes
    OpeningFailsBy (data_fault.Refused line) = LeavesLog log × ((IsNoLog start sends log × (line ≡ 1)) ⊎ HasStrangeLog line)
    OpeningFailsBy (data_fault.Otherwise line) = ⊥

    -- Why not all is answered: no silo goes on with the folder, or it stops.
    abbrev pub FolderFailsBy : DataFault → Option (List ℕ) → Option (List ℕ) → Reading → Option (List ℕ) → Option (List ℕ) → Type 0
    FolderFailsBy why from left reading before after =
        (OpeningFailsBy why × IsUnbegun from left before after)
        ⊎ FromFolder log.old (λ own view. DataFailsBy own sends (since view log.new) why from left reading before after)
