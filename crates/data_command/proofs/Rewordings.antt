-- A silo that goes on from a checkpoint of other words.
use Rattle.std.proofs.Common.{◌≡◌, ◌<◌, ◌≤◌, ◌∙◌, ℕ, List, [], Option, Some, None, Result, Ok, Err, IfOk, IfErr, OnErr, ap, inl, inr, refl, subst, sym, true≢false}
use Rattle.std.specs.Prelude.{◌⊎◌, is_some}
use Rattle.std.specs.FinMap.{from_entries}
use Rattle.arrayvec.specs.ArrayString.{ArrayString}
use Rattle.grain_id.specs.Names.{Grain}
use Rattle.grain_storage.specs.declared.row.Row.{Row}
use Rattle.silo_model.specs.Opening.{Setup}
use Rattle.silo_state.specs.KeptParts.{MayResume, kept_in}
use Rattle.silo_state.specs.declared.parts.KeptParts.{KeptParts}
use Rattle.log_text.specs.Head.{head_text}
use Rattle.log_text.specs.Sums.{spelled}
use Rattle.log_host.specs.Acts.{Act}
use Rattle.log_host.specs.Files.{IsAt, MaySwitch, Switches, with_log, with_point}
use Rattle.silo_checkpoint.specs.Saved.{HasText, Saved, saved_by, sum_in}
use Rattle.command_parts.specs.Setups.{Start, started, version_of}
use Rattle.data_command.specs.Data.{LogView, NothingFollows, since}
use Rattle.data_command.specs.Passing.{RunLasts}
use Rattle.data_command.specs.Folder.{BeginsWords, FolderLasts, FromFolder, IsBetween, LeavesNobodyOut, OpeningFailsBy, OpensAt, ReadsOther, SaysOther, carried, first_left_out}
use Rattle.data_command.specs.Words.{head_words}
use Rattle.command_parts.specs.declared.failure.Cause.TheVariants as cause
use Rattle.data_command.specs.declared.fault.DataFault.{DataFault}
use Rattle.data_command.specs.declared.fault.DataFault.TheVariants as data_fault
use Rattle.data_command.specs.inside.Ready.{HasFound, SaysWords}
use Rattle.data_command.specs.inside.Replacing.{AreTexts}
use Rattle.data_command.specs.inside.Rewording.{FailsToBegin, FromOther, HasReadOther, MayChange, MayNotChange, words_in}

module _ (start : Start) (sends : ℕ) (old now : LogView) (number : ℕ) (log : Option (List ℕ)) (saved : Saved) (h : HasReadOther start sends old now number log saved) where
  abbrev before : Start
  before = started (version_of start.version.logic saved.kinds) saved.setup

  pub head_is : head_text (words_in saved) (spelled number) ≡ head_text (head_words before saved.sends) (spelled (sum_in h.point))
  head_is = ap (λ (n : ℕ). head_text (words_in saved) (spelled n)) h.number_is

  abbrev pub words : (view : LogView) → SaysOther start sends old view
  words view = record {
    point = h.point;
    was = h.found.point_is;
    before = before;
    most = saved.sends;
    follows = saved.follows;
    says = h.says;
    other = h.other;
  }

  -- the checkpoint's logic is a newer one
  pub says_newer : start.version.number < saved.kinds → OpeningFailsBy start sends (since old now) data_fault.OtherWords
  says_newer newer = (h.found.left, inl (record { words = words now; newer = newer }))

  pub lacks_its_log : log ≡ None → OpeningFailsBy start sends (since old now) data_fault.NoLog
  lacks_its_log none = (h.found.left, record { point = h.point; was = h.found.point_is; none = λ e. sym none ∙ h.found.log_is e })

  pub goes_too_far : (parts : KeptParts) → kept_in parts ≡ saved.setup.kept → (MayResume start.version.logic parts → ⊥) → OpeningFailsBy start sends (since old now) data_fault.NoCheckpoint
  goes_too_far parts are not = (h.found.left, record { point = h.point; was = h.found.point_is; bad = inr (saved, h.says, (parts, are, not)) })

  pub has_other_log : (bytes : List ℕ) → log ≡ Some bytes → (bytes ≡ head_text (words_in saved) (spelled number) → ⊥) → OpeningFailsBy start sends (since old now) data_fault.OtherWords
  has_other_log bytes there not = (
    h.found.left,
    inr (inl (record { words = words now; bytes = bytes; found = λ e. sym there ∙ h.found.log_is e; not = λ is. not (is ∙ sym head_is) })),
  )

  module _ (may : MayChange start.version.number number log saved) where
    abbrev pub reads : (view : LogView) → ReadsOther start sends old view
    reads view = record { words = words view; older = may.older; found = λ e. sym (may.empty ∙ ap Some head_is) ∙ h.found.log_is e }

    pub leaves_out : (parts : KeptParts) (rows : List (Grain × Row)) → kept_in parts ≡ saved.setup.kept → from_entries rows ≡ saved.setup.rows → (name : ArrayString)
        → first_left_out start.setup.tenants parts rows ≡ Some name.bytes → OpeningFailsBy start sends (since old now) (data_fault.HasTenant name)
    leaves_out parts rows kept rows_are name first =
        (h.found.left, record { reads = reads now; left = record { parts = parts; kept = kept; rows = rows; rows_are = rows_are; first = first } })

    module _ (setup : Setup) (carries : setup ≡ carried start.setup saved.setup) where
      pub cant_change : NothingFollows start.version sends (spelled number) setup → OpeningFailsBy start sends (since old now) data_fault.OtherWords
      cant_change nothing = (
        h.found.left,
        inr (inr (inl (record {
          reads = reads now;
          nothing = subst (λ (s : Setup). NothingFollows start.version sends (spelled (sum_in h.point)) s) carries
              (subst (λ (n : ℕ). NothingFollows start.version sends (spelled n) setup) h.number_is nothing);
        }))),
      )

      module _ (nobody : LeavesNobodyOut start.setup.tenants saved.setup) (texts text head : List ℕ) (worded : texts ≡ head_words start sends)
          (are : AreTexts start.version sends (spelled number) setup texts text head) (new : LogView) where
        abbrev own : Start
        own = started start.version setup

        abbrev begins : BeginsWords start sends old new own text
        begins = record {
          reads = reads new;
          nobody = nobody;
          setup = carries;
          says = subst (λ (n : ℕ). HasText text (saved_by (spelled n) start.version.number sends setup)) h.number_is are.says;
          new = λ is. are.other (is ∙ sym (ap spelled h.number_is));
        }

        known : old.acts ≡ Some [] → now.acts ≡ Some []
        known e = (h.found.left e).0.0

        opens : (old.acts ≡ Some [] → IsAt new.acts new.begun (Some head) × (new.past ≡ with_log now.past text now.begun [])) → OpensAt start sends old new own
        opens is = record {
          version = refl;
          words = ap (λ (s : Setup). head_words (started start.version s) sends) carries;
          from = inr (inr (record {
            text = text;
            begins = begins;
            begun = λ e. (
              ((is e).0.0, (is e).0.1 ∙ ap Some (are.headed ∙ ap (λ (ws : List ℕ). head_text ws (spelled (sum_in text))) worded)),
              (is e).1 ∙ (λ i. with_log ((h.found.left e).1 i) text ((h.found.left e).0.1 i) []),
            );
          }));
        }

        pub opens_other : Switches now.acts now.begun now.past new.acts new.begun new.past text head → OpensAt start sends old new own
        opens_other switches = opens (λ e. switches [] (known e))

        pub lasts_other : MaySwitch now.acts now.begun now.past new.acts new.begun new.past text head → FolderLasts start sends (since old new)
        lasts_other may e = by (may [] (known e))
          where
            at : new.acts ≡ now.acts → new.begun ≡ now.begun → IsAt new.acts new.begun old.begun
            at same_acts same_begun = (same_acts ∙ known e, same_begun ∙ (h.found.left e).0.1)

            by : ((new.acts ≡ now.acts) × (new.begun ≡ now.begun) × ((new.past ≡ now.past) ⊎ (new.past ≡ with_point now.past text)))
                ⊎ (IsAt new.acts new.begun (Some head) × (new.past ≡ with_log now.past text now.begun []))
                → (IsAt new.acts new.begun old.begun × (new.past ≡ old.past))
                ⊎ (FromFolder start sends old (λ own view. RunLasts own sends (since view new)) ⊎ IsBetween start sends (since old new))
            by (inl (acts, begun, inl past)) = inl (at acts begun, past ∙ (h.found.left e).1)
            by (inl (acts, begun, inr past)) = inr (inr (record {
              own = own;
              text = text;
              begins = begins;
              at = at acts begun;
              past = past ∙ ap (λ p. with_point p text) (h.found.left e).1;
            }))
            by (inr done) = inr (inl (record {
              own = own;
              view = new;
              opens = opens (λ _. done);
              holds = λ k. inl ((k, refl), refl);
            }))

  -- ---- why not

  pub may_not : (parts : KeptParts) (rows : List (Grain × Row)) → kept_in parts ≡ saved.setup.kept → from_entries rows ≡ saved.setup.rows → (why : DataFault)
      → MayNotChange start.setup.tenants start.version.number number log parts rows saved why → OpeningFailsBy start sends (since old now) why
  may_not parts rows kept rows_are data_fault.OtherWords (inl newer) = says_newer newer
  may_not parts rows kept rows_are data_fault.OtherWords (inr more) = has_other_log more.bytes more.there more.not
  may_not parts rows kept rows_are data_fault.NoLog none = lacks_its_log none
  may_not parts rows kept rows_are (data_fault.HasTenant name) is = leaves_out is.0 parts rows kept rows_are name is.1
  may_not parts rows kept rows_are (data_fault.Failed cause.Memory) is = is
  may_not parts rows kept rows_are (data_fault.Failed cause.Read) is = absurd is
  may_not parts rows kept rows_are (data_fault.Failed cause.Write) is = absurd is
  may_not parts rows kept rows_are (data_fault.Failed cause.InUse) is = absurd is
  may_not parts rows kept rows_are (data_fault.Failed cause.TooMuch) is = absurd is
  may_not parts rows kept rows_are (data_fault.Failed cause.NoWorker) is = absurd is
  may_not parts rows kept rows_are (data_fault.Failed cause.Strayed) is = absurd is
  may_not parts rows kept rows_are data_fault.NoCheckpoint is = absurd is
  may_not parts rows kept rows_are (data_fault.Refused line) is = absurd is
  may_not parts rows kept rows_are (data_fault.Otherwise line) is = absurd is

-- a checkpoint of other words was read: what holds wherever it was holds of the folder
module _ (start : Start) (sends : ℕ) (now : LogView) (number : ℕ) (log : Option (List ℕ)) (saved : Saved) (point : List ℕ) (says : HasText point saved) (number_is : number ≡ sum_in point)
    (given : List ℕ) (worded : given ≡ head_words start sends) (not : SaysWords saved start.version.number sends given → ⊥) where
  read_other : (old : LogView) → HasFound old now log (Some point) → HasReadOther start sends old now number log saved
  read_other old found = record { point = point; found = found; says = says; number_is = number_is; other = λ same. not (same.0, same.1, same.2 ∙ sym worded) }

  pub ok_other : {T E : Type 0} (r : Result T E) (Holds : T → LogView → Type 0) → IfOk r (λ v. FromOther start sends now number log saved (Holds v))
      → IfOk r (λ v. (old : LogView) → HasFound old now log (Some point) → Holds v old)
  ok_other (Ok v) Holds so = λ old found. so old (read_other old found)
  ok_other (Err e) Holds so = so

  pub err_other : {T E : Type 0} (r : Result T E) (Holds : E → LogView → Type 0) → IfErr r (λ e. FromOther start sends now number log saved (Holds e))
      → IfErr r (λ e. (old : LogView) → HasFound old now log (Some point) → Holds e old)
  err_other (Ok v) Holds so = so
  err_other (Err e) Holds so = λ old found. so old (read_other old found)

  pub on_err_other : {T E : Type 0} (r : Result T E) (Holds : LogView → Type 0) → OnErr r (FromOther start sends now number log saved Holds)
      → OnErr r ((old : LogView) → HasFound old now log (Some point) → Holds old)
  on_err_other (Ok v) Holds so = so
  on_err_other (Err e) Holds so = λ old found. so old (read_other old found)

-- the log behind a switch is known only if the one before was
pub log_then : (now new : LogView) (text head : List ℕ) → (now.acts ≡ None → new.acts ≡ None) → Switches now.acts now.begun now.past new.acts new.begun new.past text head
    → new.acts ≡ Some [] → new.begun ≡ Some head
log_then now new text head unknown switches known = by now.acts refl
  where
    by : (acts : Option (List Act)) → now.acts ≡ acts → new.begun ≡ Some head
    by None is = absurd (true≢false (ap is_some (sym known ∙ unknown is)))
    by (Some acts) is = (switches acts is).0.1

-- ---- where the new words were to begin

module _ {F : Type 0} (view : F → LogView) (files later : F) (start : Start) (sends : ℕ) (old : LogView) (number : ℕ) (log : Option (List ℕ)) (saved : Saved)
    (h : HasReadOther start sends old (view files) number log saved) (may : MayChange start.version.number number log saved) (setup : Setup) (carries : setup ≡ carried start.setup saved.setup)
    (texts : List ℕ) (worded : texts ≡ head_words start sends) where
  pub begin_fails : (why : DataFault) → FailsToBegin view start.version sends (spelled number) setup texts files later why → OpeningFailsBy start sends (since old (view later)) why
  begin_fails (data_fault.Failed cause.Memory) is = tt
  begin_fails (data_fault.Failed cause.Write) is = is.failed
  begin_fails data_fault.OtherWords is =
      subst (λ (f : F). OpeningFailsBy start sends (since old (view f)) data_fault.OtherWords) (sym is.0) (cant_change start sends old (view files) number log saved h may setup carries is.1)
  begin_fails (data_fault.Failed cause.Read) is = absurd is
  begin_fails (data_fault.Failed cause.InUse) is = absurd is
  begin_fails (data_fault.Failed cause.TooMuch) is = absurd is
  begin_fails (data_fault.Failed cause.NoWorker) is = absurd is
  begin_fails (data_fault.Failed cause.Strayed) is = absurd is
  begin_fails data_fault.NoCheckpoint is = absurd is
  begin_fails data_fault.NoLog is = absurd is
  begin_fails (data_fault.HasTenant name) is = absurd is
  begin_fails (data_fault.Refused line) is = absurd is
  begin_fails (data_fault.Otherwise line) is = absurd is

  -- nothing was done
  untouched : later ≡ files → FolderLasts start sends (since old (view later))
  untouched same = subst (λ (f : F). FolderLasts start sends (since old (view f))) (sym same) (λ e. inl (h.found.left e))

  pub begin_lasts : LeavesNobodyOut start.setup.tenants saved.setup → (why : DataFault) → FailsToBegin view start.version sends (spelled number) setup texts files later why → FolderLasts start sends (since old (view later))
  begin_lasts nobody (data_fault.Failed cause.Memory) is = untouched is
  begin_lasts nobody (data_fault.Failed cause.Write) is =
      lasts_other start sends old (view files) number log saved h may setup carries nobody texts is.text is.head worded is.are (view later) is.may
  begin_lasts nobody data_fault.OtherWords is = untouched is.0
  begin_lasts nobody (data_fault.Failed cause.Read) is = absurd is
  begin_lasts nobody (data_fault.Failed cause.InUse) is = absurd is
  begin_lasts nobody (data_fault.Failed cause.TooMuch) is = absurd is
  begin_lasts nobody (data_fault.Failed cause.NoWorker) is = absurd is
  begin_lasts nobody (data_fault.Failed cause.Strayed) is = absurd is
  begin_lasts nobody data_fault.NoCheckpoint is = absurd is
  begin_lasts nobody data_fault.NoLog is = absurd is
  begin_lasts nobody (data_fault.HasTenant name) is = absurd is
  begin_lasts nobody (data_fault.Refused line) is = absurd is
  begin_lasts nobody (data_fault.Otherwise line) is = absurd is
