-- With what a silo goes on, by what a folder has.
use Rattle.std.proofs.Common.{Bool, Err, IfOk, OnOk, Ok, OnErr, Result, ◌≡◌, ◌∙◌, ℕ, List, [], ◌++◌, Option, None, Some, ap, inl, inr, length, refl, subst, sym}
use Rattle.std.specs.Prelude.{◌⊎◌, Vec, false, option_map}
use Rattle.std.specs.declared.alloc.Global.{Global}
use Rattle.grain_logic.specs.Logic.{Logic}
use Rattle.silo_model.specs.Opening.{Setup, opening}
use Rattle.silo_core.specs.History.{History}
use Rattle.silo_state.specs.KeptParts.{MayResume, kept_in}
use Rattle.silo_state.specs.declared.parts.KeptParts.{KeptParts}
use Rattle.log_text.specs.Head.{head_text}
use Rattle.log_text.specs.Sums.{spelled}
use Rattle.log_host.specs.Files.{Begins, MayBegin, IsAt}
use Rattle.log_text.specs.Lines.{whole_lines}
use Rattle.silo_checkpoint.specs.Saved.{HasText, Saved, saved_by, sum_in}
use Rattle.silo_checkpoint.proofs.OneSaved.{one_saved}
use Rattle.command_parts.specs.Setups.{Start, started, version_of}
use Rattle.command_parts.specs.declared.failure.Cause.{Cause}
use Rattle.command_parts.specs.declared.failure.Cause.TheVariants as cause
use Rattle.data_command.specs.Data.{IsFound, IsFoundPoint, LeavesLog, LogView, since}
use Rattle.data_command.specs.Passing.{RunLasts}
use Rattle.data_command.specs.Folder.{FailsToOpen, FolderLasts, FromFolder, IsBetween, OpeningFailsBy, OpensAt}
use Rattle.data_command.specs.Words.{head_words}
use Rattle.data_command.specs.declared.fault.DataFault.{DataFault}
use Rattle.data_command.specs.declared.fault.DataFault.TheVariants as data_fault
use Rattle.data_command.specs.declared.starting.LogTask.{LogTask}
use Rattle.data_command.specs.inside.Ready.{CantGoOn, FailsToRead, HasFound, HasNumber, IsReady, IsWrongLog, SaysWords}

pub on_err_so : {T E : Type 0} (r : Result T E) (P Q : Type 0) → (P → Q) → OnErr r P → OnErr r Q
on_err_so (Ok v) P Q so is = is
on_err_so (Err e) P Q so is = so is

pub on_ok_so : {T E : Type 0} (r : Result T E) (P Q : Type 0) → (P → Q) → OnOk r P → OnOk r Q
on_ok_so (Ok v) P Q so is = so is
on_ok_so (Err e) P Q so is = is

-- a folder that can't be opened
pub not_opened : (start : Start) (sends : ℕ) (old new : LogView) (why : Cause) → LeavesLog (since old new) → FailsToOpen why new.failed → OpeningFailsBy start sends (since old new) (data_fault.Failed why)
not_opened start sends old new cause.Read left fails = fails
not_opened start sends old new cause.Write left fails = fails
not_opened start sends old new cause.Memory left fails = fails
not_opened start sends old new cause.InUse left fails = left
not_opened start sends old new cause.TooMuch left fails = fails
not_opened start sends old new cause.NoWorker left fails = fails
not_opened start sends old new cause.Strayed left fails = fails

pub if_ok_is : {T E : Type 0} (r : Result T E) (P : T → Type 0) → ((v : T) → r ≡ Ok v → P v) → IfOk r P
if_ok_is (Ok v) P so = so v refl
if_ok_is (Err e) P so = tt

module _ (start : Start) (sends : ℕ) (old now : LogView) (log : Option (List ℕ)) where
  -- there is no checkpoint
  pub opens_new : HasFound old now log None → (own : Start) → own ≡ start → OpensAt start sends old now own
  opens_new f own is = record {
    version = ap (λ (s : Start). s.version) is;
    words = ap (λ (s : Start). head_words s sends) is;
    from = inl (record { is = is; none = f.point_is; left = f.left });
  }

  -- what is said of the checkpoint
  pub says_same : (saved : Saved) (words : List ℕ) → words ≡ head_words start sends → SaysWords saved start.version.number sends words → head_words (started start.version saved.setup) sends ≡ head_words start sends
  says_same saved words worded same =
      (λ i. head_words (started (record start.version { number = sym same.0 i }) saved.setup) (sym same.1 i)) ∙ same.2 ∙ worded

  -- the silo is that of the checkpoint
  pub goes_on : (new : LogView) (saved : Saved) (task : LogTask) → task.words.items ≡ head_words start sends → task.kinds ≡ start.version.number → task.sends ≡ sends
      → SaysWords saved start.version.number sends task.words.items → (silo : History) (stopped keeps : Bool) → silo.setup ≡ saved.setup → silo.whole ≡ opening silo.setup
      → stopped ≡ false → keeps ≡ false → (new.acts ≡ Some [] → new.begun ≡ option_map (λ (bytes : Vec ℕ Global). bytes.items) task.log)
      → IsReady start.version sends new silo stopped keeps task
  goes_on new saved task worded kinds sends_are same silo stopped keeps setup opened runs drops found = record {
    runs = runs;
    drops = drops;
    opens = opened;
    words = worded ∙ sym (says_same saved task.words.items worded same) ∙ ap (λ (s : Setup). head_words (started start.version s) sends) (sym setup);
    kinds = kinds;
    sends_are = sends_are;
    found = found;
  }

  -- the bytes that were found are those of the log that is known now
  pub found_now : (point : Option (List ℕ)) → HasFound old now log point → now.acts ≡ Some [] → now.begun ≡ log
  found_now point f known =
      let was = sym f.acts ∙ known in
      (f.left was).0.1 ∙ sym (f.log_is was)

  module _ (point : List ℕ) (f : HasFound old now log (Some point)) where
    known : old.acts ≡ Some [] → now.acts ≡ Some []
    known e = (f.left e).0.0

    module _ (saved : Saved) (says : HasText point saved) (words : List ℕ) (worded : words ≡ head_words start sends) (same : SaysWords saved start.version.number sends words) where
      says_own : HasText point (saved_by saved.follows start.version.number sends saved.setup)
      says_own = subst (λ (s : Saved). HasText point s) (λ i. saved_by saved.follows (same.0 i) (same.1 i) saved.setup) says

      pub opens_own : (bytes : List ℕ) → log ≡ Some bytes → HasNumber words (spelled (sum_in point)) bytes → OpensAt start sends old now (started start.version saved.setup)
      opens_own bytes there has = record {
        version = refl;
        words = says_same saved words worded same;
        from = inr (inl (record {
          point = point;
          was = f.point_is;
          follows = saved.follows;
          says = says_own;
          log = inl (record {
            rest = has.0;
            found = λ e. sym (there ∙ ap Some (has.1 ∙ ap (λ (ws : List ℕ). head_text ws (spelled (sum_in point)) ++ has.0) worded)) ∙ f.log_is e;
            left = f.left;
          });
        }));
      }

      -- another log was begun
      pub opens_old : (bytes : List ℕ) → log ≡ Some bytes → (before : List ℕ) → HasNumber before saved.follows bytes → (new : LogView) → Begins now.acts new.acts new.begun (head_text words (spelled (sum_in point))) → new.past ≡ now.past
          → OpensAt start sends old new (started start.version saved.setup)
      opens_old bytes there before has new begins past = record {
        version = refl;
        words = says_same saved words worded same;
        from = inr (inl (record {
          point = point;
          was = f.point_is;
          follows = saved.follows;
          says = says_own;
          log = inr (record {
            words = before;
            rest = has.0;
            found = λ e. sym (there ∙ ap Some has.1) ∙ f.log_is e;
            begun = λ e. (
              subst (λ (ws : List ℕ). IsAt new.acts new.begun (Some (head_text ws (spelled (sum_in point))))) worded (begins (known e)),
              past ∙ (f.left e).1,
            );
          });
        }));
      }

      -- or it wasn't
      pub lasts_old : (bytes : List ℕ) → log ≡ Some bytes → (before : List ℕ) → HasNumber before saved.follows bytes → (new : LogView) → MayBegin now.acts now.begun new.acts new.begun (head_text words (spelled (sum_in point))) → new.past ≡ now.past
          → FolderLasts start sends (since old new)
      lasts_old bytes there before has new may past e = by (may (known e))
        where
          by : IsAt new.acts new.begun now.begun ⊎ IsAt new.acts new.begun (Some (head_text words (spelled (sum_in point))))
              → (IsAt new.acts new.begun old.begun × (new.past ≡ old.past)) ⊎ (FromFolder start sends old (λ own view. RunLasts own sends (since view new)) ⊎ IsBetween start sends (since old new))
          by (inl at) = inl ((at.0, at.1 ∙ (f.left e).0.1), past ∙ (f.left e).1)
          by (inr at) = inr (inl (record {
            own = started start.version saved.setup;
            view = new;
            opens = opens_old bytes there before has new (λ _. at) past;
            holds = λ k. inl ((k, refl), refl);
          }))

    -- ---- no silo goes on with it, and nothing was done

    -- the checkpoint says nothing
    says_nothing : ((saved : Saved) → HasText point saved → ⊥) → OpeningFailsBy start sends (since old now) data_fault.NoCheckpoint
    says_nothing none = (f.left, record { point = point; was = f.point_is; bad = inl none })

    -- or what can't be gone on with
    says_too_much : (saved : Saved) → HasText point saved → (parts : KeptParts) → kept_in parts ≡ saved.setup.kept → (MayResume start.version.logic parts → ⊥)
        → OpeningFailsBy start sends (since old now) data_fault.NoCheckpoint
    says_too_much saved says parts are not = (f.left, record { point = point; was = f.point_is; bad = inr (saved, says, (parts, are, not)) })

    pub resume_fails : (saved : Saved) → HasText point saved → (parts : KeptParts) → kept_in parts ≡ saved.setup.kept → (why : DataFault)
        → (why ≡ data_fault.Failed cause.Memory) ⊎ ((why ≡ data_fault.NoCheckpoint) × (MayResume start.version.logic parts → ⊥)) → OpeningFailsBy start sends (since old now) why
    resume_fails saved says parts are why (inl is) = subst (λ (w : DataFault). OpeningFailsBy start sends (since old now) w) (sym is) tt
    resume_fails saved says parts are why (inr is) = subst (λ (w : DataFault). OpeningFailsBy start sends (since old now) w) (sym is.0) (says_too_much saved says parts are is.1)

    lacks_log : log ≡ None → OpeningFailsBy start sends (since old now) data_fault.NoLog
    lacks_log none = (f.left, record { point = point; was = f.point_is; none = λ e. sym none ∙ f.log_is e })

    -- the checkpoint isn't read
    pub point_fails : (why : DataFault) → FailsToRead point why → OpeningFailsBy start sends (since old now) why
    point_fails why (inl is) = subst (λ (w : DataFault). OpeningFailsBy start sends (since old now) w) (sym is) tt
    point_fails why (inr is) = subst (λ (w : DataFault). OpeningFailsBy start sends (since old now) w) (sym is.0) (says_nothing is.1)

    -- the log has another number, or is none
    wrong_log : (saved : Saved) → HasText point saved → (words : List ℕ) → words ≡ head_words start sends → (bytes : List ℕ) → log ≡ Some bytes → (why : DataFault)
        → IsWrongLog words (spelled (sum_in point)) saved.follows bytes why → OpeningFailsBy start sends (since old now) why
    wrong_log saved says words worded bytes there data_fault.OtherWords is = (
      f.left,
      inr (inr (inr (record {
        found = bytes;
        was = λ e. sym there ∙ f.log_is e;
        rest = is.0.0;
        form = is.0.1;
        other = λ number rest numbered same. is.1 number rest numbered (same ∙ ap (λ (ws : List ℕ). head_text ws number ++ rest) (sym worded));
      }))),
    )
    wrong_log saved says words worded bytes there (data_fault.Refused line) (inl none) =
        (f.left, inl (record { found = bytes; was = λ e. sym there ∙ f.log_is e; other = none.0 }, none.1))
    wrong_log saved says words worded bytes there (data_fault.Refused line) (inr a) = (
      f.left,
      inr (record {
        point = point;
        was = f.point_is;
        number = a.number;
        rest = a.rest;
        numbered = a.numbered;
        found = λ e. sym (there ∙ ap Some (a.is ∙ ap (λ (ws : List ℕ). head_text ws a.number ++ a.rest) worded)) ∙ f.log_is e;
        not_own = a.not_own;
        not_old = λ other also same. a.not_old (same ∙ ap (λ (s : Saved). s.follows) (one_saved point other saved also says));
        line_is = a.line_is ∙ ap (λ (ws : List ℕ). length (whole_lines (head_text ws a.number))) worded;
      }),
    )
    wrong_log saved says words worded bytes there (data_fault.Failed why) is = absurd is
    wrong_log saved says words worded bytes there data_fault.NoCheckpoint is = absurd is
    wrong_log saved says words worded bytes there (data_fault.HasTenant name) is = absurd is
    wrong_log saved says words worded bytes there data_fault.NoLog is = absurd is
    wrong_log saved says words worded bytes there (data_fault.Otherwise line) is = absurd is

    -- no log goes on from the checkpoint
    pub cant_go_on : (saved : Saved) → HasText point saved → (words : List ℕ) → words ≡ head_words start sends → (why : DataFault)
        → CantGoOn words (spelled (sum_in point)) saved.follows log why → OpeningFailsBy start sends (since old now) why
    cant_go_on saved says words worded why (inl is) = subst (λ (w : DataFault). OpeningFailsBy start sends (since old now) w) (sym is) tt
    cant_go_on saved says words worded why (inr (inl is)) = subst (λ (w : DataFault). OpeningFailsBy start sends (since old now) w) (sym is.0) (lacks_log is.1)
    cant_go_on saved says words worded why (inr (inr is)) = wrong_log saved says words worded is.0 is.1 why is.2

-- ---- what a run is handed

pub found_so : {old now : LogView} {log point : Option (List ℕ)} → LeavesLog (since old now) → now.acts ≡ old.acts → IsFound (since old now) log → IsFoundPoint (since old now) point → HasFound old now log point
found_so left acts log_is point_is = record { left = left; acts = acts; log_is = log_is; point_is = point_is }

module _ {logic : Logic} {kinds sends : ℕ} {view : LogView} {silo : History} {stopped keeps : Bool} {task : LogTask} (r : IsReady (version_of logic kinds) sends view silo stopped keeps task) where
  -- its words are those of what it is given
  pub ready_words : task.words.items ≡ head_words (started (version_of logic task.kinds) silo.setup) task.sends
  ready_words = r.words ∙ (λ i. head_words (started (version_of logic (sym r.kinds i)) silo.setup) (sym r.sends_are i))

  -- what holds of what it is given holds of what the folder opens with
  pub at_ready : {start : Start} {old : LogView} → OpensAt start sends old view (started (version_of logic kinds) silo.setup)
      → (Holds : Start → ℕ → LogView → Type 0) → Holds (started (version_of logic task.kinds) silo.setup) task.sends view → FromFolder start sends old (λ own now. Holds own sends now)
  at_ready opens Holds is = record {
    own = started (version_of logic kinds) silo.setup;
    view = view;
    opens = opens;
    holds = subst (λ (n : ℕ). Holds (started (version_of logic kinds) silo.setup) n view) r.sends_are
        (subst (λ (k : ℕ). Holds (started (version_of logic k) silo.setup) task.sends view) r.kinds is);
  }
