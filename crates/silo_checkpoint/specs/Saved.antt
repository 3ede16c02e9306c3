-- What a silo saves in a checkpoint, and what a checkpoint says.
use Rattle.std.specs.Prelude.{◌≡◌, ℕ, ◌-◌, List, [], length, take}
use Rattle.std.specs.FinMap.{entries, from_entries}
use Rattle.silo_model.specs.Opening.{Kept, Setup}
use Rattle.journal_text.specs.JournalAnswers.{IsJournalText}
use Rattle.journal_text.specs.Text.{History, history_of}
use Rattle.checkpoint_text.specs.Rules.{IsCheckpoint}
use Rattle.checkpoint_text.specs.Text.{Checkpoint, checkpoint_text}
use Rattle.log_text.specs.Sums.{after}

-- What a checkpoint says: the number of the log that it replaces, as it is spelled; the number by which journals name the logic of the
-- kinds; how many calls that grains sent are delivered after a line; and with what a silo opens.
pub record Saved : Type 0 where
  pub follows : List ℕ
  pub kinds : ℕ
  pub sends : ℕ
  pub setup : Setup

abbrev pub saved_by : List ℕ → ℕ → ℕ → Setup → Saved
saved_by follows kinds sends setup = record { follows = follows; kinds = kinds; sends = sends; setup = setup }

-- the journal of what a silo opens with: it has no steps and no replies
abbrev pub opening_journal : ℕ → Setup → History
opening_journal kinds setup = history_of kinds setup.age setup.ages setup.tenants [] [] (entries setup.rows)

-- what is kept in a checkpoint
abbrev pub kept_of : Checkpoint → Kept
kept_of c = record { clock = c.clock; accounts = from_entries c.accounts; grains = from_entries c.grains }

-- The bytes are the text of a checkpoint that says this.
pub record HasText (bytes : List ℕ) (saved : Saved) : Type 0 where
  pub checkpoint : Checkpoint
  pub is : IsCheckpoint checkpoint
  pub text : bytes ≡ checkpoint_text checkpoint
  pub follows : checkpoint.follows ≡ saved.follows
  pub sends : checkpoint.sends ≡ saved.sends
  pub kept : saved.setup.kept ≡ kept_of checkpoint
  pub journal : IsJournalText checkpoint.journal (opening_journal saved.kinds saved.setup)

-- the sum of all but the last line, which has 21 bytes
abbrev pub sum_in : List ℕ → ℕ
sum_in bytes = after 0 (take (length bytes - 21) bytes)
