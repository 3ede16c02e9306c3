-- What bytes may be the text of: a checkpoint's text is read as the checkpoint. (Other bytes may be read as something too, so what is read
-- is written again and compared.)
use Rattle.std.specs.Prelude.{ℕ, zero, suc, ◌-◌, List, [], ◌∷◌, codes, length, take, Option, Some, None, if◌then◌else◌}
use Rattle.grain_id.specs.Names.{Grain, same_text}
use Rattle.grain_id.specs.Reading.{cut_at}
use Rattle.tenant_accounts.specs.Kept.{KeptAccount, Send}
use Rattle.silo_model.specs.Opening.{KeptGrain}
use Rattle.journal_text.specs.Form.{written}
use Rattle.journal_text.specs.declared.fault.LineFault.{LineFault}
use Rattle.journal_text.specs.declared.fault.LineFault.TheVariants as line_faults
use Rattle.journal_text.specs.inside.Candidates.{◌>>=◌, ◌⊗◌, grain_of, message_of, number_of, only_if, state_of, wide_of, word_of}
use Rattle.checkpoint_text.specs.declared.fault.CheckpointFault.{CheckpointFault}
use Rattle.checkpoint_text.specs.declared.fault.CheckpointFault.TheVariants as faults
use Rattle.checkpoint_text.specs.Text.{Checkpoint}

-- that a line or a field of one has no form is told as that they are no checkpoint's
abbrev pub fault_of_line : LineFault → CheckpointFault
fault_of_line line_faults.NoForm = faults.NoCheckpoint
fault_of_line line_faults.Memory = faults.Memory

-- the fields of the first line, whose word it is, and what stands behind it
abbrev pub named_at : List ℕ → List ℕ → Option (List ℕ × List ℕ)
named_at word bytes = do
  line ← cut_at 10 bytes
  cut ← cut_at 32 line.0
  only_if (same_text cut.0 word) (cut.1, line.1)

abbrev pub number_at : List ℕ → List ℕ → Option (ℕ × List ℕ)
number_at word bytes = do
  line ← named_at word bytes
  number ← wide_of line.0
  Some (number, line.1)

abbrev pub moment_at : List ℕ → List ℕ → Option (ℕ × List ℕ)
moment_at word bytes = do
  line ← named_at word bytes
  number ← number_of line.0
  Some (number, line.1)

-- as many, one behind the other
abbrev pub times : {A : Type 0} → (List ℕ → Option (A × List ℕ)) → ℕ → List ℕ → Option (List A × List ℕ)
times read zero bytes = Some ([], bytes)
times read (suc n) bytes = do
  one ← read bytes
  more ← times read n one.1
  Some (one.0 ∷ more.0, more.1)

abbrev pub send_of_fields : List ℕ → Option Send
send_of_fields fields = do
  parts ← (grain_of ⊗ grain_of ⊗ message_of written) fields
  Some (record { source = parts.0; message = record { target = parts.1.0; call = parts.1.1 } })

abbrev pub send_at : List ℕ → Option (Send × List ℕ)
send_at bytes = do
  line ← named_at (codes "send") bytes
  sent ← send_of_fields line.0
  Some (sent, line.1)

abbrev pub account_at : List ℕ → Option ((List ℕ × KeptAccount) × List ℕ)
account_at bytes = do
  line ← named_at (codes "account") bytes
  head ← (word_of ⊗ wide_of ⊗ wide_of) line.0
  sends ← times send_at head.1.1 line.1
  Some ((head.0, record { count = head.1.0; sends = sends.0 }), sends.1)

-- a version, or a dash
abbrev pub version_of : List ℕ → Option (Option ℕ)
version_of field =
    if same_text field (codes "-") then Some None
    else wide_of field >>= λ version. Some (Some version)

abbrev pub grain_of_fields : List ℕ → Option (Grain × KeptGrain)
grain_of_fields fields = do
  parts ← (grain_of ⊗ version_of ⊗ number_of ⊗ wide_of ⊗ state_of written) fields
  Some (parts.0, record { state = parts.1.1.1.1; version = parts.1.0; last = parts.1.1.0; until = parts.1.1.1.0 })

abbrev pub grain_at : List ℕ → Option ((Grain × KeptGrain) × List ℕ)
grain_at bytes = do
  line ← named_at (codes "up") bytes
  grain ← grain_of_fields line.0
  Some (grain, line.1)

-- a list with its length before it
abbrev pub counted_at : {A : Type 0} → List ℕ → (List ℕ → Option (A × List ℕ)) → List ℕ → Option (List A × List ℕ)
counted_at word read bytes = do
  count ← number_at word bytes
  times read count.0 count.1

-- all but the last 21 bytes, which a sum's line has
abbrev pub body_of : List ℕ → List ℕ
body_of bytes = take (length bytes - 21) bytes

-- the head: what it follows, and how many calls are delivered after a line
abbrev pub head_at : List ℕ → Option ((List ℕ × ℕ) × List ℕ)
head_at bytes = do
  head ← named_at (codes "silo-checkpoint") bytes
  follows ← named_at (codes "follows") head.1
  sends ← number_at (codes "sends") follows.1
  Some ((follows.0, sends.0), sends.1)

abbrev pub lists_at : List ℕ → Option ((List (List ℕ × KeptAccount) × List (Grain × KeptGrain)) × List ℕ)
lists_at bytes = do
  accounts ← counted_at (codes "accounts") account_at bytes
  grains ← counted_at (codes "grains") grain_at accounts.1
  Some ((accounts.0, grains.0), grains.1)

abbrev pub body_at : List ℕ → Option Checkpoint
body_at bytes = do
  head ← head_at bytes
  clock ← moment_at (codes "clock") head.1
  lists ← lists_at clock.1
  Some (record { follows = head.0.0; sends = head.0.1; clock = clock.0; accounts = lists.0.0; grains = lists.0.1; journal = lists.1 })
