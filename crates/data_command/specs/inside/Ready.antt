-- What is known of a silo that goes on with a folder, and of the log that stands beside a checkpoint.
use Rattle.std.specs.Prelude.{◌≡◌, ◌≢◌, ◌⊎◌, ◌++◌, ℕ, Bool, false, List, [], length, Option, None, Some, option_map}
use Rattle.silo_model.specs.Opening.{opening}
use Rattle.silo_core.specs.History.{History}
use Rattle.log_text.specs.Head.{IsNumber, form_line, head_text}
use Rattle.log_text.specs.Lines.{whole_lines}
use Rattle.silo_checkpoint.specs.Saved.{HasText, Saved}
use Rattle.command_parts.specs.Setups.{Version, started}
use Rattle.command_parts.specs.declared.failure.Cause.TheVariants as cause
use Rattle.data_command.specs.Data.{IsFound, IsFoundPoint, LeavesLog, LogView, since}
use Rattle.data_command.specs.Words.{head_words, words_by}
use Rattle.log_text.specs.Head.{words_text}
use Rattle.data_command.specs.declared.fault.DataFault.{DataFault}
use Rattle.data_command.specs.declared.fault.DataFault.TheVariants as data_fault
use Rattle.data_command.specs.declared.starting.LogTask.{LogTask}

-- Nothing was done, and these were found as the log and as the checkpoint.
pub record HasFound (old now : LogView) (log point : Option (List ℕ)) : Type 0 where
  pub left : LeavesLog (since old now)
  pub acts : now.acts ≡ old.acts
  pub log_is : IsFound (since old now) log
  pub point_is : IsFoundPoint (since old now) point

-- The silo is at its opening, may drop its history, and its log is begun or continued with its words.
pub record IsReady (version : Version) (sends : ℕ) (now : LogView) (silo : History) (stopped keeps : Bool) (task : LogTask) : Type 0 where
  pub runs : stopped ≡ false
  pub drops : keeps ≡ false
  pub opens : silo.whole ≡ opening silo.setup
  pub words : task.words.items ≡ head_words (started version silo.setup) sends
  pub kinds : task.kinds ≡ version.number
  pub sends_are : task.sends ≡ sends
  pub found : now.acts ≡ Some [] → now.begun ≡ option_map (λ bytes. bytes.items) task.log

-- What is saved is of that logic, with so many deliveries, and these words.
abbrev pub SaysWords : Saved → ℕ → ℕ → List ℕ → Type 0
SaysWords saved kinds sends words =
    (saved.kinds ≡ kinds) × (saved.sends ≡ sends)
    × (words_text (words_by saved.kinds saved.sends saved.setup.age saved.setup.ages saved.setup.tenants) ≡ words)

-- the bytes are those of a log with that number
abbrev pub HasNumber : List ℕ → List ℕ → List ℕ → Type 0
HasNumber words number log = (rest : List ℕ) × (log ≡ head_text words number ++ rest)

-- the log that is there has that number
abbrev pub HasLog : List ℕ → List ℕ → Option (List ℕ) → Type 0
HasLog words number log = (bytes : List ℕ) × (log ≡ Some bytes) × HasNumber words number bytes

-- The bytes are those of a log with another number than these two.
pub record HasAnother (words own old log : List ℕ) (line : ℕ) : Type 0 where
  pub number : List ℕ
  pub rest : List ℕ
  pub numbered : IsNumber number
  pub is : log ≡ head_text words number ++ rest
  pub not_own : number ≢ own
  pub not_old : number ≢ old
  pub line_is : line ≡ length (whole_lines (head_text words number))

-- why the bytes are those of no log with one of these two numbers
abbrev pub IsWrongLog : List ℕ → List ℕ → List ℕ → List ℕ → DataFault → Type 0
IsWrongLog words own old log data_fault.OtherWords =
    ((rest : List ℕ) × (log ≡ form_line ++ rest))
    × ((number rest : List ℕ) → IsNumber number → log ≡ head_text words number ++ rest → ⊥)
IsWrongLog words own old log (data_fault.Refused line) =
    (((rest : List ℕ) → log ≡ form_line ++ rest → ⊥) × (line ≡ 1)) ⊎ HasAnother words own old log line
IsWrongLog words own old log why = ⊥

-- why a checkpoint isn't read
abbrev pub FailsToRead : List ℕ → DataFault → Type 0
FailsToRead point why =
    (why ≡ data_fault.Failed cause.Memory)
    ⊎ ((why ≡ data_fault.NoCheckpoint) × ((saved : Saved) → HasText point saved → ⊥))

-- why no log with one of these two numbers stands beside a checkpoint of these words
abbrev pub CantGoOn : List ℕ → List ℕ → List ℕ → Option (List ℕ) → DataFault → Type 0
CantGoOn words own old log why =
    (why ≡ data_fault.Failed cause.Memory)
    ⊎ (((why ≡ data_fault.NoLog) × (log ≡ None))
    ⊎ ((bytes : List ℕ) × (log ≡ Some bytes) × IsWrongLog words own old bytes why))
