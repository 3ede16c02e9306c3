-- The text of a checkpoint: what is kept of a silo where it is left. Each line has fields parted by one space, numbers in decimal, bytes
-- in lower case hexadecimal. Lists have their lengths before them. The last line has the sum of all before it.
use Rattle.std.specs.Prelude.{ℕ, List, [], ◌∷◌, ◌++◌, length, flat_map, codes, decimal, Option, Some, None}
use Rattle.grain_id.specs.Names.{Grain, grain_text}
use Rattle.tenant_accounts.specs.Kept.{KeptAccount, Send}
use Rattle.silo_model.specs.Opening.{KeptGrain}
use Rattle.journal_text.specs.Form.{written}
use Rattle.journal_text.specs.Text.{◌␣◌, message_text, state_text}
use Rattle.log_text.specs.Sums.{after, spelled}

-- The sum of the checkpoint before, as it is spelled; how many calls that grains sent are delivered after a line; the clock; what is kept
-- of each tenant, in the order of the table; the grains that are active, ascending; and the text of the journal that has the kinds'
-- version, the ages, the tenants and the rows, and no step.
pub record Checkpoint : Type 0 where
  pub follows : List ℕ
  pub sends : ℕ
  pub clock : ℕ
  pub accounts : List (List ℕ × KeptAccount)
  pub grains : List (Grain × KeptGrain)
  pub journal : List ℕ

-- a line, and its LF
abbrev pub ended : List ℕ → List ℕ
ended text = text ++ 10 ∷ []

-- a line of a word and its fields
unfoldable pub named : List ℕ → List ℕ → List ℕ
named word fields = ended (word ␣ fields)

abbrev pub send_fields : Send → List ℕ
send_fields s = grain_text s.source ␣ grain_text s.message.target ␣ message_text written s.message.call

unfoldable pub send_line : Send → List ℕ
send_line s = named (codes "send") (send_fields s)

-- a tenant, how many requests of it were accepted, and how many lines of sends follow
abbrev pub account_fields : List ℕ × KeptAccount → List ℕ
account_fields a = a.0 ␣ decimal a.1.count ␣ decimal (length a.1.sends)

unfoldable pub account_text : List ℕ × KeptAccount → List ℕ
account_text a = named (codes "account") (account_fields a) ++ flat_map send_line a.1.sends

-- a version, or a dash
abbrev pub version_text : Option ℕ → List ℕ
version_text None = codes "-"
version_text (Some version) = decimal version

-- a grain, the version of its row, when it was last used, until when it stays, and its state
abbrev pub grain_fields : Grain × KeptGrain → List ℕ
grain_fields g = grain_text g.0 ␣ version_text g.1.version ␣ decimal g.1.last ␣ decimal g.1.until ␣ state_text g.1.state

unfoldable pub grain_line : Grain × KeptGrain → List ℕ
grain_line g = named (codes "up") (grain_fields g)

abbrev pub start_text : Checkpoint → List ℕ
start_text c =
    named (codes "silo-checkpoint") (codes "1")
    ++ named (codes "follows") c.follows
    ++ named (codes "sends") (decimal c.sends)
    ++ named (codes "clock") (decimal c.clock)

abbrev pub accounts_text : List (List ℕ × KeptAccount) → List ℕ
accounts_text accounts = named (codes "accounts") (decimal (length accounts)) ++ flat_map account_text accounts

abbrev pub grains_text : List (Grain × KeptGrain) → List ℕ
grains_text grains = named (codes "grains") (decimal (length grains)) ++ flat_map grain_line grains

-- all but the last line
abbrev pub body_text : Checkpoint → List ℕ
body_text c = start_text c ++ accounts_text c.accounts ++ grains_text c.grains ++ c.journal

-- the last line, of the sum of all before it
abbrev pub sum_line : List ℕ → List ℕ
sum_line body = named (codes "sum") (spelled (after 0 body))

abbrev pub checkpoint_text : Checkpoint → List ℕ
checkpoint_text c = body_text c ++ sum_line (body_text c)
