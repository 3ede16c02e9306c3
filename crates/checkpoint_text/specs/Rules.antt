-- What may stand in a checkpoint.
use Rattle.std.specs.Prelude.{◌≡◌, ℕ, ◌<◌, ◌^◌, ◌&&◌, Bool, List, All, IfSome, IsTrue, length, nat_lt, true}
use Rattle.std.specs.List.{list_all}
use Rattle.grain_id.specs.Names.{Grain, is_grain}
use Rattle.grain_id.specs.Words.{is_word, is_name_byte}
use Rattle.tenant_accounts.specs.Kept.{KeptAccount, Send}
use Rattle.silo_model.specs.Opening.{KeptGrain}
use Rattle.journal_text.specs.Form.{HasMessage, HasState, written}
use Rattle.checkpoint_text.specs.Text.{Checkpoint}

abbrev pub IsSend : Send → Type 0
IsSend s = IsTrue (is_grain s.source) × IsTrue (is_grain s.message.target) × HasMessage written s.message.call

abbrev pub IsAccount : List ℕ × KeptAccount → Type 0
IsAccount a = IsTrue (is_word a.0) × (a.1.count < 2 ^ 64) × (length a.1.sends < 2 ^ 64) × All IsSend a.1.sends

abbrev pub IsGrain : Grain × KeptGrain → Type 0
IsGrain g =
    IsTrue (is_grain g.0) × IfSome g.1.version (λ version. version < 2 ^ 64) × (g.1.last < 2 ^ 63) × (g.1.until < 2 ^ 64)
    × HasState written g.1.state

-- a byte of ASCII
abbrev pub is_ascii_byte : ℕ → Bool
is_ascii_byte b = nat_lt b 128

-- Its names are well formed, its numbers in their ranges, its messages and states have bytes, and the journal is of ASCII.
pub record IsCheckpoint (c : Checkpoint) : Type 0 where
  pub follows : list_all is_name_byte c.follows ≡ true
  pub sends : c.sends < 2 ^ 64
  pub clock : c.clock < 2 ^ 63
  pub fewer : (length c.accounts < 2 ^ 64) × (length c.grains < 2 ^ 64)
  pub accounts : All IsAccount c.accounts
  pub grains : All IsGrain c.grains
  pub journal : list_all is_ascii_byte c.journal ≡ true

-- the tenant's name is well formed
abbrev pub has_word : List ℕ × KeptAccount → Bool
has_word a = is_word a.0

-- whether that is so of it which no type keeps: what it follows is of visible ASCII, the names of tenants are well formed, and the journal
-- is of ASCII
abbrev pub is_spelled : Checkpoint → Bool
is_spelled c = list_all is_name_byte c.follows && list_all has_word c.accounts && list_all is_ascii_byte c.journal
