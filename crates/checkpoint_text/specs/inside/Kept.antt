-- What the types of a checkpoint's parts keep of its rules.
use Rattle.std.specs.Prelude.{ℕ, ◌<◌, ◌^◌, All, List, length}
use Rattle.tenant_accounts.specs.Kept.{KeptAccount}
use Rattle.checkpoint_text.specs.Rules.{IsGrain, IsSend}
use Rattle.checkpoint_text.specs.Text.{Checkpoint}

-- all but the name
abbrev pub KeepsAccount : List ℕ × KeptAccount → Type 0
KeepsAccount a = (a.1.count < 2 ^ 64) × (length a.1.sends < 2 ^ 64) × All IsSend a.1.sends

-- All but what it follows, the names of tenants and the journal.
pub record KeepsRules (c : Checkpoint) : Type 0 where
  pub sends : c.sends < 2 ^ 64
  pub clock : c.clock < 2 ^ 63
  pub fewer : (length c.accounts < 2 ^ 64) × (length c.grains < 2 ^ 64)
  pub accounts : All KeepsAccount c.accounts
  pub grains : All IsGrain c.grains
