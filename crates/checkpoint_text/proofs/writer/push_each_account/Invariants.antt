use Rattle.std.proofs.Common.{◌≡◌, ◌++◌, map, string_bytes, take}
use Rattle.std.specs.Prelude.{flat_map}
use Rattle.tenant_accounts.specs.Parts.{kept_in}
use Rattle.checkpoint_text.specs.Text.{account_text}
use Rattle.checkpoint_text.proofs.writer.push_each_account.Given as goal

abbrev pub invariant-accounts : goal.invariant-accounts
invariant-accounts l = string_bytes l.text ≡ string_bytes l.initial.text ++ flat_map account_text (map kept_in (take l.account-index l.accounts))
