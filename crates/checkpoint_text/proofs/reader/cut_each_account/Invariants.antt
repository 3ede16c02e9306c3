use Rattle.std.proofs.Common.{◌-◌, map}
use denote.Text.{Utf8}
use denote.Shadow.{shadow}
use Rattle.tenant_accounts.specs.Parts.{kept_in}
use Rattle.checkpoint_text.specs.inside.Reading.{account_at}
use Rattle.checkpoint_text.proofs.Times.{Goes}
use Rattle.checkpoint_text.proofs.reader.cut_each_account.Given as goal

abbrev pub invariant-accounts : goal.invariant-accounts
invariant-accounts l =
    shadow (Utf8 l.rest) × Goes account_at l.fn.count l.fn.text (map kept_in l.accounts.items) (l.fn.count - l.counter) l.rest
