use Rattle.std.proofs.Common.{◌-◌, map}
use denote.Text.{Utf8}
use denote.Shadow.{shadow}
use Rattle.tenant_accounts.specs.Sends.{send_of}
use Rattle.checkpoint_text.specs.inside.Reading.{send_at}
use Rattle.checkpoint_text.proofs.Times.{Goes}
use Rattle.checkpoint_text.proofs.reader.cut_sends.Given as goal

abbrev pub invariant-sends : goal.invariant-sends
invariant-sends l =
    shadow (Utf8 l.rest) × Goes send_at l.fn.count l.fn.text (map send_of l.sends.items) (l.fn.count - l.counter) l.rest
