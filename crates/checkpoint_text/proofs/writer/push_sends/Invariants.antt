use Rattle.std.proofs.Common.{◌≡◌, ◌++◌, map, string_bytes, take}
use Rattle.std.specs.Prelude.{flat_map}
use Rattle.tenant_accounts.specs.Sends.{send_of}
use Rattle.checkpoint_text.specs.Text.{send_line}
use Rattle.checkpoint_text.proofs.writer.push_sends.Given as goal

abbrev pub invariant-sends : goal.invariant-sends
invariant-sends l = string_bytes l.text ≡ string_bytes l.initial.text ++ flat_map send_line (map send_of (take l.sent-index l.sends))
