use Rattle.std.proofs.Common.{◌≡◌, ◌++◌, string_bytes, take}
use Rattle.line_service.specs.Counts.{refusals_lines}
use Rattle.line_service.proofs.counting.push_all_refusals.Given as goal

abbrev pub invariant-codes : goal.invariant-codes
invariant-codes l = string_bytes l.text ≡ string_bytes l.initial.text ++ refusals_lines l.list (take l.code-index l.all)
