use Rattle.std.proofs.Common.{◌≡◌, ◌++◌, string_bytes, take}
use Rattle.line_service.specs.Reasons.{reasons_behind}
use Rattle.line_service.proofs.reasons.push_reasons.Given as goal

abbrev pub invariant-lines : goal.invariant-lines
invariant-lines l = string_bytes l.text ≡ string_bytes l.initial.text ++ reasons_behind 0 (take l.at l.lines)
