use Rattle.std.proofs.Common.{◌≡◌, ◌+◌, ◌-◌, ◌*◌, min, ℕ, List, take}
use Rattle.std.specs.Io.KnownBytes.{Consumes}
use Rattle.line_text.specs.Limits.{calls_limit, kept_limit}
use Rattle.line_text.specs.inside.Buffers.{left_in}
use Rattle.line_text.specs.Reading.{HasNoBreak}
use Rattle.line_text.proofs.buffer.Buffer.move_line.Given as goal

abbrev pub invariant-pieces : goal.invariant-pieces
invariant-pieces g l =
    (seen : List ℕ) × HasNoBreak seen × (l.line.items ≡ take kept_limit seen)
    × Consumes (left_in l.initial.self (g.R.Read.remaining l.initial.reader)) (left_in l.self (g.R.Read.remaining l.reader)) seen

abbrev pub decreases-pieces : goal.decreases-pieces
decreases-pieces g l = 2 * (calls_limit - l.self.calls.made) + min 1 (l.self.end - l.self.start)
