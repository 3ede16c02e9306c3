use Rattle.std.proofs.Common.{◌≡◌, ◌+◌, ◌-◌, ◌^◌, ◌++◌, ℕ, List, length, true}
use Rattle.std.specs.Io.KnownBytes.{Appends}
use Rattle.line_text.proofs.written.WriterCalls.write_whole.Given as goal

abbrev pub invariant-writes : goal.invariant-writes
invariant-writes g l =
    (front : List ℕ) × (l.bytes ≡ front ++ l.rest) × Appends (g.W.Write.contents l.initial.writer) (g.W.Write.contents l.writer) front
    × (l.self.failed ≡ l.initial.self.failed) × (l.self.held ≡ true)

abbrev pub decreases-writes : goal.decreases-writes
decreases-writes g l = 2 ^ 64 - l.self.interrupted + length l.rest
