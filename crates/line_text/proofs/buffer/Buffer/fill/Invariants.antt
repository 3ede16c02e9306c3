use Rattle.std.proofs.Common.{◌-◌, ◌≡◌, ◌≤◌}
use Rattle.std.specs.Io.KnownBytes.{Keeps}
use Rattle.line_text.specs.Limits.{calls_limit}
use Rattle.line_text.proofs.buffer.Buffer.fill.Given as goal

abbrev pub invariant-tries : goal.invariant-tries
invariant-tries g l =
    (l.self.start ≡ 0) × (l.self.end ≡ 0) × (l.initial.self.calls.made ≤ l.self.calls.made) × Keeps (g.R.Read.remaining l.initial.reader) (g.R.Read.remaining l.reader)

abbrev pub decreases-tries : goal.decreases-tries
decreases-tries g l = calls_limit - l.self.calls.made
