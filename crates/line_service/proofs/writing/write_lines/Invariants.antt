use Rattle.std.proofs.Common.{◌≡◌, ◌++◌, ℕ, List, length}
use Rattle.std.specs.Prelude.{map as map_list}
use Rattle.std.specs.Io.KnownBytes.{Appends}
use Rattle.line_text.specs.LineTexts.{joined}
use Rattle.line_service.proofs.writing.write_lines.Given as goal

-- the first lines of all were written
abbrev pub invariant-lines : goal.invariant-lines
invariant-lines g l =
    ((done : List (List ℕ)) × (map_list g.T.OneLine.line l.fn.all ≡ done ++ map_list g.T.OneLine.line l.rest)
    × Appends (g.W.Write.contents l.fn.output.writer) (g.W.Write.contents l.output.writer) (joined done))
    × (l.output.calls.failed ≡ l.fn.output.calls.failed)

abbrev pub decreases-lines : goal.decreases-lines
decreases-lines g l = length l.rest
