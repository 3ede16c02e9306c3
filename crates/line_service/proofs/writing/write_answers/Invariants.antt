use Rattle.std.proofs.Common.{◌≡◌, ◌++◌, ℕ, List, length}
use Rattle.std.specs.Prelude.{map as map_list}
use Rattle.std.specs.Io.KnownBytes.{Appends}
use Rattle.line_text.specs.LineTexts.{joined}
use Rattle.line_service.specs.ServedText.{replies_lines}
use Rattle.line_service.proofs.writing.write_answers.Given as goal

-- the lines of the first lanes were written
abbrev pub invariant-lanes : goal.invariant-lanes
invariant-lanes g l =
    ((done : List (List ℕ)) × (replies_lines (map_list (λ v. v.items) l.fn.answers) ≡ done ++ replies_lines (map_list (λ v. v.items) l.rest))
    × Appends (g.W.Write.contents l.fn.output.writer) (g.W.Write.contents l.output.writer) (joined done))
    × (l.output.calls.failed ≡ l.fn.output.calls.failed)

abbrev pub decreases-lanes : goal.decreases-lanes
decreases-lanes g l = length l.rest
