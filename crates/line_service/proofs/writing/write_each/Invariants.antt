use Rattle.std.proofs.Common.{◌≡◌, ◌++◌, ℕ, List, length}
use Rattle.std.specs.Prelude.{map as map_list}
use Rattle.std.specs.BTreeMap.{values}
use Rattle.std.specs.Io.KnownBytes.{Appends}
use Rattle.line_text.specs.LineTexts.{joined}
use Rattle.line_service.specs.ServedText.{replies_lines}
use Rattle.line_service.specs.inside.Told.{replies_at}
use Rattle.line_service.proofs.writing.write_each.Given as goal

-- what the first grains are told was written
abbrev pub invariant-grains : goal.invariant-grains
invariant-grains g l =
    ((done : List (List ℕ)) × (replies_lines (map_list replies_at (values l.fn.told)) ≡ done ++ replies_lines (map_list replies_at (values l.left)))
    × Appends (g.W.Write.contents l.fn.output.writer) (g.W.Write.contents l.output.writer) (joined done))
    × (l.output.calls.failed ≡ l.fn.output.calls.failed)

abbrev pub decreases-grains : goal.decreases-grains
decreases-grains g l = length l.left.entries
