use Rattle.journal_text.proofs.Common.{All, take}
use Rattle.journal_text.specs.inside.Kept.{KeepsRow}
use Rattle.journal_text.proofs.kept.see_rows.Given as goal

abbrev pub invariant-rows : goal.invariant-rows
invariant-rows l = All KeepsRow (take l.grain-index l.rows)
