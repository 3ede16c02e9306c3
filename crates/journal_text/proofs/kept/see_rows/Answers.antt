use Rattle.journal_text.proofs.Common.{arith, subst}
use Rattle.journal_text.specs.inside.Kept.{KeepsRow}
use Rattle.std.proofs.lemmas.List.Elements.{All-more}
use Rattle.journal_text.proofs.KeptRules.{all_taken}
use Rattle.journal_text.proofs.kept.see_rows.Goals as goal

pub rows-preserved : goal.rows-preserved
rows-preserved c =
    All-more KeepsRow c.args.rows.now c.rows.grain-index c.rows-item.result (omega (arith, c.rows-test.true, c.rows.auto.grain-index-end)) c.rows.invariant
    (subst KeepsRow c.rows-item.is c.see_row.ensures)

pub returns : goal.returns
returns c = all_taken KeepsRow c.args.rows.now c.rows.grain-index (omega (arith, c.rows-test.false, c.rows.auto.grain-index-end)) c.rows.invariant
