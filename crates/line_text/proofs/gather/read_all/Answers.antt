use Rattle.std.proofs.Common.{Ok, ap, ◌∙◌, arith}
use Rattle.std.proofs.lemmas.Grind.{common_steps}
use Rattle.line_text.proofs.ReadLines.{same_said}
use Rattle.line_text.proofs.Gathering.{gathered_none, gathered_more, gathered_kept, gathered_all, gathered_full}
use Rattle.line_text.proofs.gather.read_all.Goals as goal

pub lines-init : goal.lines-init
lines-init g c = (gathered_none _ _ c.new-all.ensures.items, grind (arith, common_steps))

pub lines-preserved : goal.lines-preserved
lines-preserved g c =
    let w = c.in_ok-next_line.ensures.line (ap Ok c.if-not-branch.false) in
    let same = same_said c.line.result.now c.next_line.new.self.line _ _ c.line.ensures w in
    (gathered_more _ _ _ _ c.lines.invariant.0 w.line c.in_ok-said.said c.push.new.self.items w.taken (c.in_ok-said.ensures ∙ same) c.in-Ok.ensures.items, grind (arith, common_steps))

pub returns-clause-ok : goal.returns-clause-ok
returns-clause-ok g c =
    let ended = c.in_ok-fill.ensures in
    let none = ap Ok c.if-branch.false in
    gathered_all _ c.fill.new.self _ _ (ended.none none) (ended.end none) (gathered_kept _ _ _ _ c.lines.invariant.0 ended.bytes)

pub returns-then-branch-clause-err : goal.returns-then-branch-clause-err
returns-then-branch-clause-err g c =
    gathered_full _ c.fill.new.self _ _ (omega arith) (c.in_ok-fill.ensures.some (ap Ok c.if-branch.true)) (gathered_kept _ _ _ _ c.lines.invariant.0 c.in_ok-fill.ensures.bytes)
