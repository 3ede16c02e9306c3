use Rattle.std.proofs.Common.{◌∙◌, ◌++◌, ap, sym}
use Rattle.log_text.specs.Sums.{after, own_sums}
use Rattle.log_text.specs.Reading.{same_text}
use Rattle.log_text.specs.Batches.{mark_start}
use Rattle.log_text.proofs.CutBytes.{before_end}
use Rattle.log_text.proofs.Marks.{other_sum, own_sum}
use Rattle.log_text.proofs.reader.close.Goals as goal

pub returns-then-is_same : goal.returns-then-is_same
returns-then-is_same c =
    let mark = c.in-Some.ensures in
    let front = before_end c.args.line.now (mark_start own_sums c.args.name.now c.args.asked.now c.in-Some.told.now) c.in-Some.given.now mark.0 in
    let next = c.sum_after_both-next.ensures ∙ ap (λ l. after c.args.sum (c.args.asked.now ++ l)) front in (
      own_sum c.args.name.now c.args.asked.now c.args.line.now c.in-Some.told.now c.in-Some.given.now c.args.sum c.sum_after_both-next.result
          mark.0 next (ap (same_text c.in-Some.given.now) (sym c.spell.ensures) ∙ sym c.is_same.ensures ∙ c.if-is_same.true),
      mark.1,
      next,
    )

pub returns-else-is_same : goal.returns-else-is_same
returns-else-is_same c told sized is =
    let mark = c.in-Some.ensures in
    let front = before_end c.args.line.now (mark_start own_sums c.args.name.now c.args.asked.now c.in-Some.told.now) c.in-Some.given.now mark.0 in
    let next = c.sum_after_both-next.ensures ∙ ap (λ l. after c.args.sum (c.args.asked.now ++ l)) front in
    other_sum c.args.name.now c.args.asked.now c.args.line.now c.in-Some.told.now c.in-Some.given.now told c.args.sum c.sum_after_both-next.result
    mark.0 mark.1 next (ap (same_text c.in-Some.given.now) (sym c.spell.ensures) ∙ sym c.is_same.ensures ∙ c.if-is_same.false) sized is
