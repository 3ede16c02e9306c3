use Rattle.std.proofs.Common.{◌∙◌, ap, sym, append_assoc}
use Rattle.log_text.specs.Lines.{ended}
use Rattle.log_text.specs.Sums.{after, spelled}
use Rattle.log_text.specs.Head.{summed_head}
use Rattle.log_text.specs.Reading.{same_text}
use Rattle.log_text.proofs.Heads.{before_sum, other_head, whole_head}
use Rattle.log_text.proofs.Spelled.{spells_plain}
use Rattle.log_text.proofs.head.cut_head.Goals as goal

pub returns-in_default : goal.returns-in_default
returns-in_default c number behind fine is =
    let sum = after 0 (summed_head c.args.words.now number) in
    c.in_default.ensures number (spelled sum) behind fine (spells_plain sum) (is ∙ append_assoc (summed_head c.args.words.now number) (ended (spelled sum)) behind)

pub returns-then-is_same : goal.returns-then-is_same
returns-then-is_same c =
    let found = c.in-Some.ensures in
    let front = before_sum c.args.words.now c.in-Some.number.now c.in-Some.given.now c.in-Some.behind.now c.args.bytes.now found.2 in (
      found.0,
      whole_head c.args.words.now c.in-Some.number.now c.in-Some.given.now c.in-Some.behind.now c.args.bytes.now c.sum_after-sum.result found.2
          (c.sum_after-sum.ensures ∙ ap (after 0) front) (ap (same_text c.in-Some.given.now) (sym c.spell.ensures) ∙ sym c.is_same.ensures ∙ c.if-is_same.true),
    )

pub returns-else-is_same : goal.returns-else-is_same
returns-else-is_same c number behind fine is =
    let found = c.in-Some.ensures in
    let front = before_sum c.args.words.now c.in-Some.number.now c.in-Some.given.now c.in-Some.behind.now c.args.bytes.now found.2 in
    other_head c.args.words.now c.in-Some.number.now c.in-Some.given.now c.in-Some.behind.now number behind c.args.bytes.now c.sum_after-sum.result found.0 found.1 found.2
    (c.sum_after-sum.ensures ∙ ap (after 0) front) (ap (same_text c.in-Some.given.now) (sym c.spell.ensures) ∙ sym c.is_same.ensures ∙ c.if-is_same.false) fine is
