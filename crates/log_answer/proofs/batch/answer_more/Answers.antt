use Rattle.std.proofs.Common.{rules, ◌≡◌, string_bytes}
use Rattle.log_answer.proofs.Left.{gathered_if}
use Rattle.log_answer.proofs.batch.answer_more.Goals as goal

pub returns-clause-gathers : goal.returns-clause-gathers
returns-clause-gathers g c =
    let is : c.as_bytes.result.now ≡ string_bytes c.answer_well.new.tools.text = search rules in
    gathered_if c.add.result _ _ _ _ _ _ _ _ _ _ _ _ _ c.kept_part-kept.ensures is c.in_ok-answer_well.ensures.leads c.add.ensures.asked c.add.ensures.text
