use Rattle.std.proofs.Common.{rules, ◌≡◌, ◌∙◌, ◌++◌, refl, string_bytes}
use Rattle.log_answer.proofs.Passing.{asking_all, asking_more, asking_none}
use Rattle.log_answer.proofs.starting.answer_asked.Goals as goal

pub lines-init : goal.lines-init
lines-init g c = (asking_none _ _ _ _ _ _ (c.journal.ensures.idle c.requires) c.clear.ensures.items, c.requires, refl)

pub lines-preserved : goal.lines-preserved
lines-preserved g c =
    let is : c.extend_from_slice.new.self.items ≡ c.lines.text.items ++ string_bytes c.answer_well.new.tools.text = search rules in (
      asking_more _ _ _ _ _ _ _ _ _ _ _ _ _ _ _ c.lines.invariant.2 c.lines.invariant.0 c.in-Some.ensures c.in_ok-answer_well.ensures.leads is,
      c.in_ok-answer_well.ensures.ready,
      c.in_ok-answer_well.ensures.keeps ∙ c.lines.invariant.2,
    )

pub returns-in_default-clause-leads : goal.returns-in_default-clause-leads
returns-in_default-clause-leads g c = (asking_all _ _ _ _ _ _ _ _ _ c.lines.invariant.0 c.in_default.ensures).0
