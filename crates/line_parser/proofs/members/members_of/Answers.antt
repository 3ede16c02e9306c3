use Rattle.std.proofs.Common.{sym, eqb-true, ◌∙◌}
use Rattle.line_parser.proofs.members.members_of.Goals as goal

pub returns : goal.returns
returns c =
    c.with_value-2.ensures _ (λ six. absurd (c.if-count-eq6.false (eqb-true _ _ (sym (c.requires 6) ∙ six)))) (λ five. absurd (c.if-count-eq5.false (eqb-true _ _ (sym (c.requires 5) ∙ five))))
