use Rattle.std.proofs.Common.{nat_eq, sym, ap, ◌∙◌}
use Rattle.serde_json.proofs.Views.{members_len-members_view}
use Rattle.line_parser.specs.Form.{has_count}
use Rattle.line_parser.proofs.members.count_of.Goals as goal

pub returns-in-Some : goal.returns-in-Some
returns-in-Some c n =
    sym (ap (λ m. nat_eq m n) (c.len.ensures.len ∙ sym (members_len-members_view c.in-Some.members.now.entries)) ∙ ap (has_count n) c.in-Some.ensures)
