use Rattle.std.proofs.Common.{List, ℕ, subst}
use Rattle.line_parser.specs.inside.Argument.{PutsValue}
use Rattle.line_parser.proofs.Noted.{value_asked_for}
use Rattle.line_parser.proofs.line_members.take_value.Goals as goal

pub returns-clause-value : goal.returns-clause-value
returns-clause-value c =
    let v = subst (λ (l : List ℕ). PutsValue 126 c.args.reader.now c.put_value.new.reader l c.put_value.new.out.items c.none-faults.result c.put_value.new.faults) c.clear.ensures.items c.in_ok-put_value.ensures.value in
    value_asked_for c.args.reader.now c.put_value.new.reader c.put_value.new.out.items c.none-faults.result c.put_value.new.faults c.refusal.result c.none-faults.ensures.deep c.none-faults.ensures.whole v c.refusal.ensures
