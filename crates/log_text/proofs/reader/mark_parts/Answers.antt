use Rattle.std.proofs.Common.{◌++◌, ◌∷◌}
use Rattle.log_text.proofs.Marks.{no_space, parted_there}
use Rattle.log_text.proofs.reader.mark_parts.Goals as goal

pub returns-in_default-behind : goal.returns-in_default-behind
returns-in_default-behind c told sum sized is =
    c.in_default-behind.ensures (told ++ 32 ∷ sum) (parted_there c.args.name.now c.args.asked.now told sum c.args.line.now c.in-Some.rest.now c.in-Some.ensures is)

pub returns-in_default-behind-2 : goal.returns-in_default-behind-2
returns-in_default-behind-2 c told sum sized is =
    no_space c.in-Some.rest.now c.in-Some-behind.rest.now c.in-Some-split_at_checked.rest.now told sum c.in-Some-behind.ensures
    c.in-Some-split_at_checked.ensures.cases.2 c.in_default-behind-2.ensures sized
    (parted_there c.args.name.now c.args.asked.now told sum c.args.line.now c.in-Some.rest.now c.in-Some.ensures is)
