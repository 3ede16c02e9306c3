use Rattle.std.proofs.Common.{◌≡◌, ◌+◌, rules}
use Rattle.line_parser.proofs.line_members.take_member.Goals as goal

pub returns : goal.returns
returns c =
    let more : c.in_ok-count.count ≡ c.args.members.now.count + 1 = search rules in
    c.in_ok-take_uncounted.ensures c.in_ok-count.count more
