use Rattle.std.proofs.Common.{◌≡◌, ◌+◌, ap, rules}
use Rattle.json.specs.Json.{read_key}
use Rattle.json.specs.Lex.{tokens}
use Rattle.line_parser.proofs.plain_members.take_passed.Goals as goal

pub returns-clause-passed : goal.returns-clause-passed
returns-clause-passed c ts is =
    let more : c.in_ok-count.count ≡ c.args.members.now.count + 1 = search rules in
    record {
      name = c.args.name;
      behind = tokens c.args.value.now;
      key = ap read_key is;
      takes = λ l. c.in_ok-after.ensures.taken l c.in_ok-count.count more;
    }
