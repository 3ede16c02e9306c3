use Rattle.std.proofs.Common.{◌≡◌, ◌++◌, drop}
use Rattle.std.specs.Prelude.{flat_map}
use Rattle.log_text.specs.Head.{kind_line}
use Rattle.data_command.proofs.head.push_ages.Given as goal

abbrev pub invariant-ages : goal.invariant-ages
invariant-ages l = l.text.items ++ flat_map kind_line (drop l.kind-index l.ages) ≡ l.initial.text.items ++ flat_map kind_line l.ages
