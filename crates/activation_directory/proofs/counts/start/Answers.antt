use Rattle.std.proofs.Common.{rules, ℕ, List, Some, subst}
use Rattle.std.specs.Prelude.{bytes_eq, string_bytes}
use Rattle.std.specs.String.{string_eq}
use Rattle.indexmap.specs.IndexMap.{UpdatesBy}
use Rattle.activation_directory.proofs.Numbers.{SameNumbers-from_zero}
use Rattle.activation_directory.proofs.counts.start.Goals as goal

pub returns-in_ok-insert-clause-same : goal.returns-in_ok-insert-clause-same
returns-in_ok-insert-clause-same c =
    let updates = subst (λ (t : List ℕ). UpdatesBy string_eq (λ k. bytes_eq t (string_bytes k)) c.args.numbers.now c.insert.new.self (Some 0)) c.in_ok-from_str.ensures.ok c.in_ok-insert.ensures.updates in
    SameNumbers-from_zero c.args.numbers.now c.insert.new.self c.args.tenant.now updates (search rules)
