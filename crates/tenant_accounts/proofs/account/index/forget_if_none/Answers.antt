use Rattle.std.proofs.Common.{rules, ◌≡◌, length, None, Some, sym}
use Rattle.std.proofs.lemmas.List.{nil_from_length}
use Rattle.tenant_accounts.proofs.Queues.{puts_same}
use Rattle.tenant_accounts.proofs.account.index.forget_if_none.Goals as goal

pub returns-then-is_empty : goal.returns-then-is_empty
returns-then-is_empty c =
    let numbers = c.in-Some.numbers.now in
    let none : length numbers.items ≡ 0 = search rules in
    puts_same c.args.index.now c.remove.new.self c.args.grain.now (Some numbers) c.in-Some.ensures.value None c.remove.ensures.updates.0 (sym (nil_from_length numbers.items none))
