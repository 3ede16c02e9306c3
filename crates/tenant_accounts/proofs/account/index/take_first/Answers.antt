use Rattle.std.proofs.Common.{Some, ◌++◌, refl, ap, sym, ◌∙◌}
use Rattle.tenant_accounts.specs.inside.Undelivered.{only_at}
use Rattle.std.specs.Option.{option_to_list}
use Rattle.tenant_accounts.proofs.Queues.{puts_first_out}
use Rattle.tenant_accounts.proofs.account.index.take_first.Goals as goal

pub returns-clause-rest : goal.returns-clause-rest
returns-clause-rest c g =
    let after = c.pop_front-first.new.self in
    let found = c.pop_front-first.result in
    let puts = ((c.get_mut.follows.holds after).3 (rw (sym c.in-Some.ensures.value) refl)).0 in
    puts_first_out c.args.index.now (c.get_mut.follows.lender after) c.args.grain.now (Some c.in-Some.numbers.now) c.in-Some.ensures.value (Some after) puts found c.pop_front-first.ensures.items g
    ∙ ap (λ ns. only_at c.args.grain.now (option_to_list found) g ++ ns) (sym (c.forget_if_none.ensures g))
