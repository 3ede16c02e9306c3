use Rattle.std.proofs.Common.{◌≡◌, ◌∷◌, [], ◌++◌, Some, None, refl, ap, sym, ◌∙◌, subst}
use Rattle.std.proofs.lemmas.Result.{err_from_is_err_and}
use Rattle.grain_id.specs.Names.{Grain}
use Rattle.tenant_accounts.specs.inside.Undelivered.{Index}
use Rattle.tenant_accounts.proofs.Queues.{Puts, puts_same, puts_last}
use Rattle.tenant_accounts.proofs.account.index.add_last.Goals as goal

pub returns-in_err-push_back-clause-unchanged : goal.returns-in_err-push_back-clause-unchanged
returns-in_err-push_back-clause-unchanged c =
    let p = err_from_is_err_and c.from_residual.result c.from_residual.ensures.1 in
    let after = c.push_back.new.self in
    let puts = ((c.get_mut.follows.holds after).3 (rw (sym c.in-Some.ensures.value) refl)).0 in
    rw p.1 (puts_same c.args.index.now (c.get_mut.follows.lender after) c.args.grain.now (Some c.in-Some.numbers.now) c.in-Some.ensures.value (Some after) puts c.in_err-push_back.ensures.items)

pub returns-in-Some-clause-done : goal.returns-in-Some-clause-done
returns-in-Some-clause-done c =
    let after = c.push_back.new.self in
    let puts = ((c.get_mut.follows.holds after).3 (rw (sym c.in-Some.ensures.value) refl)).0 in
    puts_last c.args.index.now (c.get_mut.follows.lender after) c.args.grain.now (Some c.in-Some.numbers.now) c.in-Some.ensures.value (Some after) puts c.args.number c.in_ok-push_back.ensures.items

pub returns-clause-done : goal.returns-clause-done
returns-clause-done c =
    let queue = c.push_back-2.new.self in
    let items : queue.items ≡ c.args.number ∷ [] = c.in_ok-push_back-2.ensures.items ∙ ap (λ ns. ns ++ c.args.number ∷ []) c.new-numbers.ensures.items in
    let same = c.get_mut.follows.holds-at-none in
    let puts = subst (λ (m : Index). Puts m c.insert.new.self c.in_ok-clone.field-0 (Some queue)) same c.in_ok-insert.ensures.updates.0 in
    puts_last c.args.index.now c.insert.new.self c.args.grain.now None c.in_default.ensures.value (Some queue)
    (subst (λ (g : Grain). Puts c.args.index.now c.insert.new.self g (Some queue)) c.in_ok-clone.ensures.cases puts) c.args.number
    items
