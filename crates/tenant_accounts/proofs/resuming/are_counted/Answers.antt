use Rattle.std.proofs.Common.{◌≤◌, refl, subst, arith}
use Rattle.std.proofs.lemmas.List.{take_all}
use Rattle.std.proofs.lemmas.List.Elements.{All-more}
use Rattle.tenant_accounts.specs.Kept.{last_number}
use Rattle.tenant_accounts.specs.Parts.{AreCounted}
use Rattle.tenant_accounts.specs.declared.parts.AccountParts.{AccountParts}
use Rattle.tenant_accounts.proofs.resuming.are_counted.Goals as goal

pub parts-preserved : goal.parts-preserved
parts-preserved c =
    let part = c.part-item.result in
    let fits : part.count ≤ last_number = omega (arith, c.if-part-gt-LAST_NUMBER.false) in
    All-more (λ (p : AccountParts). p.count ≤ last_number) c.args.kept.now c.parts.part-index part c.parts-test.true c.parts.invariant (subst (λ (p : AccountParts). p.count ≤ last_number) c.part-item.is fits)

pub returns : goal.returns
returns c = (λ _. subst AreCounted (take_all c.parts.part-index c.args.kept.now c.parts-test.false) c.parts.invariant, λ _. refl)
