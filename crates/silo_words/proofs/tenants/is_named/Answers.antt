use Rattle.std.proofs.Common.{ℕ, Bool, ◌||◌, List, ap, ap₂, sym, ◌∙◌}
use Rattle.std.proofs.lemmas.List.Folds.{list_any_more, list_any_at}
use Rattle.grain_id.specs.Names.{same_text}
use Rattle.tenant_gate.specs.declared.limits.Limits.{Limits}
use Rattle.silo_words.proofs.tenants.is_named.Goals as goal

pub returns-then-is_same : goal.returns-then-is_same
returns-then-is_same c =
    let test : List ℕ × Limits → Bool = λ entry. same_text c.args.tenant.now entry.0 in
    let entry = c.loop-named-item.result in
    sym (list_any_at test c.args.list.now c.loop-named.named-index entry c.loop-named-test.true (ap test (sym c.loop-named-item.is) ∙ sym c.if-is_same.ensures))

pub loop-named-preserved : goal.loop-named-preserved
loop-named-preserved c =
    let test : List ℕ × Limits → Bool = λ entry. same_text c.args.tenant.now entry.0 in
    let entry = c.loop-named-item.result in
    list_any_more test c.args.list.now c.loop-named.named-index entry c.loop-named-test.true
    ∙ ap₂ (λ (a b : Bool). a || b) c.loop-named.invariant (ap test (sym c.loop-named-item.is) ∙ sym c.if-is_same.ensures)
