use Rattle.std.proofs.Common.{◌≡◌, true, false, Some, is_some, take, ap, sym, ◌∙◌, ◌∷◌, [], ◌++◌, subst, ◌+◌}
use Rattle.indexmap.specs.IndexMap.{get_by_text}
use Rattle.std.proofs.lemmas.List.{take_more}
use Rattle.tenant_gate.specs.inside.Index.{HasLimits}
use Rattle.tenant_gate.proofs.IndexLemmas.{HasLimits-push, repeat_next}
use Rattle.tenant_gate.proofs.table.index_of.Goals as goal

pub returns-then-contains_key : goal.returns-then-contains_key
returns-then-contains_key c =
    let entry = c.loop-tenant-item.result in
    let found : is_some (get_by_text c.loop-tenant.index entry.0) ≡ true = ap (λ n. is_some (get_by_text c.loop-tenant.index n)) (sym c.text.ensures.text) ∙ sym c.if-contains_key.ensures in
    c.loop-tenant.invariant.repeat
    ∙ repeat_next c.args.list.now c.loop-tenant.tenant-index entry c.loop-tenant-test.true c.loop-tenant-item.is c.loop-tenant.index c.loop-tenant.invariant.limits true found
    ∙ ap Some (sym c.in_ok-clone.ensures.cases)

pub loop-tenant-preserved : goal.loop-tenant-preserved
loop-tenant-preserved c =
    let list = c.args.list.now in
    let i = c.loop-tenant.tenant-index in
    let entry = c.loop-tenant-item.result in
    let absent : is_some (get_by_text c.loop-tenant.index entry.0) ≡ false = ap (λ n. is_some (get_by_text c.loop-tenant.index n)) (sym c.text.ensures.text) ∙ sym c.if-contains_key.ensures in
    let longer : take i list ++ entry ∷ [] ≡ take (i + 1) list = ap (λ e. take i list ++ e ∷ []) c.loop-tenant-item.is ∙ sym (take_more list i entry c.loop-tenant-test.true) in
    record {
      repeat = c.loop-tenant.invariant.repeat ∙ repeat_next list i entry c.loop-tenant-test.true c.loop-tenant-item.is c.loop-tenant.index c.loop-tenant.invariant.limits false absent;
      limits = subst (λ t. HasLimits t c.add.new.index) longer (HasLimits-push (take i list) c.loop-tenant.index c.loop-tenant.invariant.limits entry.0 entry.1 c.add.new.index absent c.in_ok-add.ensures);
    }
