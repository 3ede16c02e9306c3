use Rattle.std.proofs.Common.{◌≡◌, ◌≤◌, length, drop, ap, sym, subst, rules}
use Rattle.std.proofs.lemmas.List.{drop_all, nil_from_length}
use Rattle.grain_id.specs.Names.{Grain}
use Rattle.grain_storage.specs.Memory.{rows_of}
use Rattle.audit_model.specs.Difference.{RowsDifferAt}
use Rattle.tenant_audit.specs.inside.Comparison.{lesser_of}
use Rattle.tenant_audit.specs.inside.Parted.{pointees}
use Rattle.tenant_audit.proofs.Walked.{one_walked, next_is}
use Rattle.tenant_audit.proofs.RowsWalked.{row_apart, row_left, row_over, rows_same}
use Rattle.tenant_audit.proofs.rows.first_row_apart.Goals as goal

pub returns-in_default : goal.returns-in_default
returns-in_default c = λ rows listed.
    let recorded = c.args.recorded.now in
    let e = c.stored-item.result in
    let i = c.recorded.stored-index in
    let copied : c.in_ok-clone.field-0 ≡ e.now.0 = search rules in
    subst (λ (g : Grain). RowsDifferAt (rows_of (pointees recorded)) rows g) (sym copied)
    (row_over (pointees recorded) c.args.own.now rows c.requires listed (pointees (drop i recorded)) c.recorded.held.now c.recorded.invariant e.now _ (next_is recorded i e c.recorded-test.true c.stored-item.is)
    (nil_from_length c.recorded.held.now c.in_default.ensures.cases))

pub returns-then-not-is_same : goal.returns-then-not-is_same
returns-then-not-is_same c = λ rows listed.
    let recorded = c.args.recorded.now in
    let e = c.stored-item.result in
    let i = c.recorded.stored-index in
    let f = c.in-Some.row.now in
    let least : c.in_ok-lesser.field-0 ≡ lesser_of e.now.0 f.0 = search rules in
    let unlike : e.now ≡ f → ⊥ = search rules in
    subst (λ (g : Grain). RowsDifferAt (rows_of (pointees recorded)) rows g) (sym least)
    (row_apart (pointees recorded) c.args.own.now rows c.requires listed (pointees (drop i recorded)) c.recorded.held.now c.recorded.invariant e.now _ (next_is recorded i e c.recorded-test.true c.stored-item.is)
    f c.in-Some.others.now c.in-Some.ensures.cases.0 unlike)

pub recorded-preserved : goal.recorded-preserved
recorded-preserved c =
    let recorded = c.args.recorded.now in
    let e = c.stored-item.result in
    let i = c.recorded.stored-index in
    let f = c.in-Some.row.now in
    let same : e.now ≡ f = search rules in
    one_walked (pointees recorded) c.args.own.now (pointees (drop i recorded)) c.recorded.held.now c.recorded.invariant e.now f _ _ (next_is recorded i e c.recorded-test.true c.stored-item.is) c.in-Some.ensures.cases.0 same

pub returns-in_ok-clone-in-Some-split_first : goal.returns-in_ok-clone-in-Some-split_first
returns-in_ok-clone-in-Some-split_first c = λ rows listed.
    let recorded = c.args.recorded.now in
    let i = c.recorded.stored-index in
    let f = c.in-Some-split_first.row.now in
    let over : length recorded ≤ i = search rules in
    let copied : c.in_ok-clone-in-Some-split_first.field-0 ≡ f.0 = search rules in
    subst (λ (g : Grain). RowsDifferAt (rows_of (pointees recorded)) rows g) (sym copied)
    (row_left (pointees recorded) c.args.own.now rows c.requires listed (pointees (drop i recorded)) c.recorded.held.now c.recorded.invariant f _ (ap pointees (drop_all i recorded over)) c.in-Some-split_first.ensures.cases.0)

pub returns-in-None : goal.returns-in-None
returns-in-None c = λ rows listed.
    let recorded = c.args.recorded.now in
    let i = c.recorded.stored-index in
    let over : length recorded ≤ i = search rules in
    rows_same (pointees recorded) c.args.own.now rows c.requires listed (pointees (drop i recorded)) c.recorded.held.now c.recorded.invariant (ap pointees (drop_all i recorded over)) (nil_from_length c.recorded.held.now c.in-None.ensures.cases)
