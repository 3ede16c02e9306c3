use Rattle.silo_model.proofs.Common.{◌∙◌, Grain, List, Row, subst}
use Rattle.std.proofs.Common.{IfOk}
use Rattle.std.proofs.lemmas.Result.{IfOk-weaker}
use Rattle.grain_storage.specs.Memory.{rows_of}
use Rattle.tenant_audit.specs.inside.Comparison.{IsFirstRow}
use Rattle.tenant_audit.proofs.RowsWalked.{own_ascend}
use Rattle.tenant_audit.proofs.comparison.row_apart.Goals as goal

pub first_row_apart-requires : goal.first_row_apart-requires
first_row_apart-requires g c = own_ascend c.args.tenant.now c.args.journal.now _ c.rows_for.ensures.ascending c.rows_for.ensures.rows

pub returns : goal.returns
returns g c =
    let rows = c.args.machine.now.rows in
    subst (λ (recorded : List (Grain × Row)). IfOk c.first_row_apart.result (IsFirstRow (rows_of recorded) rows)) c.rows_for.ensures.rows
    (IfOk-weaker c.first_row_apart.result _ _ (λ grain apart. apart rows (c.as_slice.ensures.value ∙ c.in_ok-own.ensures)) c.first_row_apart.ensures)
