use Rattle.std.proofs.Common.{drop}
use Rattle.tenant_audit.specs.inside.Parted.{pointees}
use Rattle.tenant_audit.proofs.Walked.{Walked}
use Rattle.tenant_audit.proofs.rows.first_row_apart.Given as goal

-- the rows so far are alike
abbrev pub invariant-recorded : goal.invariant-recorded
invariant-recorded l = Walked (pointees l.recorded) l.fn.own (pointees (drop l.stored-index l.recorded)) l.held
