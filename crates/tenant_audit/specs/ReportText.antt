-- How a report is told: a line for each tenant.
use Rattle.std.specs.Prelude.{ℕ, List, ◌++◌, Option, Some, None, codes, decimal}
use Rattle.grain_id.specs.Names.{grain_text}
use Rattle.audit_model.specs.Difference.{Difference, at_step, at_reply, at_row}
use Rattle.audit_model.specs.Report.{TenantReport}

-- how many steps, replies and rows there are, or where the first difference is
abbrev pub said_of : TenantReport → Option Difference → List ℕ
said_of r None = decimal r.steps ++ codes " steps, " ++ decimal r.replies ++ codes " replies, " ++ decimal r.rows ++ codes " rows\n"
said_of r (Some (at_step n)) = codes "step " ++ decimal n ++ codes " differs\n"
said_of r (Some (at_reply n)) = codes "reply " ++ decimal n ++ codes " differs\n"
said_of r (Some (at_row grain)) = codes "row " ++ grain_text grain ++ codes " differs\n"

abbrev pub report_line : TenantReport → List ℕ
report_line r = codes "tenant " ++ r.tenant ++ codes ": " ++ said_of r r.difference
