use Rattle.std.proofs.Common.{rules, ◌≡◌, ◌++◌, Some, None, append_assoc, ap, refl, codes, decimal}
use Rattle.tenant_audit.specs.declared.difference.Difference.TheVariants.{Step, Reply, Row}
use Rattle.tenant_audit.proofs.Lines.{line_told, said_at}
use Rattle.tenant_audit.proofs.report_lines.line_of.Goals as goal

pub returns-in-None : goal.returns-in-None
returns-in-None c =
    let r = c.args.report.now in
    let said : decimal r.steps ++ (codes " steps, " ++ (decimal r.replies ++ (codes " replies, " ++ (decimal r.rows ++ codes " rows\n")))) ≡ said_at r None = simp append_assoc in
    line_told c.format.result r None c.text-tenant.result.now _ c.in-None.is c.text-tenant.ensures.text said c.format.ensures.ok

pub returns-in-Some-Step : goal.returns-in-Some-Step
returns-in-Some-Step c =
    let r = c.args.report.now in
    let number = c.in-Some-Step.number in
    let is : r.difference ≡ Some (Step number) = search rules in
    line_told c.format-in-Some-Step.result r _ c.text-tenant.result.now (codes "step " ++ (decimal number ++ codes " differs\n")) is c.text-tenant.ensures.text refl c.format-in-Some-Step.ensures.ok

pub returns-in-Some-Reply : goal.returns-in-Some-Reply
returns-in-Some-Reply c =
    let r = c.args.report.now in
    let number = c.in-Some-Reply.number in
    let is : r.difference ≡ Some (Reply number) = search rules in
    line_told c.format-in-Some-Reply.result r _ c.text-tenant.result.now (codes "reply " ++ (decimal number ++ codes " differs\n")) is c.text-tenant.ensures.text refl c.format-in-Some-Reply.ensures.ok

pub returns-in-Some-Row : goal.returns-in-Some-Row
returns-in-Some-Row c =
    let r = c.args.report.now in
    let grain = c.in-Some-Row.grain in
    let is : r.difference ≡ Some (Row grain) = search rules in
    let said = ap (λ text. codes "row " ++ (text ++ codes " differs\n")) c.text-grain.ensures.text in
    line_told c.format-in-Some-Row.result r _ c.text-tenant.result.now _ is c.text-tenant.ensures.text said c.format-in-Some-Row.ensures.ok
