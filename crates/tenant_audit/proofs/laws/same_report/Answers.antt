use Rattle.std.proofs.Common.{◌≡◌, subst, sym}
use Rattle.journal_text.specs.Text.{History}
use Rattle.grain_kinds.specs.Kinds.{logic_of}
use Rattle.audit_model.specs.Report.{IsReport}
use Rattle.tenant_audit.proofs.laws.same_report.Goals as goal

pub returns : goal.returns
returns c bytes text j k reports others moved read also report other =
    let same : j ≡ k = c.one_journal.ensures.journal text j k (c.migrated_is_same.ensures.same bytes text j moved read) also in
    c.one_report.ensures (logic_of j.kinds) j reports others report (subst (λ (h : History). IsReport (logic_of h.kinds) h others) (sym same) other)
