use Rattle.silo_model.proofs.Common.{◌∙◌, ap, restricted_to}
use Rattle.journal_text.specs.Text.{History}
use Rattle.tenant_audit.specs.inside.Parted.{merged}
use Rattle.tenant_audit.proofs.Merged.{both_merged}
use Rattle.tenant_audit.proofs.parted_journal.PartedJournal.steps_for.Goals as goal

pub returns : goal.returns
returns c =
    let tenant = c.args.tenant.now in
    let journal = c.self.inside.journal.now in
    c.new.ensures
    ∙ (λ i. merged (c.of_tenant.ensures i) (c.as_slice.ensures.value i))
    ∙ both_merged tenant journal.steps _ _ (c.self.invariant.own tenant) c.self.invariant.of_nobody
    ∙ ap (λ (j : History). restricted_to tenant j.steps) c.self.view_is
