use Rattle.std.proofs.Common.{◌≡◌, drop}
use Rattle.audit_model.specs.Parts.{all_recorded}
use Rattle.tenant_audit.specs.inside.Parted.{pointees}
use Rattle.tenant_audit.proofs.Walked.{Walked}
use Rattle.tenant_audit.proofs.replies.first_reply_apart.Given as goal

-- the replies so far are alike
abbrev pub invariant-recorded : goal.invariant-recorded
invariant-recorded l = record {
  walked : Walked (pointees l.recorded) (all_recorded l.fn.replies) (pointees (drop l.told-index l.recorded)) (all_recorded l.given);
  counted : l.place ≡ l.told-index;
}
