use Rattle.std.proofs.Common.{◌≡◌, ℕ, ◌<◌, ◌≤◌, length, get_or, vec_capacity}
use Rattle.tenant_audit.specs.inside.Parts.{IsShareOf}
use Rattle.tenant_audit.proofs.parts.SharedAudit.start_parts.Given as goal

-- there is a thread for each share so far, and room for the others
abbrev pub invariant-places : goal.invariant-places
invariant-places g l = record {
  len : length l.handles.items ≡ l.place;
  room : l.self.threads ≤ vec_capacity l.handles;
  each : (k : ℕ) (d : _) → k < l.place → IsShareOf l.self.journal.now l.self.tenants.now k l.self.threads (get_or l.handles.items k d).promise;
}
