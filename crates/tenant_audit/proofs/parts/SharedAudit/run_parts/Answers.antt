use Rattle.std.proofs.Common.{◌≡◌, length, arith, rules}
use Rattle.std.proofs.lemmas.Result.{IfOk-weaker}
use Rattle.tenant_audit.proofs.PartsGiven.{as_many, parts_given}
use Rattle.tenant_audit.proofs.parts.SharedAudit.run_parts.Goals as goal

pub returns-clause-len : goal.returns-clause-len
returns-clause-len g c =
    let handles = c.in_ok-handles.handles.items in
    let joined : length c.in-Ok.results.items ≡ length handles = search rules in
    IfOk-weaker c.joined_parts.result _ _
    (λ parts given. as_many c.args.self.now.threads handles c.in-Ok.results.items parts.items c.in_ok-handles.all_started c.in_ok-handles.ensures.all joined given)
    c.joined_parts.ensures.parts

pub returns-clause-each : goal.returns-clause-each
returns-clause-each g c =
    let w = c.args.self.now.threads in
    let handles = c.in_ok-handles.handles.items in
    let results = c.in-Ok.results.items in
    let joined : length results ≡ length handles = search rules in
    IfOk-weaker c.joined_parts.result _ _
    (λ parts given.
    let started : length handles ≡ w = c.in_ok-handles.ensures.all given.0 in
    parts_given c.args.self.now.journal.now c.args.self.now.tenants.now w handles results
    (λ k d below. c.in_ok-handles.ensures.each k d (omega (arith, below, started)))
    (λ k d below. let kept = (c.in-Ok.ensures.each k d (omega (arith, below, started))).1 in (kept.handle, kept.handle_is, kept.kept))
    parts.items given.1 (as_many w handles results parts.items c.in_ok-handles.all_started c.in_ok-handles.ensures.all joined given))
    c.joined_parts.ensures.parts
