use Rattle.silo_model.proofs.Common.{◌∙◌, ◌≡◌, Machine, ap, length, sym}
use Rattle.std.specs.FinMap as map
use Rattle.std.proofs.lemmas.List.{length-map}
use Rattle.silo_state.specs.Shown.{entry_of, request_of}
use Rattle.tenant_machine.specs.inside.Requests.{seen_at}
use Rattle.tenant_machine.proofs.Gate.{new_free, again_free}
use Rattle.tenant_machine.proofs.machine.TenantMachine.no_room.Goals as goal

pub returns-then-len-limits : goal.returns-then-len-limits
returns-then-len-limits g c =
    let m = c.args.self.now in
    let grain = c.args.grain.now in
    let absent = ap (λ (x : Machine). map.get x.entries grain) (sym c.self.view_is) ∙ sym c.in_default.ensures.entry in
    let count = c.len.ensures.count ∙ ap (λ (x : Machine). map.len x.entries) c.self.view_is in
    new_free (seen_at m grain) grain c.args.account.now (map.get m.entries grain) absent (rw (← count, ← c.limits-limits.ensures) c.if-len-limits.true)

pub returns-then-len-limits-2 : goal.returns-then-len-limits-2
returns-then-len-limits-2 g c =
    let m = c.args.self.now in
    let grain = c.args.grain.now in
    let a = c.in-Some.activation.now in
    let found = ap (λ (x : Machine). map.get x.entries grain) (sym c.self.view_is) ∙ sym c.in-Some.ensures.entry in
    let count : c.len-2.result ≡ length (entry_of a).queue = c.len-2.ensures.count ∙ sym (length-map a.mailbox.waiting request_of) in
    again_free (seen_at m grain) grain c.args.account.now (map.get m.entries grain) (entry_of a) found (rw (← count, ← c.limits-limits.ensures) c.if-len-limits-2.true)
