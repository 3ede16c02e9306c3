use Rattle.silo_model.proofs.Common.{◌++◌, ◌∙◌, Err, StorageFailed, ap, flat_map, refl, reply_to, sym}
use Rattle.silo_state.specs.Shown.{entry_of}
use Rattle.silo_state.proofs.Loads.{loads}
use Rattle.tenant_machine.proofs.Entering.{load_absent, load_not, load_done, load_failed}
use Rattle.tenant_machine.proofs.machine.TenantMachine.load.Goals as goal

pub returns-in_default : goal.returns-in_default
returns-in_default g c = rw (← c.self.view_is) (load_absent g.L.GrainLogic.logic _ c.args.grain.now c.args.failed (sym c.in_default.ensures.entry), refl)

pub returns-then-not-is_loading : goal.returns-then-not-is_loading
returns-then-not-is_loading g c =
    rw (← c.self.view_is) (load_not g.L.GrainLogic.logic _ c.args.grain.now c.args.failed (entry_of c.in-Some.activation.now) (sym c.in-Some.ensures.entry) (sym c.if-not-is_loading.ensures), refl)

pub returns-then-failed : goal.returns-then-failed
returns-then-failed g c =
    let e = entry_of c.in-Some.activation.now in
    let found = sym c.in-Some.ensures.entry in
    let is = loads e.phase (sym c.if-not-is_loading.ensures) in
    let told = c.unload.ensures.told e found ∙ ap (λ items. items ++ flat_map (λ q. reply_to q.sender (Err StorageFailed)) e.queue) c.in_ok-reserve.ensures.items in
    rw (← c.self.view_is) (load_failed g.L.GrainLogic.logic _ c.args.grain.now c.args.failed e found is c.unload.new.entries c.if-failed.true c.unload.new.replies.items c.unload.ensures.gone told)

pub returns-in-Ok : goal.returns-in-Ok
returns-in-Ok g c =
    let e = entry_of c.in-Some.activation.now in
    let found = sym c.in-Some.ensures.entry in
    let is = loads e.phase (sym c.if-not-is_loading.ensures) in
    rw (← c.self.view_is) (load_done g.L.GrainLogic.logic _ c.args.grain.now c.args.failed e found is c.make_ready.new.self c.if-failed.false c.in-Ok.state c.in-Ok.version c.read_state.new.storage
    (c.make_ready.ensures e found) c.in-Ok.ensures.0 c.in-Ok.ensures.1 c.in-Ok.ensures.2)
