use Rattle.std.proofs.Common.{◌++◌, false, refl, ap, sym, ◌∙◌}
use Rattle.std.specs.Prelude.{Err, flat_map}
use Rattle.std.specs.FinMap as map
use Rattle.std.proofs.lemmas.Option.{same_Some}
use Rattle.silo_event.specs.declared.fault.Fault.TheVariants.{StorageFailed}
use Rattle.silo_model.specs.Machine.{Entries, ready}
use Rattle.silo_model.specs.Calls.{reply_to}
use Rattle.silo_model.proofs.EntrySteps.{load_absent}
use Rattle.silo_state.specs.inside.Notes.{none_waits}
use Rattle.silo_state.specs.Shown.{entry_of}
use Rattle.silo_state.proofs.Loads.{loads, load_not, load_moves, load_marked, load_failed}
use Rattle.silo_state.proofs.state.SiloState.load.Goals as goal

pub returns-in_default : goal.returns-in_default
returns-in_default g c = (rw (← c.self.view_is) (load_absent g.L.GrainLogic.logic _ c.args.grain.now c.args.failed (sym c.in_default.ensures.entry)), refl)

pub returns-then-not-is_loading : goal.returns-then-not-is_loading
returns-then-not-is_loading g c =
    (rw (← c.self.view_is) (load_not g.L.GrainLogic.logic (record { whole = _; failures = 0 }) c.args.grain.now c.args.failed (entry_of c.in-Some.activation.now) (sym c.in-Some.ensures.entry) (sym c.if-not-is_loading.ensures)), refl)

pub returns-then-failed : goal.returns-then-failed
returns-then-failed g c =
    let e = entry_of c.in-Some.activation.now in
    let found = sym c.in-Some.ensures.entry in
    let told = c.unload.ensures.told e found ∙ ap (λ items. items ++ flat_map (λ q. reply_to q.sender (Err StorageFailed)) e.queue) c.in_ok-reserve.ensures.items in
    rw (← c.self.view_is)
    (load_marked g.L.GrainLogic.logic _ c.args.grain.now e found (loads e.phase (sym c.if-not-is_loading.ensures)) c.unload.new.activations c.unload.ensures.times c.unload.new.replies.items c.unload.ensures.gone told c.args.failed c.if-failed.true)

pub expect-requires : goal.expect-requires
expect-requires g c e found = c.none_waits-idle_after.ensures ∙ ap none_waits (same_Some (entry_of c.in-Some.activation.now) e (c.in-Some.ensures.entry ∙ found))

pub make_ready-requires-clause-loading : goal.make_ready-requires-clause-loading
make_ready-requires-clause-loading g c =
    let e = entry_of c.in-Some.activation.now in
    (e, ap (λ (es : Entries). map.get es c.args.grain.now) c.expect.ensures.entries ∙ sym c.in-Some.ensures.entry, loads e.phase (sym c.if-not-is_loading.ensures))

pub returns-in-Ok : goal.returns-in-Ok
returns-in-Ok g c =
    let grain = c.args.grain.now in
    let e = entry_of c.in-Some.activation.now in
    let found = sym c.in-Some.ensures.entry in
    let same = c.expect.ensures.entries in
    let put = c.make_ready.ensures.put e (ap (λ (es : Entries). map.get es grain) same ∙ found) ∙ ap (λ (es : Entries). map.insert es grain (record e { phase = ready c.in-Ok.state c.in-Ok.version; until = 0; resting = false })) same in
    let storage = c.read_state.new.storage in
    rw (← c.self.view_is)
    (load_moves g.L.GrainLogic.logic _ grain e found (loads e.phase (sym c.if-not-is_loading.ensures)) c.make_ready.new.self (c.make_ready.ensures.times ∙ c.expect.ensures.times) c.reserve.new.self.items c.in_ok-reserve.ensures.items
    c.args.failed c.in-Ok.state c.in-Ok.version (g.S.GrainStorage.rows storage) (g.S.GrainStorage.failed storage) c.if-failed.false put c.in-Ok.ensures.0 c.in-Ok.ensures.1 c.in-Ok.ensures.2 c.in-Ok.ensures.3)

pub returns-in-Err-Failed : goal.returns-in-Err-Failed
returns-in-Err-Failed g c =
    let grain = c.args.grain.now in
    let e = entry_of c.in-Some.activation.now in
    let found = sym c.in-Some.ensures.entry in
    let same = c.expect.ensures.entries in
    let storage = c.read_state.new.storage in
    let fails = rw c.in-Err-Failed.field-0-is at c.in-Err-Failed.ensures in
    let left = c.unload-in-Err-Failed.ensures in
    let told = left.told e (ap (λ (es : Entries). map.get es grain) same ∙ found) ∙ ap (λ items. items ++ flat_map (λ q. reply_to q.sender (Err StorageFailed)) e.queue) c.in_ok-reserve.ensures.items in
    rw (← c.self.view_is)
    (load_failed g.L.GrainLogic.logic _ grain e found (loads e.phase (sym c.if-not-is_loading.ensures)) c.unload-in-Err-Failed.new.activations (left.times ∙ c.expect.ensures.times) c.unload-in-Err-Failed.new.replies.items (left.gone ∙ ap (λ (es : Entries). map.remove es grain) same) told
    c.args.failed (g.S.GrainStorage.rows storage) (g.S.GrainStorage.failed storage) fails.0 fails.1.one_more)
