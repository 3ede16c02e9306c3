use Rattle.silo_model.proofs.Common.{◌∙◌, ◌≡◌, Entries, None, Some, ap, false, ready, subst, sym}
use Rattle.std.specs.FinMap as map
use Rattle.activation_directory.specs.declared.activation.Activation.{Activation}
use Rattle.silo_state.specs.Shown.{entries_of}
use Rattle.silo_state.proofs.Shows.{get-entries, same_mail, ready_shows}
use Rattle.tenant_machine.proofs.entries.Entries.make_ready.Goals as goal

pub returns-in_default : goal.returns-in_default
returns-in_default g c e is =
    let none : map.get c.args.self.now c.args.grain.now ≡ None = ap (λ entries. map.get entries c.args.grain.now) (sym c.self.view_is) ∙ get-entries c.self.inside.by_grain c.args.grain.now None (sym c.in_default.ensures.value) in
    absurd (cc (none, is))

pub invariant_of-self-2 : goal.invariant_of-self-2
invariant_of-self-2 g c =
    same_mail g.L.GrainLogic.logic c.self.inside.by_grain c.args.grain.now c.in-Some.activation.now c.make_ready.new.activation (sym c.in-Some.ensures.value) c.self.invariant
    (ap (λ (x : Activation). x.mailbox) c.make_ready.ensures)

pub returns : goal.returns
returns g c e is =
    let m = c.self.inside.by_grain in
    let grain = c.args.grain.now in
    let after = c.make_ready.new.activation in
    subst (λ (old : Entries). map.get old grain ≡ Some e → entries_of (map.insert m grain after) ≡ map.insert old grain (record e { phase = ready c.args.state c.args.version; until = 0; resting = false })) c.self.view_is
    (λ there. ready_shows m grain c.in-Some.activation.now after (sym c.in-Some.ensures.value) c.args.state c.args.version c.make_ready.ensures e there) is
