use Rattle.std.proofs.Common.{◌≡◌, None, Some, ap, sym, ◌∙◌}
use Rattle.std.specs.FinMap as map
use Rattle.std.proofs.lemmas.Option.{none-some, same_Some}
use Rattle.activation_directory.specs.declared.activation.Activation.{Activation}
use Rattle.idle_collector.specs.Ages.{kind_age}
use Rattle.silo_state.specs.Shown.{entry_of}
use Rattle.silo_state.specs.inside.Activations.{Activations}
use Rattle.silo_state.specs.inside.AtOnce.{renewed}
use Rattle.silo_state.proofs.AtOnce.{renewed_put}
use Rattle.silo_state.proofs.Idle.{now_noted}
use Rattle.silo_state.proofs.Shows.{get-entries, same_mail}
use Rattle.silo_state.proofs.activations.Activations.renew.Goals as goal

pub returns-in_default-clause-entries : goal.returns-in_default-clause-entries
returns-in_default-clause-entries g c e found =
    let m = c.self.inside.directory.activations in
    let grain = c.args.grain.now in
    absurd (none-some e (sym (get-entries m grain None (sym c.in_default.ensures.value)) ∙ ap (λ (k : Activations). map.get k.entries grain) c.self.view_is ∙ found))

pub invariant_of-self-2 : goal.invariant_of-self-2
invariant_of-self-2 g c =
    let inside = c.self.inside in
    let m = inside.directory.activations in
    let grain = c.args.grain.now in
    let a = c.in-Some.activation.now in
    let after = c.renew.new.activation in
    let found = sym c.in-Some.ensures.value in (
      same_mail g.L.GrainLogic.logic m grain a after found c.self.invariant.0 (ap (λ (x : Activation). x.mailbox) c.renew.ensures),
      now_noted inside.clock (kind_age inside.ages inside.age) m inside.collector.notes c.self.invariant.1 grain a after found (ap (λ (x : Activation). x.noted) c.renew.ensures) (ap (λ (x : Activation). x.last) c.renew.ensures),
    )

pub returns-clause-entries : goal.returns-clause-entries
returns-clause-entries g c e found =
    let m = c.self.inside.directory.activations in
    let grain = c.args.grain.now in
    let a = c.in-Some.activation.now in
    let state = c.args.state in
    let there = get-entries m grain (Some a) (sym c.in-Some.ensures.value) in
    let same : entry_of a ≡ e = same_Some (entry_of a) e (sym there ∙ ap (λ (k : Activations). map.get k.entries grain) c.self.view_is ∙ found) in
    renewed_put m grain a c.renew.new.activation state c.self.inside.clock c.renew.ensures
    ∙ (λ i. map.insert (c.self.view_is i).entries grain (record (same i) { phase = renewed (same i).phase state; last = (c.self.view_is i).times.clock }))
