use Rattle.std.proofs.Common.{◌≡◌, false, None, Some, refl, ap, sym, ◌∙◌, subst, true≢false}
use Rattle.std.specs.Prelude.{IfSome, IsSome}
use Rattle.std.specs.FinMap as map
use Rattle.activation_directory.specs.declared.activation.Activation.{Activation}
use Rattle.idle_collector.specs.Ages.{kind_age}
use Rattle.silo_model.specs.Machine.{ready}
use Rattle.silo_state.specs.inside.Activations.{Activations, HasRoom}
use Rattle.silo_state.specs.inside.Notes.{IsInTime, none_waits}
use Rattle.silo_state.specs.Shown.{entry_of}
use Rattle.silo_state.proofs.Idle.{busy_noted, note_moves, note_is_there, busy_by_due, idle_by_due, idle_none_waits, in_time_least, may_note, notes_anew}
use Rattle.silo_state.proofs.Shows.{get-entries, entries-put, same_mail, ready_shows}
use Rattle.silo_state.proofs.activations.Activations.make_ready.Goals as goal

pub unreachable-requires : goal.unreachable-requires
unreachable-requires g c =
    let none = ap (λ (k : Activations). map.get k.entries c.args.grain.now) (sym c.self.view_is) ∙ get-entries c.self.inside.directory.activations c.args.grain.now None (sym c.in_default.ensures.value) in
    true≢false (sym (subst IsSome (sym c.requires.loading.1 ∙ none) refl))

-- ---- a request waits

pub invariant_of-self : goal.invariant_of-self
invariant_of-self g c =
    let inside = c.self.inside in
    let m = inside.directory.activations in
    let grain = c.args.grain.now in
    let a = c.in-Some.activation.now in
    let after = c.make_ready.new.activation in
    let found = sym c.in-Some.ensures.value in (
      same_mail g.L.GrainLogic.logic m grain a after found c.self.invariant.0 (ap (λ (x : Activation). x.mailbox) c.make_ready.ensures),
      busy_noted inside.clock (kind_age inside.ages inside.age) m inside.collector.notes c.self.invariant.1 grain a after found (ap (λ (x : Activation). x.noted) c.make_ready.ensures)
          (busy_by_due (kind_age inside.ages inside.age grain.kind) (entry_of after) (sym c.in_default-due_at.ensures)),
    )

-- ---- none does, and its note is another

pub forget_at-requires : goal.forget_at-requires
forget_at-requires g c =
    let inside = c.self.inside in
    let grain = c.args.grain.now in
    subst (λ n. IfSome (map.get inside.collector.notes grain) (λ moment. moment ≡ n)) (sym (c.replace-earlier.ensures.value ∙ ap (λ (x : Activation). x.noted) c.make_ready.ensures))
    (note_is_there inside.clock (kind_age inside.ages inside.age) inside.directory.activations inside.collector.notes c.self.invariant.1 grain c.in-Some.activation.now (sym c.in-Some.ensures.value))

pub note_expected-requires : goal.note_expected-requires
note_expected-requires g c =
    let inside = c.self.inside in
    let grain = c.args.grain.now in
    let a = c.in-Some.activation.now in
    let after = c.make_ready.new.activation in
    let is = idle_by_due (kind_age inside.ages inside.age grain.kind) (entry_of after) c.in-Some-due_at.due (sym c.in-Some-due_at.ensures) in
    let waits = ap (λ (x : Activation). none_waits (entry_of x)) (sym c.make_ready.ensures) ∙ idle_none_waits (entry_of after) is.0 in
    let expected = subst (λ (k : Activations). HasRoom k grain) (sym c.self.view_is) c.requires.room (entry_of a) (get-entries inside.directory.activations grain (Some a) (sym c.in-Some.ensures.value)) waits in
    may_note inside.collector c.forget_at.new.self grain expected c.forget_at.ensures

pub invariant_of-self-2 : goal.invariant_of-self-2
invariant_of-self-2 g c =
    let inside = c.self.inside in
    let m = inside.directory.activations in
    let age_of = kind_age inside.ages inside.age in
    let grain = c.args.grain.now in
    let a = c.in-Some.activation.now in
    let after = c.make_ready.new.activation in
    let moment = c.min-moment.result in
    let is = idle_by_due (age_of grain.kind) (entry_of after) c.in-Some-due_at.due (sym c.in-Some-due_at.ensures) in
    let waits = ap (λ (x : Activation). none_waits (entry_of x)) (sym c.make_ready.ensures) ∙ idle_none_waits (entry_of after) is.0 in
    let found = sym c.in-Some.ensures.value in
    let expected = subst (λ (k : Activations). HasRoom k grain) (sym c.self.view_is) c.requires.room (entry_of a) (get-entries m grain (Some a) found) waits in
    let noted_as = c.replace-earlier.ensures.after in
    let in_time = in_time_least inside.clock (age_of grain.kind) after c.in-Some-due_at.due c.due_if_used-latest.result moment (sym c.in-Some-due_at.ensures) c.due_if_used-latest.ensures c.min-moment.ensures in (
      same_mail g.L.GrainLogic.logic m grain a (record after { noted = c.replace-earlier.new.dest }) found c.self.invariant.0 (ap (λ (x : Activation). x.mailbox) c.make_ready.ensures),
      note_moves inside.clock age_of m inside.collector.notes c.self.invariant.1 grain (record after { noted = c.replace-earlier.new.dest }) c.note_expected.new.self.notes
          (notes_anew inside.collector c.forget_at.new.self grain expected c.forget_at.ensures c.note_expected.new.self moment c.note_expected.ensures ∙ ap (map.insert inside.collector.notes grain) (sym noted_as))
          (subst (λ n. IsInTime inside.clock (age_of grain.kind) (record after { noted = n })) (sym noted_as) in_time),
    )

-- ---- what the entry is then

pub returns-in_default-due_at-clause-put : goal.returns-in_default-due_at-clause-put
returns-in_default-due_at-clause-put g c e found =
    let m = c.self.inside.directory.activations in
    let grain = c.args.grain.now in
    let there = ap (λ (k : Activations). map.get k.entries grain) c.self.view_is ∙ found in
    ready_shows m grain c.in-Some.activation.now c.make_ready.new.activation (sym c.in-Some.ensures.value) c.args.state c.args.version c.make_ready.ensures e there
    ∙ ap (λ (k : Activations). map.insert k.entries grain (record e { phase = ready c.args.state c.args.version; until = 0; resting = false })) c.self.view_is

pub returns-clause-put : goal.returns-clause-put
returns-clause-put g c e found =
    let m = c.self.inside.directory.activations in
    let grain = c.args.grain.now in
    let there = ap (λ (k : Activations). map.get k.entries grain) c.self.view_is ∙ found in
    entries-put m grain (record c.make_ready.new.activation { noted = c.replace-earlier.new.dest })
    ∙ sym (entries-put m grain c.make_ready.new.activation)
    ∙ ready_shows m grain c.in-Some.activation.now c.make_ready.new.activation (sym c.in-Some.ensures.value) c.args.state c.args.version c.make_ready.ensures e there
    ∙ ap (λ (k : Activations). map.insert k.entries grain (record e { phase = ready c.args.state c.args.version; until = 0; resting = false })) c.self.view_is
