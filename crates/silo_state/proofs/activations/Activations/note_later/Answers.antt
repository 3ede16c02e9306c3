use Rattle.std.proofs.Common.{Some, refl, ap, sym, ◌∙◌, subst}
use Rattle.std.specs.FinMap as map
use Rattle.std.specs.FinMap.{FinMap}
use Rattle.grain_id.specs.Names.{grain_cmp}
use Rattle.grain_id.proofs.Order.{grain_cmp_total, grain_cmp_exact}
use Rattle.finite_maps.proofs.Maps as maps
use Rattle.activation_directory.specs.declared.activation.Activation.{Activation}
use Rattle.idle_collector.specs.Ages.{kind_age}
use Rattle.idle_collector.specs.Notes.{Collection, Notes}
use Rattle.silo_state.specs.inside.Activations.{Activations}
use Rattle.silo_state.specs.inside.Notes.{IsInTime, AreNoted}
use Rattle.silo_state.specs.Marks.{AllMarked}
use Rattle.silo_state.specs.Shown.{entry_of, entries_of}
use Rattle.silo_state.proofs.Idle.{note_moves, may_note, notes_anew}
use Rattle.silo_state.proofs.Shows.{get-entries, entries-put, same_mail}
use Rattle.silo_state.proofs.activations.Activations.note_later.Goals as goal

-- ---- it stays

pub invariant_of-self-in_default-later_note : goal.invariant_of-self-in_default-later_note
invariant_of-self-in_default-later_note g c =
    let inside = c.self.inside in
    let again = maps.insert-again grain_cmp_total grain_cmp_exact inside.directory.activations c.args.grain.now c.in-Some.activation.now (sym c.in-Some.ensures.value) in
    subst (λ (k : FinMap grain_cmp Activation). AllMarked g.L.GrainLogic.logic k × AreNoted inside.clock (kind_age inside.ages inside.age) k inside.collector.notes) (sym again) c.self.invariant

pub returns-in_default-later_note-clause-entries : goal.returns-in_default-later_note-clause-entries
returns-in_default-later_note-clause-entries g c =
    ap entries_of (maps.insert-again grain_cmp_total grain_cmp_exact c.self.inside.directory.activations c.args.grain.now c.in-Some.activation.now (sym c.in-Some.ensures.value))
    ∙ ap (λ (k : Activations). k.entries) c.self.view_is

pub invariant_of-self-in_err-expect : goal.invariant_of-self-in_err-expect
invariant_of-self-in_err-expect g c =
    let inside = c.self.inside in
    let again = maps.insert-again grain_cmp_total grain_cmp_exact inside.directory.activations c.args.grain.now c.in-Some.activation.now (sym c.in-Some.ensures.value) in
    let same = ap (λ (k : Collection). k.notes) c.in_err-expect.ensures.unchanged in
    subst (λ (n : Notes). AllMarked g.L.GrainLogic.logic (map.insert inside.directory.activations c.args.grain.now c.in-Some.activation.now)
    × AreNoted inside.clock (kind_age inside.ages inside.age) (map.insert inside.directory.activations c.args.grain.now c.in-Some.activation.now) n) (sym same)
    (subst (λ (k : FinMap grain_cmp Activation). AllMarked g.L.GrainLogic.logic k × AreNoted inside.clock (kind_age inside.ages inside.age) k inside.collector.notes) (sym again) c.self.invariant)

pub returns-in_err-expect-clause-entries : goal.returns-in_err-expect-clause-entries
returns-in_err-expect-clause-entries g c =
    ap entries_of (maps.insert-again grain_cmp_total grain_cmp_exact c.self.inside.directory.activations c.args.grain.now c.in-Some.activation.now (sym c.in-Some.ensures.value))
    ∙ ap (λ (k : Activations). k.entries) c.self.view_is

-- ---- it moves

pub note_expected-requires : goal.note_expected-requires
note_expected-requires g c = may_note c.expect.new.self c.forget_at.new.self c.args.grain.now (ap (λ (k : Collection). k.expected) c.in_ok-expect.ensures.expected) c.forget_at.ensures

pub invariant_of-self-2 : goal.invariant_of-self-2
invariant_of-self-2 g c =
    let inside = c.self.inside in
    let m = inside.directory.activations in
    let age_of = kind_age inside.ages inside.age in
    let grain = c.args.grain.now in
    let a = c.in-Some.activation.now in
    let after = record a { noted = c.replace-earlier.new.dest } in
    let expected = c.in_ok-expect.ensures.expected in
    let moment = c.in-Some-later_note.moment in
    let noted_as = c.replace-earlier.ensures.after in (
      same_mail g.L.GrainLogic.logic m grain a after (sym c.in-Some.ensures.value) c.self.invariant.0 refl,
      note_moves inside.clock age_of m inside.collector.notes c.self.invariant.1 grain after c.note_expected.new.self.notes
          (notes_anew c.expect.new.self c.forget_at.new.self grain (ap (λ (k : Collection). k.expected) expected) c.forget_at.ensures c.note_expected.new.self moment c.note_expected.ensures
          ∙ ap (λ (k : Collection). map.insert k.notes grain moment) expected ∙ ap (map.insert inside.collector.notes grain) (sym noted_as))
          (subst (λ n. IsInTime inside.clock (age_of grain.kind) (record a { noted = n })) (sym noted_as) c.in-Some-later_note.ensures),
    )

pub returns-clause-entries : goal.returns-clause-entries
returns-clause-entries g c =
    let m = c.self.inside.directory.activations in
    let grain = c.args.grain.now in
    let a = c.in-Some.activation.now in
    entries-put m grain (record a { noted = c.replace-earlier.new.dest })
    ∙ maps.insert-again grain_cmp_total grain_cmp_exact (entries_of m) grain (entry_of a) (get-entries m grain (Some a) (sym c.in-Some.ensures.value))
    ∙ ap (λ (k : Activations). k.entries) c.self.view_is
