use Rattle.std.proofs.Common.{◌≡◌, None, ap, sym, ◌∙◌, subst}
use Rattle.std.specs.Prelude.{IfSome}
use Rattle.std.specs.FinMap as map
use Rattle.grain_id.proofs.Order.{grain_cmp_total, grain_cmp_exact}
use Rattle.finite_maps.proofs.Maps as maps
use Rattle.idle_collector.specs.Notes.{Collection, noted_if}
use Rattle.idle_collector.proofs.Aside.{expected_then_forgotten}
use Rattle.idle_collector.proofs.collector.Collector.note.Goals as goal

pub note_expected-requires : goal.note_expected-requires
note_expected-requires c =
    let old = c.args.self.now in
    let is = expected_then_forgotten old c.expect.new.self c.forget.new.self c.args.id c.in_ok-expect.ensures.expected c.forget.ensures in
    subst (λ (held : Collection). IfSome held.expected (λ id. map.get held.notes id ≡ None)) (sym is) (maps.get-remove_same grain_cmp_total grain_cmp_exact old.notes c.args.id)

pub returns-clause-noted : goal.returns-clause-noted
returns-clause-noted c =
    let old = c.args.self.now in
    let is = expected_then_forgotten old c.expect.new.self c.forget.new.self c.args.id c.in_ok-expect.ensures.expected c.forget.ensures in
    c.note_expected.ensures
    ∙ ap (λ (held : Collection). record { notes = noted_if held.notes held.expected c.args.moment; expected = None }) is
    ∙ ap (λ notes. record { notes = notes; expected = None }) (maps.insert-remove grain_cmp_total grain_cmp_exact old.notes c.args.id c.args.moment)
