use Rattle.std.proofs.Common.{ap, sym, ◌∙◌, subst}
use Rattle.finite_maps.proofs.Maps as maps
use Rattle.grain_id.proofs.Order.{grain_cmp_total, grain_cmp_exact}
use Rattle.idle_collector.specs.Notes.{Collection, forgotten}
use Rattle.idle_collector.specs.inside.Aside.{held_with, IsApart}
use Rattle.idle_collector.proofs.Aside.{latest-forgotten, latest-stays, apart-forgotten}
use Rattle.idle_collector.proofs.collector.Collector.forget.Goals as goal

pub returns-then-is_of : goal.returns-then-is_of
returns-then-is_of c =
    let inside = c.self.inside in
    ap (λ latest. held_with latest inside.filed) c.leave.ensures ∙ latest-forgotten inside.latest inside.filed c.args.id.now c.self.invariant (sym c.is_of.ensures ∙ c.if-is_of.true)
    ∙ ap (λ (held : Collection). record held { notes = forgotten held.notes c.args.id.now }) c.self.view_is

pub invariant_of-self-2 : goal.invariant_of-self-2
invariant_of-self-2 c =
    let inside = c.self.inside in
    subst (IsApart inside.latest) (sym c.forget.ensures) (apart-forgotten inside.latest inside.filed c.args.id.now c.self.invariant)

pub returns : goal.returns
returns c =
    let inside = c.self.inside in
    latest-stays inside.latest inside.filed _ c.args.id.now (sym c.is_of.ensures ∙ c.if-is_of.false) c.forget.ensures
    ∙ ap (λ (held : Collection). record held { notes = forgotten held.notes c.args.id.now }) c.self.view_is

-- it has no note
pub returns-in_default : goal.returns-in_default
returns-in_default c =
    let inside = c.self.inside in
    sym c.self.view_is
    ∙ latest-stays inside.latest inside.filed inside.filed c.args.id.now (sym c.is_of.ensures ∙ c.if-is_of.false) (sym (maps.remove-absent grain_cmp_total grain_cmp_exact inside.filed c.args.id.now (sym c.in_default.ensures)))
    ∙ ap (λ (held : Collection). record held { notes = forgotten held.notes c.args.id.now }) c.self.view_is
