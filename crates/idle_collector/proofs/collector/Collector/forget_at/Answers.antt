use Rattle.std.proofs.Common.{◌≡◌, ap, sym, ◌∙◌, subst}
use Rattle.std.specs.Prelude.{IfSome}
use Rattle.std.specs.FinMap as map
use Rattle.idle_collector.specs.Notes.{Collection, forgotten}
use Rattle.idle_collector.specs.inside.Aside.{held_with, IsApart}
use Rattle.idle_collector.proofs.Aside.{latest-forgotten, latest-stays, apart-forgotten, filed_at}
use Rattle.idle_collector.proofs.collector.Collector.forget_at.Goals as goal

pub returns-then-is_of : goal.returns-then-is_of
returns-then-is_of c =
    let inside = c.self.inside in
    ap (λ latest. held_with latest inside.filed) c.leave.ensures ∙ latest-forgotten inside.latest inside.filed c.args.id.now c.self.invariant (sym c.is_of.ensures ∙ c.if-is_of.true)
    ∙ ap (λ (held : Collection). record held { notes = forgotten held.notes c.args.id.now }) c.self.view_is

pub invariant_of-self-2 : goal.invariant_of-self-2
invariant_of-self-2 c =
    let inside = c.self.inside in
    subst (IsApart inside.latest) (sym c.forget.ensures) (apart-forgotten inside.latest inside.filed c.args.id.now c.self.invariant)

pub returns : goal.returns
returns c =
    let inside = c.self.inside in
    latest-stays inside.latest inside.filed _ c.args.id.now (sym c.is_of.ensures ∙ c.if-is_of.false) c.forget.ensures
    ∙ ap (λ (held : Collection). record held { notes = forgotten held.notes c.args.id.now }) c.self.view_is

-- its filed note is of the moment, if it has one
pub forget-requires : goal.forget-requires
forget-requires c =
    let inside = c.self.inside in
    filed_at inside.latest inside.filed c.args.id.now c.args.moment (sym c.is_of.ensures ∙ c.if-is_of.false)
    (subst (λ (held : Collection). IfSome (map.get held.notes c.args.id.now) (λ noted. noted ≡ c.args.moment)) (sym c.self.view_is) c.requires)
