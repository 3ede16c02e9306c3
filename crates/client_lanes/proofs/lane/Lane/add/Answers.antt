use Rattle.silo_model.proofs.Common.{◌≡◌, Step, subst, sym, true}
use Rattle.std.specs.List.{All}
use Rattle.std.proofs.lemmas.List.Elements.{All-push}
use Rattle.lane_model.specs.Lanes.{Lane, may_give}
use Rattle.client_lanes.proofs.lane.Lane.add.Goals as goal

pub invariant_of-self-2 : goal.invariant_of-self-2
invariant_of-self-2 c =
    let own = λ (s : Step). may_give c.self.inside.from s ≡ true in
    let given = subst (λ (lane : Lane). may_give lane.from c.args.step ≡ true) (sym c.self.view_is) c.requires in
    subst (All own) (sym c.in_ok-push.ensures.items) (All-push own c.self.inside.steps.items c.args.step c.self.invariant given)
