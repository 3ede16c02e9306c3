use Rattle.std.proofs.Common.{not, ap, ◌∙◌, rules}
use Rattle.std.specs.FinMap as map
use Rattle.std.proofs.lemmas.Map.Made.{filter_same_pairs}
use Rattle.idle_collector.specs.Ages.{kind_age}
use Rattle.silo_model.specs.Idle.{is_due}
use Rattle.silo_state.specs.Shown.{entry_of}
use Rattle.tenant_machine.specs.inside.Sweeps.{left_of}
use Rattle.tenant_machine.proofs.Trees.{left-shown}
use Rattle.tenant_machine.proofs.by_grain.ByGrain.sweep.Goals as goal

pub returns : goal.returns
returns c grain =
    let clock = c.args.clock in
    let age_of = kind_age c.args.ages.now c.args.age in
    let m = c.self.inside.activations in
    let kept = filter_same_pairs _ (λ e. not (is_due clock (age_of e.0.kind) (entry_of e.1))) _ (λ k v b w f' t. search rules) m.entries c.retain.new.self.entries c.retain.ensures.filtered in
    left-shown m c.retain.new.self clock age_of c.retain.ensures.was_ordered kept grain ∙ ap (λ d. left_of clock (age_of grain.kind) (map.get d grain)) c.self.view_is
