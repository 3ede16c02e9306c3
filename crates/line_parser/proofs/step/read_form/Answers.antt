use Rattle.std.proofs.Common.{◌≡◌, rules, ap, ◌∙◌}
use Rattle.std.specs.Prelude.{option_map}
use Rattle.silo_event.specs.declared.step.Step.TheVariants as step
use Rattle.line_parser.specs.inside.Step.{of_form}
use Rattle.line_parser.specs.declared.step.Form.TheVariants as form
use Rattle.line_parser.proofs.Steps.{where_map, finds_as}
use Rattle.line_parser.proofs.step.read_form.Goals as goal

pub returns-in-Status : goal.returns-in-Status
returns-in-Status c = finds_as c.args.form form.Status c.args.members.now c.args.value c.status_from.result c.in-Status.is c.status_from.ensures

pub returns-in_ok-grain_from-in-Deliver : goal.returns-in_ok-grain_from-in-Deliver
returns-in_ok-grain_from-in-Deliver c d h =
    let same : option_map step.Deliver c.in_ok-grain_from-in-Deliver.field-0 ≡ c.map.result = search rules in
    ap (λ f. of_form f d) c.in-Deliver.is ∙ where_map step.Deliver _ _ _ (c.in_ok-grain_from-in-Deliver.ensures c.args.value d h) ∙ same

pub returns-in_ok-grain_from-in-Activate : goal.returns-in_ok-grain_from-in-Activate
returns-in_ok-grain_from-in-Activate c d h =
    let same : option_map step.Activate c.in_ok-grain_from-in-Activate.field-0 ≡ c.map-in-Activate.result = search rules in
    ap (λ f. of_form f d) c.in-Activate.is ∙ where_map step.Activate _ _ _ (c.in_ok-grain_from-in-Activate.ensures c.args.value d h) ∙ same

pub returns-in-Load : goal.returns-in-Load
returns-in-Load c = finds_as c.args.form form.Load c.args.members.now c.args.value c.load_from.result c.in-Load.is c.load_from.ensures

pub returns-in_ok-grain_from-in-Begin : goal.returns-in_ok-grain_from-in-Begin
returns-in_ok-grain_from-in-Begin c d h =
    let same : option_map step.Begin c.in_ok-grain_from-in-Begin.field-0 ≡ c.map-in-Begin.result = search rules in
    ap (λ f. of_form f d) c.in-Begin.is ∙ where_map step.Begin _ _ _ (c.in_ok-grain_from-in-Begin.ensures c.args.value d h) ∙ same

pub returns-in-Store : goal.returns-in-Store
returns-in-Store c = finds_as c.args.form form.Store c.args.members.now c.args.value c.store_from.result c.in-Store.is c.store_from.ensures

pub returns-in_ok-turn_from-in-End : goal.returns-in_ok-turn_from-in-End
returns-in_ok-turn_from-in-End c d h =
    let same : option_map (λ f. step.End f.0 f.1) c.in_ok-turn_from-in-End.field-0 ≡ c.map-in-End.result = search rules in
    ap (λ f. of_form f d) c.in-End.is ∙ ap (option_map (λ f. step.End f.0 f.1)) (c.in_ok-turn_from-in-End.ensures c.args.value d h) ∙ same

pub returns-in_ok-turn_from-in-Abandon : goal.returns-in_ok-turn_from-in-Abandon
returns-in_ok-turn_from-in-Abandon c d h =
    let same : option_map (λ f. step.Abandon f.0 f.1) c.in_ok-turn_from-in-Abandon.field-0 ≡ c.map-in-Abandon.result = search rules in
    ap (λ f. of_form f d) c.in-Abandon.is ∙ ap (option_map (λ f. step.Abandon f.0 f.1)) (c.in_ok-turn_from-in-Abandon.ensures c.args.value d h) ∙ same

pub returns-in-Tick : goal.returns-in-Tick
returns-in-Tick c d h = ap (λ f. of_form f d) c.in-Tick.is ∙ c.tick_from.ensures c.args.value d h

pub returns-in-Sweep : goal.returns-in-Sweep
returns-in-Sweep c d h = ap (λ f. of_form f d) c.in-Sweep.is ∙ c.sweep_from.ensures c.args.value d h
