use Rattle.silo_model.proofs.Common.{◌==◌, ◌∙◌, Bor, List, Step, length, list_all, sym}
use Rattle.std.specs.declared.collections.VecDeque.{VecDeque}
use Rattle.std.specs.Global.{Global}
use Rattle.indexmap.specs.IndexMap.{values}
use Rattle.lane_model.proofs.Pass.{lanes_exact, lanes_total}
use Rattle.client_lanes.specs.inside.Passing.{steps_at}
use Rattle.client_lanes.proofs.Keys.{lane_tests}
use Rattle.client_lanes.proofs.Shown.{all-shown}
use Rattle.std.proofs.lemmas.List.{length-map}
use Rattle.client_lanes.proofs.check.is_used_up.Goals as goal

pub returns : goal.returns
returns c =
    let left = c.args.left.now in
    c.are_empty.ensures.empty
    ∙ (λ i. list_all (λ (waiting : VecDeque (Bor Step) Global). sym (length-map waiting.items (λ (s : Bor Step). s.now)) i == 0) (values left))
    ∙ all-shown lanes_total lanes_exact lane_tests steps_at (λ (steps : List Step). length steps == 0) left.entries c.are_empty.ensures.unique
