use Rattle.std.proofs.Common.{◌≡◌, ◌∙◌, [], ap, map, codes, rules}
use Rattle.std.proofs.lemmas.Result.{IfOk-weaker}
use Rattle.clap.specs.Words.{found_of}
use Rattle.clap.proofs.WalkLemmas.{raw_values-rows}
use Rattle.silo_words.proofs.WordLemmas.{found_behind, nothing_behind}
use Rattle.silo_words.proofs.task.tenants_of.Goals as goal

pub returns-in-Some : goal.returns-in-Some
returns-in-Some c =
    IfOk-weaker c.from_slice.result _ _
    (λ v h. ap (map (λ t. t.now)) h ∙ found_behind _ _ _ _ (c.get_strs.ensures ∙ raw_values-rows (found_of c.args.found.now) (codes "tenants")) c.in-Some.is)
    c.from_slice.ensures.items

pub returns-in-None : goal.returns-in-None
returns-in-None c =
    let items : c.new.result.items ≡ [] = search rules in
    ap (map (λ t. t.now)) items ∙ nothing_behind _ _ _ (c.get_strs.ensures ∙ raw_values-rows (found_of c.args.found.now) (codes "tenants")) c.in-None.is
