use Rattle.std.proofs.Common.{rules, ◌≡◌, ◌∙◌, [], ◌∷◌, ◌++◌, ◌-◌, length, take, drop, ap}
use Rattle.log_text.specs.Sums.{after, spelled}
use Rattle.log_text.proofs.Heads.{summed_there}
use Rattle.log_text.proofs.head.push_head_parts.Goals as goal

pub returns-clause-ok : goal.returns-clause-ok
returns-clause-ok c =
    let placed : c.len-before.result ≡ length c.args.text.now.items = search (rules, c.len-before.ensures) in
    let start = c.push_head_start.new.text.items in
    c.in_ok-push.ensures.items
    ∙ ap (λ l. l ++ 10 ∷ []) (c.in_ok-extend_from_slice.ensures.items ∙ ap (λ l. start ++ l) c.spell.ensures)
    ∙ summed_there c.args.text.now.items c.args.words.now (spelled c.args.number) start c.sum_after-sum.result c.len-before.result
    c.in_ok-push_head_start.ensures.ok placed
    (c.sum_after-sum.ensures ∙ ap (λ l. after 0 (take (length l - c.len-before.result) (drop c.len-before.result l))) c.as_slice.ensures.value)
