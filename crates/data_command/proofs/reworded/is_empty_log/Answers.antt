use Rattle.std.proofs.Common.{◌++◌, ◌∙◌, List, ap, sym, ℕ}
use Rattle.log_text.specs.Head.{head_text}
use Rattle.log_text.specs.Sums.{spelled}
use Rattle.data_command.proofs.reworded.is_empty_log.Goals as goal

pub returns : goal.returns
returns c =
    let head = c.as_slice-2.ensures.value ∙ c.in_ok-push_head.ensures.ok
    ∙ (λ i. c.new-head.ensures.items i ++ head_text (c.as_slice.ensures.value i) (spelled c.args.number))
    ∙ ap (λ (ws : List ℕ). head_text ws (spelled c.args.number)) c.in_ok-words.ensures in
    (λ same. c.is_same.ensures.0 same ∙ head, λ is. c.is_same.ensures.1 (is ∙ sym head))
