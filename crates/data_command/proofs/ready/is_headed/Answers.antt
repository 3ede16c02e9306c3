use Rattle.std.proofs.Common.{List, ap, ◌++◌, ◌∙◌, ℕ}
use Rattle.log_text.specs.Head.{head_text}
use Rattle.data_command.proofs.ready.is_headed.Goals as goal

pub returns-in-Some : goal.returns-in-Some
returns-in-Some c is =
    let cuts = rw c.in-Some.is at c.cut_head.ensures in
    (_, cuts.1 ∙ ap (λ (n : List ℕ). head_text c.args.words.now n ++ c.in-Some.field-0-1.now) (c.is_same.ensures.0 is))
