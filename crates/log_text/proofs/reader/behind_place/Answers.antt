use Rattle.std.proofs.Common.{List, ℕ, subst}
use Rattle.std.specs.Prelude.{option_map}
use Rattle.log_text.specs.Sums.{spelled}
use Rattle.log_text.specs.Batches.{mark_head}
use Rattle.log_text.specs.Answers.{Strips}
use Rattle.log_text.proofs.CutBytes.{strips_more}
use Rattle.log_text.proofs.reader.behind_place.Goals as goal

pub returns : goal.returns
returns c =
    strips_more (mark_head c.args.name.now) (spelled c.args.before) c.args.line.now c.in-Some.rest.now c.behind.result c.in-Some.ensures
    (subst (λ (s : List ℕ). Strips s c.in-Some.rest.now (option_map (λ rest. rest.now) c.behind.result)) c.spell.ensures c.behind.ensures)
