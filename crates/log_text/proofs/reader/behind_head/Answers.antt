use Rattle.std.proofs.Common.{[], ◌∷◌, ◌++◌}
use Rattle.log_text.proofs.CutBytes.{strips_more}
use Rattle.log_text.proofs.reader.behind_head.Goals as goal

pub returns : goal.returns
returns c =
    strips_more (61 ∷ []) (c.args.name.now ++ 32 ∷ []) c.args.line.now c.in-Some.rest.now c.behind-3.result c.in-Some.ensures
    (strips_more c.args.name.now (32 ∷ []) c.in-Some.rest.now c.in-Some-behind.rest.now c.behind-3.result c.in-Some-behind.ensures c.behind-3.ensures)
