use Rattle.std.proofs.Common.{◌++◌}
use Rattle.std.specs.Prelude.{codes}
use Rattle.log_text.specs.Head.{form_line}
use Rattle.log_text.proofs.CutBytes.{strips_more}
use Rattle.log_text.proofs.head.behind_words.Goals as goal

pub returns : goal.returns
returns c =
    strips_more form_line (c.args.words.now ++ codes "of ") c.args.bytes.now c.in-Some.rest.now c.behind-3.result c.in-Some.ensures
    (strips_more c.args.words.now (codes "of ") c.in-Some.rest.now c.in-Some-behind.rest.now c.behind-3.result c.in-Some-behind.ensures c.behind-3.ensures)
