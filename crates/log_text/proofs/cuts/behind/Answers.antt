use Rattle.log_text.proofs.CutBytes.{strips}
use Rattle.log_text.proofs.cuts.behind.Goals as goal

pub returns : goal.returns
returns c = strips c.args.prefix.now c.args.bytes.now c.strip_prefix.result c.strip_prefix.ensures.cases
