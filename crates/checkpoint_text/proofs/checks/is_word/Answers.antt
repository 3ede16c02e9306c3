use Rattle.checkpoint_text.proofs.Standing.{word_by}
use Rattle.checkpoint_text.proofs.checks.is_word.Goals as goal

pub returns : goal.returns
returns c = word_by c.as_bytes.result.now c.args.text.now c.are_word.result c.as_bytes.ensures.value c.are_word.ensures
