use Rattle.std.proofs.Common.{◌∙◌}
use Rattle.checkpoint_text.specs.Answers.{parts_in}
use Rattle.checkpoint_text.proofs.Fitting.{text_of}
use Rattle.checkpoint_text.proofs.reader.is_text_of.Goals as goal

pub returns : goal.returns
returns c =
    text_of c.args.bytes.now c.as_slice.result.now (parts_in c.args.parts.now) c.is_same.result (c.may_stand.ensures.stands.0 c.if-not-may_stand.false) (c.as_slice.ensures.value ∙ c.in_ok-text.ensures) c.is_same.ensures
