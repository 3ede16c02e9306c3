use Rattle.std.proofs.Common.{◌≤◌, length, ap, ◌∙◌, arith}
use Rattle.request_codec.specs.Tree.{text}
use Rattle.request_codec.proofs.Whole.{state_is_some, state_is}
use Rattle.request_codec.proofs.Encoded.{encoded_text}
use Rattle.request_codec.proofs.state.StateBytes.decimal_in.Goals as goal

pub invariant_of-result : goal.invariant_of-result
invariant_of-result c =
    let few : length c.as_bytes.result.now ≤ 20 = omega (arith, c.format.ensures.fits, c.as_bytes.ensures.len) in
    state_is_some _ _ (encoded_text _ _ c.as_bytes.ensures.utf8 few c.hold_text_in.ensures)

pub returns : goal.returns
returns c =
    let few : length c.as_bytes.result.now ≤ 20 = omega (arith, c.format.ensures.fits, c.as_bytes.ensures.len) in
    state_is _ _ (encoded_text _ _ c.as_bytes.ensures.utf8 few c.hold_text_in.ensures) ∙ ap text (c.as_bytes.ensures.value ∙ c.format.ensures.text)
