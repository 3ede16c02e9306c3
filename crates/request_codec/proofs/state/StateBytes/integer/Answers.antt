use Rattle.std.proofs.Common.{◌≡◌, ap, ◌∙◌, arith}
use Rattle.std.proofs.lemmas.Int.{to_z-of_z}
use mir.Val.{to_z, of_z}
use mir.Syntax.{w64}
use Rattle.request_codec.specs.Tree.{integer}
use Rattle.request_codec.specs.Written.{spelling}
use Rattle.request_codec.proofs.Whole.{state_is_some, state_is}
use Rattle.request_codec.proofs.Encoded.{encoded_integer}
use Rattle.request_codec.proofs.state.StateBytes.integer.Goals as goal

pub invariant_of-result : goal.invariant_of-result
invariant_of-result c =
    let same : to_z w64 (of_z w64 c.args.number) ≡ c.args.number = grind (arith, to_z-of_z) in
    state_is_some _ _ (encoded_integer _ c.args.number c.ranges.number (c.hold_integer.ensures ∙ ap (λ i. spelling (integer i)) same))

pub returns : goal.returns
returns c =
    let same : to_z w64 (of_z w64 c.args.number) ≡ c.args.number = grind (arith, to_z-of_z) in
    state_is _ _ (encoded_integer _ c.args.number c.ranges.number (c.hold_integer.ensures ∙ ap (λ i. spelling (integer i)) same))
