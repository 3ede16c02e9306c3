use Rattle.std.proofs.Common.{◌≡◌, ◌%◌, length, sym, ap, ◌∙◌, arith}
use Rattle.std.specs.List.{list_all}
use Rattle.request_codec.specs.Hex.{is_digit}
use Rattle.request_codec.proofs.Digits.{even_digits}
use Rattle.request_codec.proofs.bytes.hexadecimal.are_digits.Goals as goal

pub returns : goal.returns
returns c =
    let even : length c.args.text.now % 2 ≡ 0 = omega (arith, c.if-text-eq1.false) in
    c.all_digits.ensures ∙ ap (list_all is_digit) c.as_bytes.ensures.value ∙ sym (even_digits c.args.text.now even)
