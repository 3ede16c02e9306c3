use Rattle.std.proofs.Common.{sym, ◌∙◌, arith}
use Rattle.line_parser.proofs.PlainNaturals.{digit_taken}
use Rattle.line_parser.proofs.number.leading_digits.Goals as goal

pub overflow_mul-n : goal.overflow_mul-n
overflow_mul-n c =
    let l = c.digits in
    let d = digit_taken c.as_bytes-bytes.result.now l.i l.n l.invariant.digits (sym c.is_ascii_digit.ensures.value ∙ c.if-is_ascii_digit.true) (omega arith) (omega arith) l.invariant.value in
    omega (arith, d.fits)

pub overflow_add-n : goal.overflow_add-n
overflow_add-n c =
    let l = c.digits in
    let d = digit_taken c.as_bytes-bytes.result.now l.i l.n l.invariant.digits (sym c.is_ascii_digit.ensures.value ∙ c.if-is_ascii_digit.true) (omega arith) (omega arith) l.invariant.value in
    omega (arith, d.fits, c.from.ensures)

pub digits-preserved : goal.digits-preserved
digits-preserved c =
    let l = c.digits in
    let d = digit_taken c.as_bytes-bytes.result.now l.i l.n l.invariant.digits (sym c.is_ascii_digit.ensures.value ∙ c.if-is_ascii_digit.true) (omega arith) (omega arith) l.invariant.value in
    record { value = omega (arith, d.next, c.from.ensures); digits = d.digits; within = omega arith; few = omega arith }
