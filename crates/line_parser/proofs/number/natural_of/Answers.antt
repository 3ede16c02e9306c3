use Rattle.std.proofs.Common.{◌≡◌, ◌<◌, ◌^◌, length, take, take_all, Some, sym, ap, ◌∙◌, subst, arith}
use Rattle.std.proofs.lemmas.Bool.Decides.{nat_tests}
use Rattle.std.specs.Str.Parse.{AllDigits, digits_value}
use Rattle.serde_json.specs.Data.{unsigned}
use Rattle.serde_json.specs.Read.{number_of}
use Rattle.line_parser.proofs.PlainNaturals.{number_of-digits, few_digits, digit_taken}
use Rattle.line_parser.proofs.number.natural_of.Goals as goal

pub overflow_mul-n : goal.overflow_mul-n
overflow_mul-n c =
    let bytes = c.as_bytes-bytes.result.now in
    let d = digit_taken bytes c.loop-byte.byte-index c.loop-byte.n c.loop-byte.invariant.digits (sym c.is_ascii_digit.ensures.value ∙ c.if-not-is_ascii_digit.false) (omega arith) (omega arith) c.loop-byte.invariant.value in
    omega (arith, d.fits)

pub overflow_sub-byte : goal.overflow_sub-byte
overflow_sub-byte c =
    let bytes = c.as_bytes-bytes.result.now in
    let d = digit_taken bytes c.loop-byte.byte-index c.loop-byte.n c.loop-byte.invariant.digits (sym c.is_ascii_digit.ensures.value ∙ c.if-not-is_ascii_digit.false) (omega arith) (omega arith) c.loop-byte.invariant.value in
    d.low

pub overflow_add-n : goal.overflow_add-n
overflow_add-n c =
    let bytes = c.as_bytes-bytes.result.now in
    let d = digit_taken bytes c.loop-byte.byte-index c.loop-byte.n c.loop-byte.invariant.digits (sym c.is_ascii_digit.ensures.value ∙ c.if-not-is_ascii_digit.false) (omega arith) (omega arith) c.loop-byte.invariant.value in
    omega (arith, d.fits, c.from.ensures)

pub loop-byte-preserved : goal.loop-byte-preserved
loop-byte-preserved c =
    let bytes = c.as_bytes-bytes.result.now in
    let d = digit_taken bytes c.loop-byte.byte-index c.loop-byte.n c.loop-byte.invariant.digits (sym c.is_ascii_digit.ensures.value ∙ c.if-not-is_ascii_digit.false) (omega arith) (omega arith) c.loop-byte.invariant.value in
    record { value = omega (arith, d.next, c.from.ensures); digits = d.digits }

pub returns-clause-read : goal.returns-clause-read
returns-clause-read c =
    let bytes = c.as_bytes-bytes.result.now in
    let all : take c.loop-byte.byte-index bytes ≡ bytes = take_all c.loop-byte.byte-index bytes (omega arith) in
    let digits = subst (AllDigits 10) all c.loop-byte.invariant.digits in
    let few : digits_value 10 bytes < 10 ^ 18 = few_digits bytes digits (omega arith) in
    let some : 0 < length bytes = grind (arith, nat_tests) in
    ap number_of (sym c.as_bytes-bytes.ensures.value) ∙ number_of-digits bytes digits some (omega (arith, few))
    ∙ ap (λ n. Some (unsigned n)) (sym (c.loop-byte.invariant.value ∙ ap (digits_value 10) all))

pub returns-clause-within : goal.returns-clause-within
returns-clause-within c =
    let bytes = c.as_bytes-bytes.result.now in
    let all : take c.loop-byte.byte-index bytes ≡ bytes = take_all c.loop-byte.byte-index bytes (omega arith) in
    let few : digits_value 10 bytes < 10 ^ 18 = few_digits bytes (subst (AllDigits 10) all c.loop-byte.invariant.digits) (omega arith) in
    omega (arith, few, c.loop-byte.invariant.value ∙ ap (digits_value 10) all)
