use Rattle.journal_text.proofs.Common.{sym, ◌∙◌, true≢false, arith, same_text_decides}
use Rattle.journal_text.proofs.Numbers.{wide_of-decimal, wide_of-none, not_decimal, zero_read, not_parsed, decimal_parsed}
use Rattle.journal_text.proofs.fields.parse_u64.Goals as goal

pub returns-then-eq : goal.returns-then-eq
returns-then-eq c = zero_read _ ((same_text_decides _ _).0 (sym c.if-eq.ensures))

pub returns-then-not-begins_above_zero : goal.returns-then-not-begins_above_zero
returns-then-not-begins_above_zero c =
    wide_of-none _ (not_decimal _ (λ is. true≢false (sym ((same_text_decides _ _).1 is) ∙ sym c.if-eq.ensures)) (λ low. true≢false (sym (c.begins_above_zero.ensures.1 low) ∙ c.if-not-begins_above_zero.true)))

pub returns-in-Ok : goal.returns-in-Ok
returns-in-Ok c =
    let first = c.begins_above_zero.ensures.0 c.if-not-begins_above_zero.false in
    wide_of-decimal _ _ (decimal_parsed _ _ c.parse.result first.0 c.parse.ensures.value.0 c.in-Ok.is) (omega (arith, c.in-Ok.ensures))

pub returns-in-Err : goal.returns-in-Err
returns-in-Err c = wide_of-none _ (not_parsed _ _ c.parse.result c.parse.ensures.value.0 c.in-Err.is)
