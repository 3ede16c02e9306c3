use Rattle.std.proofs.Common.{◌≡◌, ℕ, Result, Ok, Err, true≢false, sym, ◌∙◌, arith}
use Rattle.silo_words.proofs.PartLemmas.{IsNumberText-parsed, parsed-IsNumberText, first_of_number}
use Rattle.silo_words.proofs.parts.read_number.Goals as goal

same_number : {E : Type 0} (r : Result ℕ E) (x y : ℕ) → r ≡ Ok x → r ≡ Ok y → x ≡ y
same_number r x y is also = cc

ok_no_err : {E : Type 0} (r : Result ℕ E) (x : ℕ) (e : E) → r ≡ Ok x → r ≡ Err e → ⊥
ok_no_err r x e is also = cc

pub returns-then-not-begins_above_zero-clause-none : goal.returns-then-not-begins_above_zero-clause-none
returns-then-not-begins_above_zero-clause-none c number is =
    let begins = c.begins_above_zero.ensures.1 (first_of_number c.args.text.now c.args.most number (omega (arith, c.ranges.most)) is) in
    true≢false (sym begins ∙ c.if-not-begins_above_zero.true)

pub returns-in-Ok-clause-some : goal.returns-in-Ok-clause-some
returns-in-Ok-clause-some c =
    let first = c.begins_above_zero.ensures.0 c.if-not-begins_above_zero.false in
    IsNumberText-parsed c.args.text.now c.args.most c.in-Ok.number _ first.0 c.parse.ensures.value.0 c.in-Ok.is c.if-number-most.true

pub returns-in_default-clause-none : goal.returns-in_default-clause-none
returns-in_default-clause-none c number is =
    let parsed = parsed-IsNumberText c.args.text.now c.args.most number c.parse.result (omega (arith, c.ranges.most)) c.parse.ensures.value.0 is in
    omega (arith, same_number c.parse.result c.in-Ok.number number c.in-Ok.is parsed, is.0, c.if-number-most.false)

pub returns-in_default-2-clause-none : goal.returns-in_default-2-clause-none
returns-in_default-2-clause-none c number is =
    ok_no_err _ number _ (parsed-IsNumberText c.args.text.now c.args.most number c.parse.result (omega (arith, c.ranges.most)) c.parse.ensures.value.0 is) c.in_default.is
