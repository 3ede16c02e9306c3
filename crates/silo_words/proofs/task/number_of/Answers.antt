use Rattle.std.proofs.Common.{◌≡◌, Some, None, Ok, arith}
use Rattle.clap.specs.Words.{found_of}
use Rattle.silo_words.proofs.WordLemmas.{IsNumber-read, IsNumber-left_out, not_number-outside, not_number-text, reads_rows}
use Rattle.silo_words.proofs.task.number_of.Goals as goal

pub returns-in-Ok-None-clause-some : goal.returns-in-Ok-None-clause-some
returns-in-Ok-None-clause-some c =
    let is : c.try_get_one.result ≡ Ok None = cc (c.in-Ok-None.is, c.in-Ok-None.field-0-is) in
    IsNumber-left_out _ c.args.usual c.args.least c.args.most _
    (reads_rows _ (found_of c.args.found.now) c.args.option.now (c.try_get_one.ensures.none, c.try_get_one.ensures.value)) is

pub returns-in-Ok-Some-clause-some : goal.returns-in-Ok-Some-clause-some
returns-in-Ok-Some-clause-some c =
    let is : c.try_get_one.result ≡ Ok (Some c.in-Ok-Some.number) = cc (c.in-Ok-Some.is, c.in-Ok-Some.field-0-is, c.in-Ok-Some.number-is) in
    IsNumber-read _ c.args.usual c.args.least c.args.most _
    (reads_rows _ (found_of c.args.found.now) c.args.option.now (c.try_get_one.ensures.none, c.try_get_one.ensures.value)) _ is
    c.if-least-number.true c.if-number-most.true

pub returns-in-Ok-Some-2-clause-none : goal.returns-in-Ok-Some-2-clause-none
returns-in-Ok-Some-2-clause-none c number =
    let is : c.try_get_one.result ≡ Ok (Some c.in-Ok-Some.number) = cc (c.in-Ok-Some.is, c.in-Ok-Some.field-0-is, c.in-Ok-Some.number-is) in
    not_number-outside _ c.args.usual c.args.least c.args.most _
    (reads_rows _ (found_of c.args.found.now) c.args.option.now (c.try_get_one.ensures.none, c.try_get_one.ensures.value)) _ number is
    (λ low high. omega (arith, high, c.if-number-most.false))

pub returns-in-Ok-Some-2-2-clause-none : goal.returns-in-Ok-Some-2-2-clause-none
returns-in-Ok-Some-2-2-clause-none c number =
    let is : c.try_get_one.result ≡ Ok (Some c.in-Ok-Some.number) = cc (c.in-Ok-Some.is, c.in-Ok-Some.field-0-is, c.in-Ok-Some.number-is) in
    not_number-outside _ c.args.usual c.args.least c.args.most _
    (reads_rows _ (found_of c.args.found.now) c.args.option.now (c.try_get_one.ensures.none, c.try_get_one.ensures.value)) _ number is
    (λ low high. omega (arith, low, c.if-least-number.false))

pub returns-in-Err-clause-none : goal.returns-in-Err-clause-none
returns-in-Err-clause-none c number =
    not_number-text _ c.args.usual c.args.least c.args.most _
    (reads_rows _ (found_of c.args.found.now) c.args.option.now (c.try_get_one.ensures.none, c.try_get_one.ensures.value))
    (omega (arith, c.ranges.most.fits)) _ number c.in-Err.is
