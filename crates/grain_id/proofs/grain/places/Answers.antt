use Rattle.std.proofs.Common.{sym, arith}
use Rattle.grain_id.proofs.Reading.{word_length}
use Rattle.grain_id.proofs.Places.{IsPlacedGrain-cuts}
use Rattle.grain_id.proofs.grain.places.Goals as goal

pub overflow_cast-result : goal.overflow_cast-result
overflow_cast-result c = omega (arith, word_length c.in-Some.kind.now (sym c.if-not-is_word.ensures))

pub overflow_cast-result-2 : goal.overflow_cast-result-2
overflow_cast-result-2 c =
    omega (arith, word_length c.in-Some.kind.now (sym c.if-not-is_word.ensures), word_length c.in-Some-cut.tenant.now (sym c.if-not-is_word-2.ensures))

pub returns : goal.returns
returns c =
    IsPlacedGrain-cuts c.args.text.now c.in-Some.kind.now c.in-Some.rest.now c.in-Some-cut.tenant.now c.in-Some-cut.name.now
    (sym c.in-Some.ensures) (sym c.in-Some-cut.ensures)
    (sym c.if-not-is_word.ensures) (sym c.if-not-is_word-2.ensures) (sym c.if-not-is_name.ensures)
