use Rattle.std.proofs.Common.{sym, arith}
use Rattle.grain_id.proofs.Reading.{word_length}
use Rattle.grain_id.proofs.Places.{IsPlacedClient-cut}
use Rattle.grain_id.proofs.caller.place.Goals as goal

pub overflow_cast-result : goal.overflow_cast-result
overflow_cast-result c = omega (arith, word_length c.in-Some.tenant.now (sym c.if-not-is_word.ensures))

pub returns : goal.returns
returns c =
    IsPlacedClient-cut c.args.text.now c.in-Some.tenant.now c.in-Some.client.now
    (sym c.in-Some.ensures) (sym c.if-not-is_word.ensures) (sym c.if-not-is_word-2.ensures)
