use Rattle.turn_arena.proofs.Known.{known_utf8}
use Rattle.turn_arena.proofs.formed.known_text.Goals as goal

pub from_utf8_unchecked-requires : goal.from_utf8_unchecked-requires
from_utf8_unchecked-requires c = known_utf8 c.args.bytes.now c.in_ok-front.front.now c.in_ok-front.rest.now c.in_ok-front.ensures c.requires
