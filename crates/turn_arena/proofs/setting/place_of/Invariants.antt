use Rattle.request_codec.specs.Tree.{Fields}
use Rattle.turn_arena.specs.Fields.{fields_in}
use Rattle.turn_arena.proofs.NamePlaces.{AreLeft}
use Rattle.turn_arena.proofs.setting.place_of.Given as goal

abbrev pub invariant-fields : goal.invariant-fields
invariant-fields l = (left : Fields) × AreLeft l.name (fields_in l.state) l.fields l.counter l.left left
