use Rattle.std.proofs.Common.{map, drop, option_map}
use Rattle.line_parser.specs.inside.Fields.{place_kept}
use Rattle.line_parser.proofs.Places.{PutsPlaces}
use Rattle.line_parser.proofs.fields.put_in_order.Given as goal

abbrev pub invariant-loop-place : goal.invariant-loop-place
invariant-loop-place l = record {
  put : PutsPlaces (map place_kept l.known) (drop l.place (map place_kept l.known)) (option_map (λ t. t.now) l.last) l.bytes l.fn.sorted.items l.sorted.items;
}
