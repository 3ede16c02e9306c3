use Rattle.std.proofs.Common.{sym, ◌∙◌}
use Rattle.line_parser.specs.inside.Fields.{place_kept}
use Rattle.line_parser.proofs.Places.{places_next, place_there, at_next}
use Rattle.line_parser.proofs.fields.put_in_order.Goals as goal

pub put_part-requires : goal.put_part-requires
put_part-requires c =
    let l = c.loop-place in
    place_there place_kept c.args.known.now l.place _ _ _ _ _ c.loop-place-test.true l.invariant.put

pub loop-place-preserved : goal.loop-place-preserved
loop-place-preserved c =
    let l = c.loop-place in
    record {
      put = places_next _ _ _ _ _ _ _ _ _ l.invariant.put (at_next place_kept c.args.known.now l.place _ c.loop-place-test.true) (sym c.may_follow.ensures ∙ c.if-not-may_follow.false) c.in_ok-put_part.ensures;
    }
