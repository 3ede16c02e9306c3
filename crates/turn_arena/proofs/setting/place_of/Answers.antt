use Rattle.std.proofs.Common.{refl, sym, ap, arith}
use Rattle.request_codec.specs.inside.Ends.{end_of}
use Rattle.turn_arena.specs.Fields.{fields_in}
use Rattle.turn_arena.proofs.Known.{some_unless}
use Rattle.turn_arena.proofs.NamePlaces.{all_left, left_length, named_left, valued_left, place_at_end, place_before, place_found, pass_next}
use Rattle.turn_arena.proofs.setting.place_of.Goals as goal

pub fields-init : goal.fields-init
fields-init c = (fields_in c.args.state.now, all_left c.args.name.now (fields_in c.args.state.now) c.fields_of-count.result.1.now c.fields_of-count.ensures.spelled c.fields_of-count.ensures.shallow)

pub known_text-requires : goal.known_text-requires
known_text-requires c =
    let l = c.fields in
    some_unless _ (named_left c.args.name.now (fields_in c.args.state.now) c.fields_of-count.result.1.now l.counter l.left.now l.invariant.0 l.invariant.1 (omega (arith, c.fields-test.true, c.fields_of-count.ensures.count)))

pub unreachable-requires : goal.unreachable-requires
unreachable-requires c =
    let l = c.fields in
    named_left c.args.name.now (fields_in c.args.state.now) c.fields_of-count.result.1.now l.counter l.left.now l.invariant.0 l.invariant.1 (omega (arith, c.fields-test.true, c.fields_of-count.ensures.count)) (sym c.in_default.ensures)

pub known_end-after-requires : goal.known_end-after-requires
known_end-after-requires c =
    let l = c.fields in
    some_unless _ (λ none. valued_left c.args.name.now (fields_in c.args.state.now) c.fields_of-count.result.1.now l.counter l.left.now l.invariant.0 l.invariant.1 (omega (arith, c.fields-test.true, c.fields_of-count.ensures.count)) c.in-Some.other.now c.in-Some.value.now (sym c.in-Some.ensures) (sym (ap end_of none)))

pub front_of-front-requires : goal.front_of-front-requires
front_of-front-requires c =
    let l = c.fields in
    left_length c.args.name.now (fields_in c.args.state.now) c.fields_of-count.result.1.now l.counter l.left.now l.invariant.0 l.invariant.1

pub returns-in-Less : goal.returns-in-Less
returns-in-Less c =
    let l = c.fields in
    place_before c.args.name.now (fields_in c.args.state.now) c.fields_of-count.result.1.now l.counter l.left.now l.invariant.0 l.invariant.1 (omega (arith, c.fields-test.true, c.fields_of-count.ensures.count)) c.in-Some.other.now c.in-Some.value.now (sym c.in-Some.ensures)
    c.known_end-after.result.now c.known_end-after.ensures _ (sym c.in-Less.ensures) c.front_of-front.ensures refl (omega (arith, c.fields_of-count.ensures.count))

pub returns-in-Equal : goal.returns-in-Equal
returns-in-Equal c =
    let l = c.fields in
    place_found c.args.name.now (fields_in c.args.state.now) c.fields_of-count.result.1.now l.counter l.left.now l.invariant.0 l.invariant.1 (omega (arith, c.fields-test.true, c.fields_of-count.ensures.count)) c.in-Some.other.now c.in-Some.value.now (sym c.in-Some.ensures)
    c.known_end-after.result.now c.known_end-after.ensures _ (sym c.in-Equal.ensures) c.front_of-front.ensures refl c.fields_of-count.ensures.count

pub fields-preserved : goal.fields-preserved
fields-preserved c =
    let l = c.fields in (
      _,
      pass_next c.args.name.now (fields_in c.args.state.now) c.fields_of-count.result.1.now l.counter l.left.now l.invariant.0 l.invariant.1 (omega (arith, c.fields-test.true, c.fields_of-count.ensures.count)) c.in-Some.other.now c.in-Some.value.now (sym c.in-Some.ensures)
          c.known_end-after.result.now c.known_end-after.ensures (sym c.in-Greater.ensures),
    )

pub returns : goal.returns
returns c =
    let l = c.fields in
    place_at_end c.args.name.now (fields_in c.args.state.now) c.fields_of-count.result.1.now l.counter l.left.now l.invariant.0 l.invariant.1 _ (omega (arith, c.fields-test.false, c.fields_of-count.ensures.count)) refl refl (omega (arith, c.fields_of-count.ensures.count))
