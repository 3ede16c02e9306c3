use Rattle.std.proofs.Common.{◌≡◌, Some, refl, ap, sym, ◌∙◌, arith}
use Rattle.std.proofs.lemmas.Int.{to_z-of_z}
use mir.Val.{to_z, of_z}
use mir.Syntax.{w64}
use Rattle.request_codec.specs.Limits.{depth_limit}
use Rattle.request_codec.specs.Tree as tree
use Rattle.request_codec.specs.Tree.{integer, field, no_fields}
use Rattle.turn_arena.proofs.Known.{not_none, known_begun}
use Rattle.turn_arena.proofs.NumberFound.{starts_as_one, number_left}
use Rattle.turn_arena.proofs.OnlyNumber.{name_stands, value_stands, number_stands}
use Rattle.turn_arena.proofs.numbers.named_number.Goals as goal

pub only_field-requires : goal.only_field-requires
only_field-requires c = known_begun depth_limit c.args.bytes.now c.requires

pub known_text-requires : goal.known_text-requires
known_text-requires c = name_stands c.args.bytes.now c.in_ok-only.only.now c.requires c.in_ok-only.ensures.found

pub unreachable-requires : goal.unreachable-requires
unreachable-requires c = not_none _ (sym c.in_default.ensures) (name_stands c.args.bytes.now c.in_ok-only.only.now c.requires c.in_ok-only.ensures.found)

pub number_in-requires : goal.number_in-requires
number_in-requires c = known_begun 31 c.in-Some.value.now (value_stands c.args.bytes.now c.in_ok-only.only.now c.requires c.in_ok-only.ensures.found c.in-Some.name.now c.in-Some.value.now (sym c.in-Some.ensures))

pub returns-clause-found : goal.returns-clause-found
returns-clause-found c =
    let number = c.in_ok-number.number in
    let same : to_z w64 (of_z w64 number) ≡ number = grind (arith, to_z-of_z) in
    number_stands c.args.bytes.now c.in_ok-only.only.now c.requires c.in_ok-only.ensures.found c.in-Some.name.now c.in-Some.value.now (sym c.in-Some.ensures) number c.in_ok-number.rest.now c.in_ok-number.ensures.found
    ∙ ap (λ n. Some (tree.map (field c.in-Some.name.now (integer n) no_fields), c.in_ok-number.rest.now)) (sym same)

pub returns-in_err-only-clause-none : goal.returns-in_err-only-clause-none
returns-in_err-only-clause-none c = λ none name number rest is.
    let one = starts_as_one depth_limit c.args.bytes.now name (integer number) rest (omega arith) is in
    c.in_err-only.ensures.none refl one.0 one.1.0

pub returns-in_err-number-clause-none : goal.returns-in_err-number-clause-none
returns-in_err-number-clause-none c = λ none name number rest is.
    c.in_err-number.ensures.none refl number rest (number_left depth_limit c.args.bytes.now c.in_ok-only.only.now c.in-Some.name.now c.in-Some.value.now name number rest (omega arith) c.in_ok-only.ensures.found (sym c.in-Some.ensures) is)
