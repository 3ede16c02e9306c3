use Rattle.std.proofs.Common.{◌≡◌, ℕ, ◌++◌, [], ◌∷◌, List, None, length, map, refl, sym, ap, subst, append-nil, ◌∙◌, arith}
use Rattle.std.specs.List.Sorted.{IsPermutation}
use Rattle.std.proofs.lemmas.Bool.Decides.{nat_tests}
use Rattle.std.proofs.lemmas.List.Sorted.{IsPermutation-trans, IsPermutation-append_comm}
use Rattle.arrayvec.specs.ArrayVec.{ArrayVec, with_items}
use Rattle.arrayvec.proofs.ArrayVecLemmas.{items-with_items}
use Rattle.line_parser.specs.inside.Fields.{PlacedField, HoldsFields, PutsSorted, Ascend, bytes_at, place_kept}
use Rattle.line_parser.specs.declared.fields.Fields.{Fields}
use Rattle.line_parser.specs.declared.fields.Known.{Known}
use Rattle.line_parser.proofs.Places.{sorted_places, sorted_within}
use Rattle.line_parser.proofs.Results.{on_ok₂}
use Rattle.line_parser.proofs.fields.Fields.put_sorted.Goals as goal

-- what the table shows once its slice was sorted, if all is in place
few_sorted : (few : ArrayVec Known) (more lent sorted shown : List Known) → lent ≡ few.items → IsPermutation lent sorted → length sorted ≡ length lent → shown ≡ (with_items few sorted).items → more ≡ [] → IsPermutation (few.items ++ more) shown
few_sorted few more lent sorted shown is moved long shows none =
    let same : (with_items few sorted).items ≡ sorted = items-with_items few sorted (long ∙ ap length is) in
    let all : few.items ++ more ≡ lent = ap (λ l. few.items ++ l) none ∙ append-nil few.items ∙ sym is in
    subst (λ l. IsPermutation l shown) (sym all) (subst (IsPermutation lent) (sym (shows ∙ same)) moved)

-- ..and if it is not
all_sorted : (few more whole sorted shown : List Known) → whole ≡ more ++ few → IsPermutation whole sorted → shown ≡ sorted → IsPermutation (few ++ more) shown
all_sorted few more whole sorted shown is moved shows =
    IsPermutation-trans (few ++ more) (more ++ few) shown (IsPermutation-append_comm few more) (subst (IsPermutation (more ++ few)) (sym shows) (subst (λ l. IsPermutation l sorted) is moved))

none_there : (xs : List Known) → length xs ≡ 0 → xs ≡ []
none_there [] h = refl
none_there (x ∷ xs) h = absurd (omega (arith, h))

puts_sorted : (placed : List PlacedField) (fields : Fields) (out new : List ℕ) (known : List Known) → HoldsFields placed fields → IsPermutation (fields.few.items ++ fields.more.items) known → Ascend None (map place_kept known) → new ≡ bytes_at out (map place_kept known) → PutsSorted placed out new
puts_sorted placed fields out new known h moved up bytes = record {
  places = map place_kept known;
  moved = sorted_places placed fields known h moved;
  ascend = up;
  bytes = bytes;
}

pub put_in_order-requires : goal.put_in_order-requires
put_in_order-requires c =
    let (placed, front, start, h, b) = c.requires in
    let none : length c.args.self.now.more.items ≡ 0 = grind (arith, nat_tests) in
    let moved = few_sorted c.args.self.now.few c.args.self.now.more.items c.deref_mut.result.now c.sort_unstable.new.self c.as_slice.result.now c.deref_mut.ensures.value c.sort_unstable.ensures.permutation c.sort_unstable.ensures.len c.as_slice.ensures.value (none_there _ none) in
    sorted_within placed front c.args.bytes.now start (map place_kept c.as_slice.result.now) b (sorted_places placed c.args.self.now c.as_slice.result.now h moved)

pub returns-then-is_empty : goal.returns-then-is_empty
returns-then-is_empty c = on_ok₂ c.put_in_order.result c.put_in_order.ensures.ascend c.put_in_order.ensures.bytes λ up bytes placed h none_yet.
    let none : length c.args.self.now.more.items ≡ 0 = grind (arith, nat_tests) in
    let moved = few_sorted c.args.self.now.few c.args.self.now.more.items c.deref_mut.result.now c.sort_unstable.new.self c.as_slice.result.now c.deref_mut.ensures.value c.sort_unstable.ensures.permutation c.sort_unstable.ensures.len c.as_slice.ensures.value (none_there _ none) in
    puts_sorted placed c.args.self.now c.args.bytes.now c.put_in_order.new.sorted.items c.as_slice.result.now h moved up (bytes ∙ ap (λ l. l ++ bytes_at c.args.bytes.now (map place_kept c.as_slice.result.now)) none_yet)

pub put_in_order-requires-2 : goal.put_in_order-requires-2
put_in_order-requires-2 c =
    let (placed, front, start, h, b) = c.requires in
    let whole = c.in_ok-extend_from_slice.ensures.items ∙ ap (λ l. c.args.self.now.more.items ++ l) c.as_slice-2.ensures.value in
    let moved = all_sorted c.args.self.now.few.items c.args.self.now.more.items c.extend_from_slice.new.self.items c.sort_unstable-2.new.self.items c.as_slice-3.result.now whole c.sort_unstable-2.ensures.permutation c.as_slice-3.ensures.value in
    sorted_within placed front c.args.bytes.now start (map place_kept c.as_slice-3.result.now) b (sorted_places placed c.args.self.now c.as_slice-3.result.now h moved)

pub returns : goal.returns
returns c = on_ok₂ c.put_in_order-2.result c.put_in_order-2.ensures.ascend c.put_in_order-2.ensures.bytes λ up bytes placed h none_yet.
    let whole = c.in_ok-extend_from_slice.ensures.items ∙ ap (λ l. c.args.self.now.more.items ++ l) c.as_slice-2.ensures.value in
    let moved = all_sorted c.args.self.now.few.items c.args.self.now.more.items c.extend_from_slice.new.self.items c.sort_unstable-2.new.self.items c.as_slice-3.result.now whole c.sort_unstable-2.ensures.permutation c.as_slice-3.ensures.value in
    puts_sorted placed c.args.self.now c.args.bytes.now c.put_in_order-2.new.sorted.items c.as_slice-3.result.now h moved up (bytes ∙ ap (λ l. l ++ bytes_at c.args.bytes.now (map place_kept c.as_slice-3.result.now)) none_yet)
