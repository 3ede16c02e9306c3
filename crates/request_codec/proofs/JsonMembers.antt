-- A JSON object that grows by names that ascend, beside the fields that it stands for.
use Rattle.std.proofs.Common.{◌≡◌, List, [], ◌∷◌, ◌++◌, map as each, Less, Greater, string_bytes, string_cmp, nat_cmp, refl, ap, ◌∙◌}
use Rattle.std.proofs.lemmas.Cmp.{nat_list_cmp_total}
use Rattle.std.specs.Cmp.Lexicographic.{slice_cmp}
use Rattle.std.specs.List.{AllByRecursion}
use Rattle.std.specs.List.Sorted.{IsStrictlySortedBy}
use Rattle.std.specs.Map.{keys_of}
use Rattle.std.specs.Ordering.{ordering_reverse}
use Rattle.serde_json.specs.Data.{Data, item, member, put}
use Rattle.serde_json.specs.View.{items_of as view_items}
use Rattle.request_codec.specs.Tree.{members_of, fields_of}
use Rattle.request_codec.specs.Seen.{value_of, entry_of}
use Rattle.request_codec.specs.Json.{json_of, items_of, json_members_of}
use Rattle.request_codec.specs.declared.datum.Datum.{Datum}
use Rattle.request_codec.proofs.Entries.{Entry}

below_middle : (first : Entry) (es : List Entry) (e : Entry) (more : List Entry) → AllByRecursion (λ y. string_cmp first.0 y ≡ Less) (keys_of (es ++ e ∷ more)) → string_cmp first.0 e.0 ≡ Less
below_middle first [] e more h = h.0
below_middle first (x ∷ es) e more h = below_middle first es e more h.1

-- a name that is above those before it goes last
pub put_last : (done : List Entry) (e : Entry) (more : List Entry) → IsStrictlySortedBy string_cmp (keys_of (done ++ e ∷ more))
    → put (string_bytes e.0) (json_of (value_of e.1)) (json_members_of (fields_of (each entry_of done))) ≡ json_members_of (fields_of (each entry_of (done ++ e ∷ [])))
unfolding IsStrictlySortedBy
put_last [] e more h = refl
put_last (first ∷ done) e more h =
    let above : slice_cmp nat_cmp (string_bytes e.0) (string_bytes first.0) ≡ Greater =
    nat_list_cmp_total.antisymm (string_bytes e.0) (string_bytes first.0) ∙ ap ordering_reverse (below_middle first done e more h.0) in
    rw above (ap (member (string_bytes first.0) (json_of (value_of first.1))) (put_last done e more h.1))

abbrev pub json_of_seen : Datum → Data
json_of_seen d = json_of (value_of d)

pub items_of-members : (ds : List Datum) → view_items (each json_of_seen ds) ≡ items_of (members_of (each value_of ds))
items_of-members [] = refl
items_of-members (d ∷ ds) = ap (item (json_of_seen d)) (items_of-members ds)
