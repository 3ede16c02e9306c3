-- JSON, part after part.
use Rattle.std.proofs.Common.{◌≡◌, ℕ, ◌+◌, ◌<◌, ◌≤◌, List, [], ◌∷◌, ◌++◌, length, get_or, drop, String, Global, Option, Some, None, option_map, string_bytes, refl, sym, ap, ◌∙◌}
use Rattle.std.specs.Prelude.{option_and_then}
use Rattle.std.proofs.lemmas.List.{drop_more, drop_all}
use Rattle.serde_json.specs.View.{view, items_view, members_view}
use Rattle.serde_json.specs.declared.value.Value.{Value}
use Rattle.request_codec.specs.Tree.{Tree, Members, no_members, member, Fields, no_fields, field, members_of, fields_of}
use Rattle.request_codec.specs.inside.Build.{Named}
use Rattle.request_codec.proofs.MemberLoops.{before, before-nil, before-append, before_fields, before_fields-nil, before_fields-append}
use Rattle.request_codec.specs.Json.{value_of_json, members_of_json, fields_of_json}

abbrev pub JsonEntry : Type 0
JsonEntry = String Global × Value

-- ---- values

-- what was converted, and what is still to be converted
abbrev pub with_front : List Tree → Option Members → Option Members
with_front front o = option_map (before front) o

regroup : (front : List Tree) (v : Tree) (o : Option Members) → with_front front (option_map (member v) o) ≡ with_front (front ++ v ∷ []) o
regroup front v None = refl
regroup front v (Some vs) = ap (λ (us : Members). Some us) (before-append front v vs)

items-cut : (vs : List Value) (i : ℕ) (d : Value) (found : Option Tree) → i < length vs → value_of_json (view (get_or vs i d)) ≡ found
    → members_of_json (items_view (drop i vs)) ≡ option_and_then (λ u. option_map (member u) (members_of_json (items_view (drop (i + 1) vs)))) found
items-cut vs i d found lt h =
    ap (λ (ws : List Value). members_of_json (items_view ws)) (drop_more vs i d lt)
    ∙ ap (λ (o : Option Tree). option_and_then (λ u. option_map (member u) (members_of_json (items_view (drop (i + 1) vs)))) o) h

pub items-next : (front : List Tree) (vs : List Value) (i : ℕ) (d : Value) (v : Tree) (total : Option Members) → i < length vs → value_of_json (view (get_or vs i d)) ≡ Some v
    → with_front front (members_of_json (items_view (drop i vs))) ≡ total → with_front (front ++ v ∷ []) (members_of_json (items_view (drop (i + 1) vs))) ≡ total
items-next front vs i d v total lt h so_far =
    let rest = members_of_json (items_view (drop (i + 1) vs)) in
    sym (ap (with_front front) (items-cut vs i d (Some v) lt h) ∙ regroup front v rest) ∙ so_far

pub items-done : (front : List Tree) (vs : List Value) (i : ℕ) (total : Option Members) → length vs ≤ i → with_front front (members_of_json (items_view (drop i vs))) ≡ total → total ≡ Some (members_of front)
items-done front vs i total le so_far =
    let one : with_front front (members_of_json (items_view (drop i vs))) ≡ Some (before front no_members) = ap (λ (ws : List Value). with_front front (members_of_json (items_view ws))) (drop_all i vs le) in
    sym so_far ∙ one ∙ ap (λ (us : Members). Some us) (before-nil front)

-- ---- named values

abbrev pub with_fields : List Named → Option Fields → Option Fields
with_fields front o = option_map (before_fields front) o

regroup_fields : (front : List Named) (f : Named) (o : Option Fields) → with_fields front (option_map (field f.0 f.1) o) ≡ with_fields (front ++ f ∷ []) o
regroup_fields front f None = refl
regroup_fields front f (Some fs) = ap (λ (us : Fields). Some us) (before_fields-append front f fs)

fields-cut : (es : List JsonEntry) (e : JsonEntry) (rest : List JsonEntry) (found : Option Tree) → es ≡ e ∷ rest → value_of_json (view e.1) ≡ found
    → fields_of_json (members_view es) ≡ option_and_then (λ u. option_map (field (string_bytes e.0) u) (fields_of_json (members_view rest))) found
fields-cut es e rest found is h =
    ap (λ (l : List JsonEntry). fields_of_json (members_view l)) is
    ∙ ap (λ (o : Option Tree). option_and_then (λ u. option_map (field (string_bytes e.0) u) (fields_of_json (members_view rest))) o) h

pub fields-next : (front : List Named) (es : List JsonEntry) (e : JsonEntry) (rest : List JsonEntry) (v : Tree) (total : Option Fields) → es ≡ e ∷ rest → value_of_json (view e.1) ≡ Some v
    → with_fields front (fields_of_json (members_view es)) ≡ total → with_fields (front ++ (string_bytes e.0, v) ∷ []) (fields_of_json (members_view rest)) ≡ total
fields-next front es e rest v total is h so_far =
    sym (ap (with_fields front) (fields-cut es e rest (Some v) is h) ∙ regroup_fields front (string_bytes e.0, v) (fields_of_json (members_view rest))) ∙ so_far

pub fields-done : (front : List Named) (es : List JsonEntry) (total : Option Fields) → es ≡ [] → with_fields front (fields_of_json (members_view es)) ≡ total → total ≡ Some (fields_of front)
fields-done front es total is so_far =
    let one : with_fields front (fields_of_json (members_view es)) ≡ Some (before_fields front no_fields) = ap (λ (l : List JsonEntry). with_fields front (fields_of_json (members_view l))) is in
    sym so_far ∙ one ∙ ap (λ (us : Fields). Some us) (before_fields-nil front)
