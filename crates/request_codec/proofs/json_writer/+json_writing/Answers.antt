use Rattle.std.proofs.Common.{◌≡◌, [], ◌∷◌, ◌++◌, map, string_bytes, string_cmp, arith, sym, ap, ◌∙◌, subst, append_assoc}
use Rattle.std.proofs.lemmas.Grind.{common_steps}
use Rattle.std.specs.List.Sorted.{IsStrictlySortedBy}
use Rattle.std.specs.Map.{keys_of}
use Rattle.serde_json.specs.Data.{object}
use Rattle.serde_json.specs.View.{view, items_of, members_view}
use Rattle.serde_json.proofs.Views.{members_view-insert_entry, view-Object}
use Rattle.request_codec.specs.Seen.{value_of}
use Rattle.request_codec.specs.Json.{json_of}
use Rattle.request_codec.proofs.DatumValue.{value_of-Map}
use Rattle.request_codec.proofs.Entries.{Entry}
use Rattle.request_codec.proofs.JsonMembers.{json_of_seen, items_of-members, put_last}
use Rattle.request_codec.proofs.json_writer.+json_writing.Goals as goal

pub json_of_datum-returns-in_ok-fields_to_json-in-Map : goal.json_of_datum-returns-in_ok-fields_to_json-in-Map
json_of_datum-returns-in_ok-fields_to_json-in-Map t c =
    let done = c.in_ok-fields_to_json-in-Map in
    view-Object done.field-0 ∙ ap object done.ensures ∙ sym (ap json_of (ap value_of c.in-Map.is ∙ value_of-Map c.in-Map.fields))

pub fields_to_json-fields-preserved : goal.fields_to_json-fields-preserved
fields_to_json-fields-preserved t c =
    let l = c.fields in
    let done = l.invariant.0 in
    let e : Entry = (c.in-Some.name.now, c.in-Some.field.now) in
    let left = c.next.new.self in
    let all : c.args.fields.now.entries ≡ done ++ e ∷ left = l.invariant.1 ∙ ap (λ es. done ++ es) c.in-Some.ensures.steps in
    let last = put_last done e left (subst (λ es. IsStrictlySortedBy string_cmp (keys_of es)) all c.iter-name-items.ensures.ordered) in
    let named : string_bytes c.in_ok-key.key ≡ string_bytes e.0 = c.in_ok-key.ensures.cases in (
      done ++ e ∷ [],
      all ∙ sym (append_assoc done (e ∷ []) left),
      ap members_view c.in_ok-insert.ensures.entries ∙ members_view-insert_entry l.values.entries c.in_ok-key.key c.in_ok-json_of_datum.field-0 ∙ rw (named, c.in_ok-json_of_datum.ensures, l.invariant.2) last,
    )

pub items_to_json-returns : goal.items_to_json-returns
items_to_json-returns t c =
    let e : map view c.items.values.items ≡ map json_of_seen c.args.items.now = grind (arith, common_steps, c.items.invariant) in
    ap items_of e ∙ items_of-members c.args.items.now
