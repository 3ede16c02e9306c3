use Rattle.std.proofs.Common.{◌≡◌, map, drop, string_cmp}
use Rattle.std.specs.List.Sorted.{IsStrictlySortedBy}
use Rattle.std.specs.Map.{keys_of}
use Rattle.serde_json.specs.View.{items_view, members_view}
use Rattle.request_codec.specs.Seen.{value_of, entry_of}
use Rattle.request_codec.specs.Json.{members_of_json, fields_of_json}
use Rattle.request_codec.proofs.JsonParts.{with_front, with_fields}
use Rattle.request_codec.proofs.JsonObjects.{AreBelowKeys}
use Rattle.request_codec.proofs.json_reader.+json_reading.Given as goal

abbrev pub invariant-items_of_json-items : goal.invariant-items_of_json-items
invariant-items_of_json-items l = with_front (map value_of l.found.items) (members_of_json (items_view (drop l.item-index l.items))) ≡ members_of_json (items_view l.items)

abbrev pub invariant-map_of_json-members : goal.invariant-map_of_json-members
invariant-map_of_json-members l =
    record {
      ordered : IsStrictlySortedBy string_cmp (keys_of l.name-iterator);
      below : AreBelowKeys l.found.entries l.name-iterator;
      so_far : with_fields (map entry_of l.found.entries) (fields_of_json (members_view l.name-iterator)) ≡ fields_of_json (members_view l.members.entries);
    }
