use Rattle.std.proofs.Common.{◌≡◌, List, ◌++◌, take, map}
use Rattle.serde_json.specs.View.{view, members_view}
use Rattle.request_codec.specs.Tree.{fields_of}
use Rattle.request_codec.specs.Seen.{entry_of}
use Rattle.request_codec.specs.Json.{json_members_of}
use Rattle.request_codec.proofs.Entries.{Entry}
use Rattle.request_codec.proofs.JsonMembers.{json_of_seen}
use Rattle.request_codec.proofs.json_writer.+json_writing.Given as goal

abbrev pub invariant-items_to_json-items : goal.invariant-items_to_json-items
invariant-items_to_json-items l = map view l.values.items ≡ map json_of_seen (take l.item-index l.items)

abbrev pub invariant-fields_to_json-fields : goal.invariant-fields_to_json-fields
invariant-fields_to_json-fields l =
    (done : List Entry) × (l.fields.entries ≡ done ++ l.name-iterator) × (members_view l.values.entries ≡ json_members_of (fields_of (map entry_of done)))
