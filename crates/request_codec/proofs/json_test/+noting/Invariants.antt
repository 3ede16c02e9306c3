use Rattle.std.proofs.Common.{◌≡◌, ◌||◌, drop}
use Rattle.serde_json.specs.View.{items_view, members_view}
use Rattle.request_codec.specs.Json.{are_not_whole, fields_not_whole}
use Rattle.request_codec.specs.Lenient.{are_not_hex, fields_not_hex}
use Rattle.request_codec.proofs.json_test.+noting.Given as goal

abbrev pub invariant-note_items-items : goal.invariant-note_items-items
invariant-note_items-items l =
    record {
      whole : (l.flaws.not_whole || are_not_whole (items_view (drop l.item-index l.items))) ≡ (l.initial.flaws.not_whole || are_not_whole (items_view l.items));
      hex : (l.flaws.not_hex || are_not_hex (items_view (drop l.item-index l.items))) ≡ (l.initial.flaws.not_hex || are_not_hex (items_view l.items));
    }

abbrev pub invariant-note_members-members : goal.invariant-note_members-members
invariant-note_members-members l =
    record {
      whole : (l.flaws.not_whole || fields_not_whole (members_view l._name-iterator)) ≡ (l.initial.flaws.not_whole || fields_not_whole (members_view l.members.entries));
      hex : (l.flaws.not_hex || fields_not_hex (members_view l._name-iterator)) ≡ (l.initial.flaws.not_hex || fields_not_hex (members_view l.members.entries));
    }
