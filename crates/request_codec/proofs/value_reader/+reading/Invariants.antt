use Rattle.std.proofs.Common.{◌≡◌, ℕ, ◌+◌, ◌*◌, ◌-◌, List, None, option_map, true}
use Rattle.request_codec.specs.Reading.{value_at, members_at, fields_at, is_above}
use Rattle.request_codec.specs.inside.Build.{AreBelow}
use Rattle.request_codec.proofs.MemberLoops.{with_members, with_fields}
use Rattle.request_codec.proofs.value_reader.+reading.Given as goal

abbrev pub decreases-read_value : goal.decreases-read_value
decreases-read_value g l = 2 * l.limit

abbrev pub decreases-read_items : goal.decreases-read_items
decreases-read_items g l = 2 * l.limit + 1

abbrev pub decreases-read_fields : goal.decreases-read_fields
decreases-read_fields g l = 2 * l.limit + 1

abbrev pub invariant-read_items-items : goal.invariant-read_items-items
invariant-read_items-items g l =
    with_members (g.B.Builder.listed l.items) (members_at (value_at l.limit) (l.count - l.counter) l.rest) ≡ members_at (value_at l.limit) l.count l.bytes

abbrev pub invariant-read_fields-fields : goal.invariant-read_fields-fields
invariant-read_fields-fields g l =
    record {
      below : (name : List ℕ) → is_above (option_map (λ s. s.now) l.last) name ≡ true → AreBelow (g.B.Builder.named l.fields) name;
      so_far : with_fields (g.B.Builder.named l.fields) (fields_at (value_at l.limit) (l.count - l.counter) (option_map (λ s. s.now) l.last) l.rest) ≡ fields_at (value_at l.limit) l.count None l.bytes;
    }
