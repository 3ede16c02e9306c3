use Rattle.std.proofs.Common.{◌≡◌, ℕ, ◌+◌, ◌*◌, ◌-◌, List, Option, None}
use Rattle.request_codec.specs.inside.Build.{Named}
use Rattle.request_codec.specs.Reading.{value_at, members_at, fields_at}
use Rattle.request_codec.specs.Tree.{Tree}
use Rattle.request_codec.proofs.MemberLoops.{with_members, with_fields}
use Rattle.turn_arena.proofs.passing.+passing.Given as goal

abbrev pub decreases-known_end : goal.decreases-known_end
decreases-known_end l = 2 * l.limit

abbrev pub decreases-known_members_end : goal.decreases-known_members_end
decreases-known_members_end l = 2 * l.limit + 1

abbrev pub decreases-known_fields_end : goal.decreases-known_fields_end
decreases-known_fields_end l = 2 * l.limit + 1

-- the values that were passed
abbrev pub invariant-known_members_end-items : goal.invariant-known_members_end-items
invariant-known_members_end-items l =
    (front : List Tree) × (with_members front (members_at (value_at l.limit) (l.count - l.counter) l.rest) ≡ members_at (value_at l.limit) l.count l.bytes)

-- the fields that were passed, and the name of the last
abbrev pub invariant-known_fields_end-fields : goal.invariant-known_fields_end-fields
invariant-known_fields_end-fields l =
    (front : List Named) × (last : Option (List ℕ)) × (with_fields front (fields_at (value_at l.limit) (l.count - l.counter) last l.rest) ≡ fields_at (value_at l.limit) l.count None l.bytes)
