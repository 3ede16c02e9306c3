use Rattle.std.proofs.Common.{◌≡◌, ◌+◌, ◌*◌, ◌-◌, None, option_map}
use Rattle.request_codec.specs.Tree.{members_hold_bytes}
use Rattle.request_codec.specs.Reading.{value_at, members_at}
use Rattle.request_codec.specs.inside.Ends.{holding}
use Rattle.request_codec.proofs.BytesFound.{so_far, fields_held}
use Rattle.request_codec.proofs.migrate.+finding.Given as goal

abbrev pub decreases-bytes_found : goal.decreases-bytes_found
decreases-bytes_found l = 2 * l.limit

abbrev pub decreases-members_found : goal.decreases-members_found
decreases-members_found l = 2 * l.limit + 1

abbrev pub decreases-fields_found : goal.decreases-fields_found
decreases-fields_found l = 2 * l.limit + 1

abbrev pub invariant-members_found-items : goal.invariant-members_found-items
invariant-members_found-items l = so_far l.found (holding members_hold_bytes (members_at (value_at l.limit) (l.count - l.counter) l.rest)) ≡ holding members_hold_bytes (members_at (value_at l.limit) l.count l.bytes)

abbrev pub invariant-fields_found-fields : goal.invariant-fields_found-fields
invariant-fields_found-fields l = so_far l.found (fields_held (value_at l.limit) (l.count - l.counter) (option_map (λ s. s.now) l.last) l.rest) ≡ fields_held (value_at l.limit) l.count None l.bytes
