use Rattle.std.proofs.Common.{◌≡◌, ◌+◌, ◌*◌, ◌-◌, None, option_map}
use Rattle.request_codec.specs.Reading.{value_at, members_at, fields_at}
use Rattle.request_codec.specs.inside.Ends.{end_of}
use Rattle.request_codec.proofs.value_end.+ends.Given as goal

abbrev pub decreases-value_end : goal.decreases-value_end
decreases-value_end l = 2 * l.limit

abbrev pub decreases-members_end : goal.decreases-members_end
decreases-members_end l = 2 * l.limit + 1

abbrev pub decreases-fields_end : goal.decreases-fields_end
decreases-fields_end l = 2 * l.limit + 1

abbrev pub invariant-members_end-items : goal.invariant-members_end-items
invariant-members_end-items l = end_of (members_at (value_at l.limit) (l.count - l.counter) l.rest) ≡ end_of (members_at (value_at l.limit) l.count l.bytes)

abbrev pub invariant-fields_end-fields : goal.invariant-fields_end-fields
invariant-fields_end-fields l = end_of (fields_at (value_at l.limit) (l.count - l.counter) (option_map (λ s. s.now) l.last) l.rest) ≡ end_of (fields_at (value_at l.limit) l.count None l.bytes)
