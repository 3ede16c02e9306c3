use Rattle.std.proofs.Common.{◌+◌, ◌*◌, option_map, string_bytes}
use Rattle.request_codec.specs.Reading.{value_at}
use Rattle.line_text.proofs.ValueTexts.{MembersRead, FieldsRead}
use Rattle.line_text.proofs.value_text.+printing.Given as goal

abbrev pub decreases-push_value : goal.decreases-push_value
decreases-push_value l = 2 * l.limit

abbrev pub decreases-push_members : goal.decreases-push_members
decreases-push_members l = 2 * l.limit + 1

abbrev pub decreases-push_fields : goal.decreases-push_fields
decreases-push_fields l = 2 * l.limit + 1

abbrev pub invariant-push_members-items : goal.invariant-push_members-items
invariant-push_members-items l = MembersRead (value_at l.limit) l.count l.counter l.bytes l.rest (string_bytes l.fn.text) (string_bytes l.text) l.comma

abbrev pub invariant-push_fields-fields : goal.invariant-push_fields-fields
invariant-push_fields-fields l = FieldsRead (value_at l.limit) l.count l.counter (option_map (λ s. s.now) l.last) l.bytes l.rest (string_bytes l.fn.text) (string_bytes l.text) l.comma
