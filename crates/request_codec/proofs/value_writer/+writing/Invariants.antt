use Rattle.std.proofs.Common.{◌≡◌, ◌≤◌, ◌++◌, suc, length}
use Rattle.request_codec.specs.Tree.{members_of, fields_of}
use Rattle.request_codec.specs.Answers.{spelled_length, members_length, fields_length}
use Rattle.request_codec.proofs.Parts.{members_left, fields_left}
use Rattle.request_codec.proofs.value_writer.+writing.Given as goal

abbrev pub decreases-put_value : goal.decreases-put_value
decreases-put_value g l = spelled_length (g.V.Shown.value l.value)

abbrev pub decreases-put_items : goal.decreases-put_items
decreases-put_items g l = suc (members_length (members_of (g.V.Shown.listed l.items)))

abbrev pub decreases-put_fields : goal.decreases-put_fields
decreases-put_fields g l = suc (fields_length (fields_of (g.V.Shown.named l.fields)))

abbrev pub decreases-put_items-items : goal.decreases-put_items-items
decreases-put_items-items g l = length (g.V.Shown.listed l.items)

abbrev pub decreases-put_fields-fields : goal.decreases-put_fields-fields
decreases-put_fields-fields g l = length (g.V.Shown.named l.fields)

abbrev pub invariant-put_items-items : goal.invariant-put_items-items
invariant-put_items-items g l =
    record {
      within : length l.out.items ≤ l.limit;
      fewer : members_length (members_of (g.V.Shown.listed l.items)) ≤ members_length (members_of (g.V.Shown.listed l.initial.items));
      whole : l.out.items ++ members_left (g.V.Shown.listed l.items) ≡ l.initial.out.items ++ members_left (g.V.Shown.listed l.initial.items);
    }

abbrev pub invariant-put_fields-fields : goal.invariant-put_fields-fields
invariant-put_fields-fields g l =
    record {
      within : length l.out.items ≤ l.limit;
      fewer : fields_length (fields_of (g.V.Shown.named l.fields)) ≤ fields_length (fields_of (g.V.Shown.named l.initial.fields));
      whole : l.out.items ++ fields_left (g.V.Shown.named l.fields) ≡ l.initial.out.items ++ fields_left (g.V.Shown.named l.initial.fields);
    }
