use Rattle.std.proofs.Common.{◌≡◌, ◌+◌, ◌*◌, ◌≤◌, length}
use Rattle.line_parser.proofs.ItemsRead.{ItemsRead}
use Rattle.line_parser.proofs.FieldsRead.{FieldsRead}
use Rattle.line_parser.proofs.argument.+argument.Given as goal

abbrev pub decreases-put_value : goal.decreases-put_value
decreases-put_value l = 2 * l.depth

abbrev pub decreases-put_items : goal.decreases-put_items
decreases-put_items l = 2 * l.depth + 1

abbrev pub decreases-put_fields : goal.decreases-put_fields
decreases-put_fields l = 2 * l.depth + 1

abbrev pub invariant-put_items-items : goal.invariant-put_items-items
invariant-put_items-items l = record {
  so_far : ItemsRead l.depth l.fn.reader l.reader l.fn.out.items l.out.items l.count l.fn.faults l.faults;
  within : length l.out.items ≤ l.limit;
  place : l.at ≡ length l.fn.out.items + 1;
  depth : l.depth ≡ l.fn.depth;
}

abbrev pub decreases-put_items-items : goal.decreases-put_items-items
decreases-put_items-items l = length l.reader

abbrev pub invariant-put_fields-fields : goal.invariant-put_fields-fields
invariant-put_fields-fields l = record {
  so_far : FieldsRead l.depth l.fn.reader l.reader l.fn.out.items l.out.items l.fields l.fn.faults l.faults;
  within : length l.out.items ≤ l.limit;
  place : l.start ≡ length l.fn.out.items + 5;
  depth : l.depth ≡ l.fn.depth;
}

abbrev pub decreases-put_fields-fields : goal.decreases-put_fields-fields
decreases-put_fields-fields l = length l.reader
