use Rattle.std.proofs.Common.{◌+◌, ◌*◌, Bool, length}
use Rattle.request_codec.specs.Tree.{members_of, fields_of}
use Rattle.request_codec.specs.Formed.{TestDepths, TestFieldDepths}
use Rattle.request_codec.specs.inside.Level.{AreKept}
use Rattle.request_codec.proofs.depth.+depth.Given as goal

abbrev pub decreases-is_within : goal.decreases-is_within
decreases-is_within g l = 2 * l.limit

abbrev pub decreases-are_within : goal.decreases-are_within
decreases-are_within g l = 2 * l.limit + 1

abbrev pub decreases-fields_within : goal.decreases-fields_within
decreases-fields_within g l = 2 * l.limit + 1

abbrev pub decreases-are_within-items : goal.decreases-are_within-items
decreases-are_within-items g l = length (g.V.Shown.listed l.items)

abbrev pub decreases-fields_within-fields : goal.decreases-fields_within-fields
decreases-fields_within-fields g l = length (g.V.Shown.named l.fields)

abbrev pub invariant-are_within-items : goal.invariant-are_within-items
invariant-are_within-items g l =
    record {
      kept : AreKept g.V.Shown.kept (g.V.Shown.listed l.items);
      so_far : (b : Bool) → TestDepths b l.limit (members_of (g.V.Shown.listed l.items)) → TestDepths b l.limit (members_of (g.V.Shown.listed l.initial.items));
    }

abbrev pub invariant-fields_within-fields : goal.invariant-fields_within-fields
invariant-fields_within-fields g l =
    record {
      ascending : g.V.Shown.ascend l.fields;
      so_far : (b : Bool) → TestFieldDepths b l.limit (fields_of (g.V.Shown.named l.fields)) → TestFieldDepths b l.limit (fields_of (g.V.Shown.named l.initial.fields));
    }
