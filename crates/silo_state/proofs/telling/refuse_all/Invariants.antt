use Rattle.std.proofs.Common.{◌≡◌, ◌+◌, ◌≤◌, ◌++◌, length, vec_len, vec_capacity}
use Rattle.std.specs.Prelude.{flat_map}
use Rattle.silo_state.specs.Reads.{refused}
use Rattle.silo_state.proofs.telling.refuse_all.Given as goal

-- the replies so far and those that are left are all
abbrev pub invariant-loop-request : goal.invariant-loop-request
invariant-loop-request l = record {
  room : length l.waiting.items + vec_len l.replies ≤ vec_capacity l.replies;
  all : l.replies.items ++ flat_map refused l.waiting.items ≡ l.fn.replies.items ++ flat_map refused l.fn.waiting.items;
}

abbrev pub decreases-loop-request : goal.decreases-loop-request
decreases-loop-request l = length l.waiting.items
