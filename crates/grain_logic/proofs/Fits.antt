-- What keeps the limits of a state and of a message: what bytes spell, and what is written.
use Rattle.std.proofs.Common.{◌≡◌, ℕ, ◌≤◌, List, length, ap, ◌∙◌, subst, arith}
use Rattle.request_codec.specs.Answers.{message_length}
use Rattle.request_codec.specs.Call.{asks}
use Rattle.request_codec.specs.Formed.{IsFormed, AreFormed, FieldsFormed}
use Rattle.request_codec.specs.Limits.{message_limit}
use Rattle.request_codec.specs.Spelling.{SpellsMessage, SpellsState}
use Rattle.request_codec.specs.Tree as tree
use Rattle.request_codec.specs.Tree.{Tree, Members, no_members, member, Fields, no_fields, field}
use Rattle.request_codec.proofs.Spelled.{formed_of, length-spelled, length-message, message_spelling-is}
use Rattle.turn_arena.specs.Ascending.{MapsAscend, MembersAscend, FieldsAscend}
use Rattle.grain_logic.specs.Laws.{FitsState, FitsMessage}

pub state_fits : (v : Tree) (bytes : List ℕ) → SpellsState v bytes → FitsState v
state_fits v bytes is = record {
  formed = formed_of v bytes is.value_spelled;
  depth_within = is.depth_within;
  length_within = omega (arith, length-spelled v bytes is.value_spelled, is.length_within);
}

pub message_fits : (method : List ℕ) (v : Tree) (bytes : List ℕ) → SpellsMessage method v bytes → FitsMessage (asks method v)
message_fits method v bytes is =
    let long : length bytes ≡ message_length method v = ap length (message_spelling-is (asks method v) bytes is) ∙ length-message method v in
    record {
      method_formed = is.method_spelled.1;
      argument_formed = formed_of v is.rest is.value_spelled;
      depth_within = is.depth_within;
      length_within = subst (λ (n : ℕ). n ≤ message_limit) long is.length_within;
    }

mutual
  pub formed_ascends : (v : Tree) → IsFormed v → MapsAscend v
  formed_ascends tree.null h = tt
  formed_ascends (tree.truth b) h = tt
  formed_ascends (tree.integer i) h = tt
  formed_ascends (tree.text s) h = tt
  formed_ascends (tree.list vs) h = members_ascend vs h
  formed_ascends (tree.map fs) h = fields_ascend fs h
  formed_ascends (tree.bytes b) h = tt

  pub members_ascend : (vs : Members) → AreFormed vs → MembersAscend vs
  members_ascend no_members h = tt
  members_ascend (member v vs) h = (formed_ascends v h.0, members_ascend vs h.1)

  pub fields_ascend : (fs : Fields) → FieldsFormed fs → FieldsAscend fs
  fields_ascend no_fields h = tt
  fields_ascend (field n v fs) h = (formed_ascends v h.1, h.2, fields_ascend fs h.3)
