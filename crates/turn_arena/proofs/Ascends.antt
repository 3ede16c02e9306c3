-- The names of each map ascend in a value that bytes spell.
use Rattle.std.proofs.Common.{ℕ, List, [], ◌∷◌}
use Rattle.request_codec.specs.Tree as tree
use Rattle.request_codec.specs.Tree.{Tree, Members, no_members, member, Fields, no_fields, field, members_of}
use Rattle.request_codec.specs.Spelling.{Spells, SpellEach, SpellFields}
use Rattle.request_codec.specs.inside.Level.{AreKept}
use Rattle.turn_arena.specs.Ascending.{MapsAscend, MembersAscend, FieldsAscend}

mutual
  pub Spells-ascend : (v : Tree) (bytes : List ℕ) → Spells v bytes → MapsAscend v
  Spells-ascend tree.null bytes h = tt
  Spells-ascend (tree.truth b) bytes h = tt
  Spells-ascend (tree.integer i) bytes h = tt
  Spells-ascend (tree.text s) bytes h = tt
  Spells-ascend (tree.list vs) bytes (rest, few, each, is) = SpellEach-ascend vs rest each
  Spells-ascend (tree.map fs) bytes (rest, few, each, is) = SpellFields-ascend fs rest each
  Spells-ascend (tree.bytes b) bytes h = tt

  pub SpellEach-ascend : (vs : Members) (bytes : List ℕ) → SpellEach vs bytes → MembersAscend vs
  SpellEach-ascend no_members bytes h = tt
  SpellEach-ascend (member v vs) bytes (first, others, one, each, is) = (Spells-ascend v first one, SpellEach-ascend vs others each)

  pub SpellFields-ascend : (fs : Fields) (bytes : List ℕ) → SpellFields fs bytes → FieldsAscend fs
  SpellFields-ascend no_fields bytes h = tt
  SpellFields-ascend (field n v fs) bytes (name, first, others, named, one, each, below, is) = (Spells-ascend v first one, below, SpellFields-ascend fs others each)

-- the names of each member's maps ascend
pub members_kept : (vs : List Tree) → MembersAscend (members_of vs) → AreKept MapsAscend vs
members_kept [] h = tt
members_kept (v ∷ vs) h = (h.0, members_kept vs h.1)
