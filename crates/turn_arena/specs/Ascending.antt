-- Names that ascend strictly by their bytes.
use Rattle.std.specs.Prelude.{List, map}
use Rattle.std.specs.Cmp.Lexicographic.{slice_cmp}
use Rattle.std.specs.Ordering.{nat_cmp}
use Rattle.std.specs.List.Sorted.{IsStrictlySortedBy}
use Rattle.request_codec.specs.Spelling.{IsBelowFirst}
use Rattle.request_codec.specs.Tree as tree
use Rattle.request_codec.specs.Tree.{Tree, Members, no_members, member, Fields, no_fields, field}
use Rattle.turn_arena.specs.declared.node.Field.{Field}

-- the names of these fields ascend
abbrev pub NamesAscend : List Field → Type 0
NamesAscend fs = IsStrictlySortedBy (slice_cmp nat_cmp) (map (λ f. f.name.now) fs)

-- the names of each map in the value ascend
abbrev mutual
  pub MapsAscend : Tree → Type 0
  MapsAscend tree.null = Unit {0}
  MapsAscend (tree.truth b) = Unit {0}
  MapsAscend (tree.integer i) = Unit {0}
  MapsAscend (tree.text s) = Unit {0}
  MapsAscend (tree.list vs) = MembersAscend vs
  MapsAscend (tree.map fs) = FieldsAscend fs
  MapsAscend (tree.bytes b) = Unit {0}

  pub MembersAscend : Members → Type 0
  MembersAscend no_members = Unit {0}
  MembersAscend (member v vs) = MapsAscend v × MembersAscend vs

  pub FieldsAscend : Fields → Type 0
  FieldsAscend no_fields = Unit {0}
  FieldsAscend (field n v fs) = MapsAscend v × IsBelowFirst n fs × FieldsAscend fs
