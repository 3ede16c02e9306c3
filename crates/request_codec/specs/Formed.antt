-- Which values a spelling is there for.
use Rattle.std.specs.Prelude.{ℕ, ◌<◌, ◌≤◌, ◌^◌, Bool, true, false, length, FitsSigned, IsUtf8}
use Rattle.std.specs.Int.{w64}
use Rattle.request_codec.specs.Tree.{Tree, null, truth, integer, text, list, map, Members, no_members, member, Fields, no_fields, field}
use Rattle.request_codec.specs.Tree.{members_count, fields_count, depth, members_depth, fields_depth}
use Rattle.request_codec.specs.Tree as tree
use Rattle.hex.specs.Hex.{IsBytes}
use Rattle.request_codec.specs.Spelling.{IsBelowFirst}

-- each number is one of i64, each text and name is UTF-8, each byte is from 0 to 255, and names ascend
abbrev mutual
  pub IsFormed : Tree → Type 0
  IsFormed null = Unit {0}
  IsFormed (truth b) = Unit {0}
  IsFormed (integer i) = FitsSigned w64 i
  IsFormed (text s) = IsUtf8 s
  IsFormed (list vs) = AreFormed vs
  IsFormed (map fs) = FieldsFormed fs
  IsFormed (tree.bytes b) = IsBytes b

  pub AreFormed : Members → Type 0
  AreFormed no_members = Unit {0}
  AreFormed (member v vs) = IsFormed v × AreFormed vs

  pub FieldsFormed : Fields → Type 0
  FieldsFormed no_fields = Unit {0}
  FieldsFormed (field n v fs) = IsUtf8 n × IsFormed v × IsBelowFirst n fs × FieldsFormed fs

-- each text, each name and all bytes are shorter than 2^32 bytes, and each count fits a u32
abbrev mutual
  pub IsSized : Tree → Type 0
  IsSized null = Unit {0}
  IsSized (truth b) = Unit {0}
  IsSized (integer i) = Unit {0}
  IsSized (text s) = length s < 2 ^ 32
  IsSized (list vs) = (members_count vs < 2 ^ 32) × AreSized vs
  IsSized (map fs) = (fields_count fs < 2 ^ 32) × FieldsSized fs
  IsSized (tree.bytes b) = length b < 2 ^ 32

  pub AreSized : Members → Type 0
  AreSized no_members = Unit {0}
  AreSized (member v vs) = IsSized v × AreSized vs

  pub FieldsSized : Fields → Type 0
  FieldsSized no_fields = Unit {0}
  FieldsSized (field n v fs) = (length n < 2 ^ 32) × IsSized v × FieldsSized fs

-- The answer of a test for depth, which finds each value that it lets through well formed.
abbrev pub TestsDepth : Bool → ℕ → Tree → Type 0
TestsDepth true limit v = (depth v ≤ limit) × IsFormed v
TestsDepth false limit v = limit < depth v

abbrev pub TestDepths : Bool → ℕ → Members → Type 0
TestDepths true limit vs = (members_depth vs ≤ limit) × AreFormed vs
TestDepths false limit vs = limit < members_depth vs

abbrev pub TestFieldDepths : Bool → ℕ → Fields → Type 0
TestFieldDepths true limit fs = (fields_depth fs ≤ limit) × FieldsFormed fs
TestFieldDepths false limit fs = limit < fields_depth fs
