-- The start of a value: a whole one, or how many members follow.
use Rattle.std.specs.Prelude.{ℕ, zero, suc, true, false, List, [], ◌∷◌, length, Option, Some, None, nat_lt, if◌then◌else◌}
use Rattle.std.specs.Int.{w32, w64, cast_signed}
use Rattle.request_codec.specs.Tree.{Tree, null, truth, integer, text, list, map}
use Rattle.request_codec.specs.Tree as tree
use Rattle.request_codec.specs.Reading.{Parse, ◌>>=◌, number_at, bytes_at, text_at, members_at, fields_at}
use Rattle.request_codec.specs.declared.bytes.start.Start.{Start}
use Rattle.request_codec.specs.declared.bytes.start.Start.TheVariants as starts

pub data Begun : Type 0 where
  leaf : Tree → Begun
  list_of : ℕ → Begun
  map_of : ℕ → Begun

-- what a start stands for
abbrev pub begun : Start → Begun
begun starts.Null = leaf null
begun (starts.Bool b) = leaf (truth b)
begun (starts.Int i) = leaf (integer i)
begun (starts.Text s) = leaf (text s.now)
begun (starts.List n) = list_of n
begun (starts.Map n) = map_of n
begun (starts.Bytes b) = leaf (tree.bytes b.now)

-- a count of members, if as many bytes are left, since each member takes one at least
abbrev pub if_enough : ℕ → List ℕ → Option (ℕ × List ℕ)
if_enough n bytes = if nat_lt (length bytes) n then None else Some (n, bytes)

unfoldable pub count_at : Parse ℕ
count_at bytes = do
  n ← number_at w32 bytes
  if_enough n.0 n.1

unfoldable pub start_at : Parse Begun
start_at [] = None
start_at (zero ∷ rest) = Some (leaf null, rest)
start_at (suc zero ∷ rest) = Some (leaf (truth false), rest)
start_at (suc (suc zero) ∷ rest) = Some (leaf (truth true), rest)
start_at (suc (suc (suc zero)) ∷ rest) = do
  n ← number_at w64 rest
  Some (leaf (integer (cast_signed w64 n.0)), n.1)
start_at (suc (suc (suc (suc zero))) ∷ rest) = do
  s ← text_at rest
  Some (leaf (text s.0), s.1)
start_at (suc (suc (suc (suc (suc zero)))) ∷ rest) = do
  n ← count_at rest
  Some (list_of n.0, n.1)
start_at (suc (suc (suc (suc (suc (suc zero))))) ∷ rest) = do
  n ← count_at rest
  Some (map_of n.0, n.1)
start_at (suc (suc (suc (suc (suc (suc (suc zero)))))) ∷ rest) = do
  b ← bytes_at rest
  Some (leaf (tree.bytes b.0), b.1)
start_at (suc (suc (suc (suc (suc (suc (suc (suc b))))))) ∷ rest) = None

-- the value whose start was read; its members are read by `read`
unfoldable pub value_behind : Parse Tree → Begun → Parse Tree
value_behind read (leaf v) bytes = Some (v, bytes)
value_behind read (list_of n) bytes = do
  vs ← members_at read n bytes
  Some (list vs.0, vs.1)
value_behind read (map_of n) bytes = do
  fs ← fields_at read n None bytes
  Some (map fs.0, fs.1)
