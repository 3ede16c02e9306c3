-- Reading a value from the front of some bytes: the value and the bytes after it, or nothing.
use Rattle.std.specs.Prelude.{ℕ, zero, suc, Bool, true, false, List, [], ◌∷◌, length, take, drop, Option, Some, None, nat_lt, if◌then◌else◌}
use Rattle.std.specs.Int.{Width, w32, w64, byte_len, from_be_bytes, cast_signed}
use Rattle.std.specs.Str.{is_utf8}
use Rattle.std.specs.Cmp.Lexicographic.{slice_cmp}
use Rattle.std.specs.Ordering.{nat_cmp, is_lt}
use Rattle.request_codec.specs.Tree.{Tree, null, truth, integer, text, list, map, Members, no_members, member, Fields, no_fields, field}
use Rattle.request_codec.specs.Tree as tree

abbrev pub Parse : Type 0 → Type 0
Parse A = List ℕ → Option (A × List ℕ)

infixl 10 ◌>>=◌
abbrev pub ◌>>=◌ : {A B : Type 0} → Option A → (A → Option B) → Option B
(Some x) >>= f = f x
None >>= f = None

unfoldable pub number_at : Width → Parse ℕ
number_at w bytes = if nat_lt (length bytes) (byte_len w) then None
    else Some (from_be_bytes w (take (byte_len w) bytes), drop (byte_len w) bytes)

-- that many bytes
abbrev pub octets_at : ℕ → Parse (List ℕ)
octets_at n bytes = if nat_lt (length bytes) n then None else Some (take n bytes, drop n bytes)

-- bytes behind their count
unfoldable pub bytes_at : Parse (List ℕ)
bytes_at bytes = do
  n ← number_at w32 bytes
  octets_at n.0 n.1

-- bytes behind their count, which have to be UTF-8
unfoldable pub text_at : Parse (List ℕ)
text_at bytes = do
  found ← bytes_at bytes
  if is_utf8 found.0 then Some found else None

-- that many values, one after another
unfoldable pub members_at : Parse Tree → ℕ → Parse Members
members_at read zero bytes = Some (no_members, bytes)
members_at read (suc n) bytes = do
  first ← read bytes
  others ← members_at read n first.1
  Some (member first.0 others.0, others.1)

-- the name is above the last one, where there is one
abbrev pub is_above : Option (List ℕ) → List ℕ → Bool
is_above None name = true
is_above (Some last) name = is_lt (slice_cmp nat_cmp last name)

-- that many fields, with names above the last one and ascending
unfoldable pub fields_at : Parse Tree → ℕ → Option (List ℕ) → Parse Fields
fields_at read zero last bytes = Some (no_fields, bytes)
fields_at read (suc n) last bytes = do
  name ← text_at bytes
  first ← (if is_above last name.0 then read name.1 else None)
  others ← fields_at read n (Some name.0) first.1
  Some (field name.0 first.0 others.0, others.1)

-- by the first byte; members are read by `read`
unfoldable pub node_at : Parse Tree → ℕ → Parse Tree
node_at read zero rest = Some (null, rest)
node_at read (suc zero) rest = Some (truth false, rest)
node_at read (suc (suc zero)) rest = Some (truth true, rest)
node_at read (suc (suc (suc zero))) rest = do
  n ← number_at w64 rest
  Some (integer (cast_signed w64 n.0), n.1)
node_at read (suc (suc (suc (suc zero)))) rest = do
  s ← text_at rest
  Some (text s.0, s.1)
node_at read (suc (suc (suc (suc (suc zero))))) rest = do
  n ← number_at w32 rest
  vs ← members_at read n.0 n.1
  Some (list vs.0, vs.1)
node_at read (suc (suc (suc (suc (suc (suc zero)))))) rest = do
  n ← number_at w32 rest
  fs ← fields_at read n.0 None n.1
  Some (map fs.0, fs.1)
node_at read (suc (suc (suc (suc (suc (suc (suc zero))))))) rest = do
  b ← bytes_at rest
  Some (tree.bytes b.0, b.1)
node_at read (suc (suc (suc (suc (suc (suc (suc (suc b)))))))) rest = None

-- one value, no deeper than the number
unfoldable pub value_at : ℕ → Parse Tree
unfolding node_at
value_at zero bytes = None
value_at (suc d) [] = None
value_at (suc d) (b ∷ rest) = node_at (value_at d) b rest

abbrev pub if_ended : {A : Type 0} → Option (A × List ℕ) → Option A
if_ended None = None
if_ended (Some (x, [])) = Some x
if_ended (Some (x, b ∷ rest)) = None
