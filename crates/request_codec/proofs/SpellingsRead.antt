-- What spells a value is read as that value, whatever follows it.
use Rattle.std.proofs.Common.{◌≡◌, ℕ, zero, suc, ◌^◌, ◌<◌, ◌≤◌, Bool, true, false, List, ◌∷◌, ◌++◌, length, Option, Some, None, refl, append_assoc, arith}
use Rattle.std.specs.Prelude.{ℤ, pos, negsuc, FitsSigned}
use Rattle.std.specs.Int.{w32, w64, to_be_bytes, cast_signed, cast_unsigned}
use Rattle.std.proofs.Math.Nat.{le-max_left, le-max_right}
use Rattle.std.proofs.lemmas.Int.{to_z-of_z}
use Rattle.request_codec.specs.Tree as tree
use Rattle.request_codec.specs.Tree.{Tree, null, truth, integer, text, list, map, Members, no_members, member, Fields, no_fields, field, members_count, fields_count, depth, members_depth, fields_depth}
use Rattle.request_codec.specs.Spelling.{Spells, SpellEach, SpellFields, IsBelowFirst}
use Rattle.request_codec.specs.Reading.{Parse, number_at, bytes_at, members_at, is_above, fields_at, node_at, value_at}
use Rattle.request_codec.proofs.Numbers.{wide32, wide64, number_again, bytes_again, text_again}

pub depth_positive : (v : Tree) → 1 ≤ depth v
depth_positive null = omega arith
depth_positive (truth b) = omega arith
depth_positive (integer i) = omega arith
depth_positive (text s) = omega arith
depth_positive (list vs) = omega arith
depth_positive (map fs) = omega arith
depth_positive (tree.bytes b) = omega arith

-- the names of the fields are above the last one
abbrev pub AreAbove : Option (List ℕ) → Fields → Type 0
AreAbove last no_fields = Unit {0}
AreAbove last (field n v fs) = is_above last n ≡ true

above_first : (n : List ℕ) (fs : Fields) → IsBelowFirst n fs → AreAbove (Some n) fs
above_first n no_fields h = tt
above_first n (field m v fs) h = h

above_none : (fs : Fields) → AreAbove None fs
above_none no_fields = tt
above_none (field n v fs) = refl

cast_unsigned_below : (i : ℤ) → FitsSigned w64 i → cast_unsigned w64 i < 2 ^ 64
cast_unsigned_below (pos n) h = omega (arith, h)
cast_unsigned_below (negsuc n) h = omega (arith, h)

cast_signed_again : (i : ℤ) → FitsSigned w64 i → cast_signed w64 (cast_unsigned w64 i) ≡ i
cast_signed_again i h = to_z-of_z w64 i h

-- at each form of value: what is read is that value, if what its members spell is read as them
null_again : (d : ℕ) (a x : List ℕ) → Spells null a → value_at (suc d) (a ++ x) ≡ Some (null, x)
unfolding value_at node_at
null_again d a x h = rw h refl

truth_again : (b : Bool) (d : ℕ) (a x : List ℕ) → Spells (truth b) a → value_at (suc d) (a ++ x) ≡ Some (truth b, x)
unfolding value_at node_at
truth_again false d a x h = rw h refl
truth_again true d a x h = rw h refl

integer_again : (i : ℤ) (d : ℕ) (a x : List ℕ) → Spells (integer i) a → value_at (suc d) (a ++ x) ≡ Some (integer i, x)
unfolding value_at node_at
integer_again i d a x h = rw (h.1, number_again w64 (2 ^ 64) wide64 (cast_unsigned w64 i) x (cast_unsigned_below i h.0), cast_signed_again i h.0) refl

text_value_again : (s : List ℕ) (d : ℕ) (a x : List ℕ) → Spells (text s) a → value_at (suc d) (a ++ x) ≡ Some (text s, x)
unfolding value_at node_at
text_value_again s d a x h = rw (h.2, text_again s h.0 x h.1) refl

bytes_value : (b rest : List ℕ) (d : ℕ) (x : List ℕ) → bytes_at (rest ++ x) ≡ Some (b, x) → value_at (suc d) ((7 ∷ rest) ++ x) ≡ Some (tree.bytes b, x)
unfolding value_at node_at
bytes_value b rest d x e = rw e refl

bytes_value_again : (b : List ℕ) (d : ℕ) (a x : List ℕ) → Spells (tree.bytes b) a → value_at (suc d) (a ++ x) ≡ Some (tree.bytes b, x)
bytes_value_again b d a x h = rw h.2 (bytes_value b (to_be_bytes w32 (length b) ++ b) d x (bytes_again b x h.0))

list_behind : (vs : Members) (d : ℕ) (front rest x : List ℕ) → number_at w32 (front ++ (rest ++ x)) ≡ Some (members_count vs, rest ++ x) → members_at (value_at d) (members_count vs) (rest ++ x) ≡ Some (vs, x) → value_at (suc d) ((5 ∷ (front ++ rest)) ++ x) ≡ Some (list vs, x)
unfolding value_at node_at
list_behind vs d front rest x count members = rw (append_assoc front rest x, count, members) refl

list_again : (vs : Members) (d : ℕ) (a x : List ℕ) (h : Spells (list vs) a) → members_at (value_at d) (members_count vs) (h.0 ++ x) ≡ Some (vs, x) → value_at (suc d) (a ++ x) ≡ Some (list vs, x)
list_again vs d a x h members = rw h.3 (list_behind vs d (to_be_bytes w32 (members_count vs)) h.0 x (number_again w32 (2 ^ 32) wide32 (members_count vs) (h.0 ++ x) h.1) members)

map_behind : (fs : Fields) (d : ℕ) (front rest x : List ℕ) → number_at w32 (front ++ (rest ++ x)) ≡ Some (fields_count fs, rest ++ x) → fields_at (value_at d) (fields_count fs) None (rest ++ x) ≡ Some (fs, x) → value_at (suc d) ((6 ∷ (front ++ rest)) ++ x) ≡ Some (map fs, x)
unfolding value_at node_at
map_behind fs d front rest x count members = rw (append_assoc front rest x, count, members) refl

map_again : (fs : Fields) (d : ℕ) (a x : List ℕ) (h : Spells (map fs) a) → fields_at (value_at d) (fields_count fs) None (h.0 ++ x) ≡ Some (fs, x) → value_at (suc d) (a ++ x) ≡ Some (map fs, x)
map_again fs d a x h members = rw h.3 (map_behind fs d (to_be_bytes w32 (fields_count fs)) h.0 x (number_again w32 (2 ^ 32) wide32 (fields_count fs) (h.0 ++ x) h.1) members)

none_again : (read : Parse Tree) (a x : List ℕ) → SpellEach no_members a → members_at read 0 (a ++ x) ≡ Some (no_members, x)
unfolding members_at
none_again read a x h = rw h refl

one_more_again : (v : Tree) (vs : Members) (read : Parse Tree) (a x : List ℕ) (h : SpellEach (member v vs) a) → read (h.0 ++ (h.1 ++ x)) ≡ Some (v, h.1 ++ x) → members_at read (members_count vs) (h.1 ++ x) ≡ Some (vs, x) → members_at read (suc (members_count vs)) (a ++ x) ≡ Some (member v vs, x)
unfolding members_at
one_more_again v vs read a x h first others = rw (h.4, append_assoc h.0 h.1 x, first, others) refl

no_fields_again : (read : Parse Tree) (last : Option (List ℕ)) (a x : List ℕ) → SpellFields no_fields a → fields_at read 0 last (a ++ x) ≡ Some (no_fields, x)
unfolding fields_at
no_fields_again read last a x h = rw h refl

one_field_again : (n : List ℕ) (v : Tree) (fs : Fields) (read : Parse Tree) (last : Option (List ℕ)) (a x : List ℕ) (h : SpellFields (field n v fs) a) → is_above last n ≡ true → read (h.1 ++ (h.2 ++ x)) ≡ Some (v, h.2 ++ x) → fields_at read (fields_count fs) (Some n) (h.2 ++ x) ≡ Some (fs, x) → fields_at read (suc (fields_count fs)) last (a ++ x) ≡ Some (field n v fs, x)
unfolding fields_at
one_field_again n v fs read last a x h above first others = rw (h.7, append_assoc (h.0 ++ h.1) h.2 x, append_assoc h.0 h.1 (h.2 ++ x), text_again n h.0 (h.1 ++ (h.2 ++ x)) h.3, above, first, others) refl

mutual
  pub value_again : (v : Tree) (d : ℕ) (a x : List ℕ) → Spells v a → depth v ≤ suc d → value_at (suc d) (a ++ x) ≡ Some (v, x)
  value_again null d a x h le = null_again d a x h
  value_again (truth b) d a x h le = truth_again b d a x h
  value_again (integer i) d a x h le = integer_again i d a x h
  value_again (text s) d a x h le = text_value_again s d a x h
  value_again (list vs) d a x h le = list_again vs d a x h (members_again vs d h.0 x h.2 (omega (arith, le)))
  value_again (map fs) d a x h le = map_again fs d a x h (fields_again fs d None h.0 x h.2 (above_none fs) (omega (arith, le)))
  value_again (tree.bytes b) d a x h le = bytes_value_again b d a x h

  pub members_again : (vs : Members) (d : ℕ) (a x : List ℕ) → SpellEach vs a → members_depth vs ≤ d → members_at (value_at d) (members_count vs) (a ++ x) ≡ Some (vs, x)
  members_again no_members d a x h le = none_again (value_at d) a x h
  members_again (member v vs) zero a x h le = absurd (omega (arith, depth_positive v, le-max_left (depth v) (members_depth vs)))
  members_again (member v vs) (suc d) a x h le = one_more_again v vs (value_at (suc d)) a x h (value_again v d h.0 (h.1 ++ x) h.2 (omega (arith, le-max_left (depth v) (members_depth vs)))) (members_again vs (suc d) h.1 x h.3 (omega (arith, le-max_right (depth v) (members_depth vs))))

  pub fields_again : (fs : Fields) (d : ℕ) (last : Option (List ℕ)) (a x : List ℕ) → SpellFields fs a → AreAbove last fs → fields_depth fs ≤ d → fields_at (value_at d) (fields_count fs) last (a ++ x) ≡ Some (fs, x)
  fields_again no_fields d last a x h above le = no_fields_again (value_at d) last a x h
  fields_again (field n v fs) zero last a x h above le = absurd (omega (arith, depth_positive v, le-max_left (depth v) (fields_depth fs)))
  fields_again (field n v fs) (suc d) last a x h above le = one_field_again n v fs (value_at (suc d)) last a x h above (value_again v d h.1 (h.2 ++ x) h.4 (omega (arith, le-max_left (depth v) (fields_depth fs)))) (fields_again fs (suc d) (Some n) h.2 x h.5 (above_first n fs h.6) (omega (arith, le-max_right (depth v) (fields_depth fs))))
