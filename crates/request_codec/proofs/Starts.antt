-- A value is read by its start, whose count of members may be tested against the bytes that are left.
use Rattle.std.proofs.Common.{◌≡◌, ℕ, zero, suc, ◌+◌, ◌<◌, ◌≤◌, Bool, true, false, cond, ltb, List, [], ◌∷◌, length, take, drop, Option, Some, None, refl, arith}
use Rattle.std.specs.Prelude.{if◌then◌else◌}
use Rattle.std.specs.Int.{Width, w32, w64, byte_len, from_be_bytes}
use Rattle.std.proofs.lemmas.Bool.{ltb-true, ltb-false}
use Rattle.std.proofs.lemmas.List.{length-drop}
use Rattle.std.proofs.lemmas.Option.{some_pair_parts}
use Rattle.finite_maps.proofs.Options.{some_if_fails, some_if_passes}
use Rattle.request_codec.specs.Tree.{Tree, list, map, Members, Fields}
use Rattle.request_codec.specs.Reading.{Parse, ◌>>=◌, number_at, octets_at, bytes_at, text_at, members_at, fields_at, is_above, node_at, value_at}
use Rattle.request_codec.specs.Start.{Begun, leaf, list_of, map_of, if_enough, count_at, start_at, value_behind}
use Rattle.request_codec.proofs.Numbers.{bytes_of_text}
use Rattle.request_codec.proofs.Steps.{bound}

-- ---- what is read takes a byte at least

abbrev pub Shrinks : {A : Type 0} → Parse A → Type 0
Shrinks {A} read = (bytes : List ℕ) (x : A) (rest : List ℕ) → read bytes ≡ Some (x, rest) → length rest < length bytes

number_left : (w : Width) (bytes : List ℕ) (n : ℕ) (rest : List ℕ) → number_at w bytes ≡ Some (n, rest) → length rest + byte_len w ≡ length bytes
unfolding number_at
number_left w bytes n rest e =
    let g = some_if_fails (ltb (length bytes) (byte_len w)) (Some (from_be_bytes w (take (byte_len w) bytes), drop (byte_len w) bytes)) (n, rest) e in
    let long : byte_len w ≤ length bytes = ltb-false _ _ g.0 in
    let is = some_pair_parts _ _ _ _ g.1 in
    rw (← is.1) (omega (arith, length-drop (byte_len w) bytes))

octets_left : (k : ℕ) (bytes s rest : List ℕ) → octets_at k bytes ≡ Some (s, rest) → length rest ≤ length bytes
octets_left k bytes s rest e =
    let g = some_if_fails (ltb (length bytes) k) _ (s, rest) e in
    let is = some_pair_parts _ _ _ _ g.1 in
    rw (← is.1) (omega (arith, length-drop k bytes))

bytes_left : Shrinks bytes_at
unfolding bytes_at
bytes_left bytes s rest e =
    let b = bound (number_at w32 bytes) _ (s, rest) e in
    let n = number_left w32 bytes b.0.0 b.0.1 b.1 in
    let c = octets_left b.0.0 b.0.1 s rest b.2 in
    omega (arith, n, c)

text_left : Shrinks text_at
text_left bytes s rest e = bytes_left bytes s rest (bytes_of_text bytes s rest e).0

members_left : (read : Parse Tree) → Shrinks read → (n : ℕ) (bytes : List ℕ) (vs : Members) (rest : List ℕ) → members_at read n bytes ≡ Some (vs, rest) → length rest + n ≤ length bytes
unfolding members_at
members_left read shrinks zero bytes vs rest e =
    let is = some_pair_parts _ _ _ _ e in
    rw (← is.1) (omega arith)
members_left read shrinks (suc n) bytes vs rest e =
    let b = bound (read bytes) _ (vs, rest) e in
    let first = shrinks bytes b.0.0 b.0.1 b.1 in
    let c = bound (members_at read n b.0.1) _ (vs, rest) b.2 in
    let others = members_left read shrinks n b.0.1 c.0.0 c.0.1 c.1 in
    let is = some_pair_parts _ _ _ _ c.2 in
    rw (← is.1) (omega (arith, first, others))

fields_left : (read : Parse Tree) → Shrinks read → (n : ℕ) (last : Option (List ℕ)) (bytes : List ℕ) (fs : Fields) (rest : List ℕ) → fields_at read n last bytes ≡ Some (fs, rest) → length rest + n ≤ length bytes
unfolding fields_at
fields_left read shrinks zero last bytes fs rest e =
    let is = some_pair_parts _ _ _ _ e in
    rw (← is.1) (omega arith)
fields_left read shrinks (suc n) last bytes fs rest e =
    let a = bound (text_at bytes) _ (fs, rest) e in
    let name = text_left bytes a.0.0 a.0.1 a.1 in
    let b = bound (if is_above last a.0.0 then read a.0.1 else None) _ (fs, rest) a.2 in
    let above = some_if_passes (is_above last a.0.0) (read a.0.1) b.0 b.1 in
    let first = shrinks a.0.1 b.0.0 b.0.1 above.1 in
    let c = bound (fields_at read n (Some a.0.0) b.0.1) _ (fs, rest) b.2 in
    let others = fields_left read shrinks n (Some a.0.0) b.0.1 c.0.0 c.0.1 c.1 in
    let is = some_pair_parts _ _ _ _ c.2 in
    rw (← is.1) (omega (arith, name, first, others))

-- ---- too many members for the bytes that are left

members_short : (read : Parse Tree) → Shrinks read → (n : ℕ) (bytes : List ℕ) → length bytes < n → members_at read n bytes ≡ None
members_short read shrinks n bytes lt = decided (members_at read n bytes) refl where
  decided : (o : Option (Members × List ℕ)) → members_at read n bytes ≡ o → members_at read n bytes ≡ None
  decided None e = e
  decided (Some (vs, rest)) e = absurd (omega (arith, lt, members_left read shrinks n bytes vs rest e))

fields_short : (read : Parse Tree) → Shrinks read → (n : ℕ) (bytes : List ℕ) → length bytes < n → fields_at read n None bytes ≡ None
fields_short read shrinks n bytes lt = decided (fields_at read n None bytes) refl where
  decided : (o : Option (Fields × List ℕ)) → fields_at read n None bytes ≡ o → fields_at read n None bytes ≡ None
  decided None e = e
  decided (Some (fs, rest)) e = absurd (omega (arith, lt, fields_left read shrinks n None bytes fs rest e))

-- ---- a value by its start

abbrev behind : Parse Tree → Option (Begun × List ℕ) → Option (Tree × List ℕ)
behind read o = o >>= λ s. value_behind read s.0 s.1

abbrev listed : Option (ℕ × List ℕ) → Option (Begun × List ℕ)
listed o = o >>= λ m. Some (list_of m.0, m.1)

abbrev mapped : Option (ℕ × List ℕ) → Option (Begun × List ℕ)
mapped o = o >>= λ m. Some (map_of m.0, m.1)

list_tested : (read : Parse Tree) (n : ℕ) (bytes : List ℕ) (b : Bool) → (b ≡ true → members_at read n bytes ≡ None)
    → (members_at read n bytes >>= λ vs. Some (list vs.0, vs.1)) ≡ behind read (listed (cond b None (Some (n, bytes))))
unfolding value_behind
list_tested read n bytes true short = rw (short refl) refl
list_tested read n bytes false short = refl

map_tested : (read : Parse Tree) (n : ℕ) (bytes : List ℕ) (b : Bool) → (b ≡ true → fields_at read n None bytes ≡ None)
    → (fields_at read n None bytes >>= λ fs. Some (map fs.0, fs.1)) ≡ behind read (mapped (cond b None (Some (n, bytes))))
unfolding value_behind
map_tested read n bytes true short = rw (short refl) refl
map_tested read n bytes false short = refl

list_counted : (read : Parse Tree) → Shrinks read → (o : Option (ℕ × List ℕ))
    → (o >>= λ n. members_at read n.0 n.1 >>= λ vs. Some (list vs.0, vs.1)) ≡ behind read ((o >>= λ n. if_enough n.0 n.1) >>= λ m. Some (list_of m.0, m.1))
list_counted read shrinks None = refl
list_counted read shrinks (Some (n, bytes)) = list_tested read n bytes (ltb (length bytes) n) (λ e. members_short read shrinks n bytes (ltb-true _ _ e))

map_counted : (read : Parse Tree) → Shrinks read → (o : Option (ℕ × List ℕ))
    → (o >>= λ n. fields_at read n.0 None n.1 >>= λ fs. Some (map fs.0, fs.1)) ≡ behind read ((o >>= λ n. if_enough n.0 n.1) >>= λ m. Some (map_of m.0, m.1))
map_counted read shrinks None = refl
map_counted read shrinks (Some (n, bytes)) = map_tested read n bytes (ltb (length bytes) n) (λ e. fields_short read shrinks n bytes (ltb-true _ _ e))

whole_behind : {A : Type 0} (read : Parse Tree) (o : Option (A × List ℕ)) (f : A → Tree)
    → (o >>= λ n. Some (f n.0, n.1)) ≡ behind read (o >>= λ n. Some (leaf (f n.0), n.1))
unfolding value_behind
whole_behind read None f = refl
whole_behind read (Some x) f = refl

node-by_start : (read : Parse Tree) → Shrinks read → (b : ℕ) (rest : List ℕ) → node_at read b rest ≡ behind read (start_at (b ∷ rest))
unfolding node_at start_at value_behind count_at
node-by_start read shrinks zero rest = refl
node-by_start read shrinks (suc zero) rest = refl
node-by_start read shrinks (suc (suc zero)) rest = refl
node-by_start read shrinks (suc (suc (suc zero))) rest = whole_behind read (number_at w64 rest) _
node-by_start read shrinks (suc (suc (suc (suc zero)))) rest = whole_behind read (text_at rest) _
node-by_start read shrinks (suc (suc (suc (suc (suc zero))))) rest = list_counted read shrinks (number_at w32 rest)
node-by_start read shrinks (suc (suc (suc (suc (suc (suc zero)))))) rest = map_counted read shrinks (number_at w32 rest)
node-by_start read shrinks (suc (suc (suc (suc (suc (suc (suc zero))))))) rest = whole_behind read (bytes_at rest) _
node-by_start read shrinks (suc (suc (suc (suc (suc (suc (suc (suc b)))))))) rest = refl

-- ---- reading a value takes a byte at least

node_left : (read : Parse Tree) → Shrinks read → (b : ℕ) (bytes : List ℕ) (v : Tree) (rest : List ℕ) → node_at read b bytes ≡ Some (v, rest) → length rest ≤ length bytes
unfolding node_at
node_left read shrinks zero bytes v rest e =
    let is = some_pair_parts _ _ _ _ e in
    rw (← is.1) (omega arith)
node_left read shrinks (suc zero) bytes v rest e =
    let is = some_pair_parts _ _ _ _ e in
    rw (← is.1) (omega arith)
node_left read shrinks (suc (suc zero)) bytes v rest e =
    let is = some_pair_parts _ _ _ _ e in
    rw (← is.1) (omega arith)
node_left read shrinks (suc (suc (suc zero))) bytes v rest e =
    let b = bound (number_at w64 bytes) _ (v, rest) e in
    let is = some_pair_parts _ _ _ _ b.2 in
    let left = number_left w64 bytes b.0.0 b.0.1 b.1 in
    rw (← is.1) (omega (arith, left))
node_left read shrinks (suc (suc (suc (suc zero)))) bytes v rest e =
    let b = bound (text_at bytes) _ (v, rest) e in
    let is = some_pair_parts _ _ _ _ b.2 in
    let left = text_left bytes b.0.0 b.0.1 b.1 in
    rw (← is.1) (omega (arith, left))
node_left read shrinks (suc (suc (suc (suc (suc zero))))) bytes v rest e =
    let b = bound (number_at w32 bytes) _ (v, rest) e in
    let first = number_left w32 bytes b.0.0 b.0.1 b.1 in
    let c = bound (members_at read b.0.0 b.0.1) _ (v, rest) b.2 in
    let left = members_left read shrinks b.0.0 b.0.1 c.0.0 c.0.1 c.1 in
    let is = some_pair_parts _ _ _ _ c.2 in
    rw (← is.1) (omega (arith, first, left))
node_left read shrinks (suc (suc (suc (suc (suc (suc zero)))))) bytes v rest e =
    let b = bound (number_at w32 bytes) _ (v, rest) e in
    let first = number_left w32 bytes b.0.0 b.0.1 b.1 in
    let c = bound (fields_at read b.0.0 None b.0.1) _ (v, rest) b.2 in
    let left = fields_left read shrinks b.0.0 None b.0.1 c.0.0 c.0.1 c.1 in
    let is = some_pair_parts _ _ _ _ c.2 in
    rw (← is.1) (omega (arith, first, left))
node_left read shrinks (suc (suc (suc (suc (suc (suc (suc zero))))))) bytes v rest e =
    let b = bound (bytes_at bytes) _ (v, rest) e in
    let is = some_pair_parts _ _ _ _ b.2 in
    let left = bytes_left bytes b.0.0 b.0.1 b.1 in
    rw (← is.1) (omega (arith, left))
node_left read shrinks (suc (suc (suc (suc (suc (suc (suc (suc b)))))))) bytes v rest e = absurd cc

pub value_left : (d : ℕ) → Shrinks (value_at d)
unfolding value_at
value_left zero bytes v rest e = absurd cc
value_left (suc d) [] v rest e = absurd cc
value_left (suc d) (b ∷ bytes) v rest e =
    let left = node_left (value_at d) (value_left d) b bytes v rest e in
    omega (arith, left)

pub value_at-by_start : (d : ℕ) (bytes : List ℕ) → value_at (suc d) bytes ≡ behind (value_at d) (start_at bytes)
unfolding value_at start_at
value_at-by_start d [] = refl
value_at-by_start d (b ∷ rest) = node-by_start (value_at d) (value_left d) b rest
