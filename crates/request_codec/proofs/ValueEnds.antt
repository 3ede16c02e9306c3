-- The end of a value is found level by level and member by member.
use Rattle.std.proofs.Common.{◌≡◌, ℕ, suc, ◌+◌, ◌-◌, ◌<◌, ◌≤◌, ◌≢◌, true, false, List, Option, Some, None, refl, sym, ap, ◌∙◌, arith}
use Rattle.request_codec.specs.Tree.{Tree, list, map, member, field}
use Rattle.request_codec.specs.Reading.{Parse, ◌>>=◌, text_at, members_at, fields_at, is_above, value_at}
use Rattle.request_codec.specs.Start.{leaf, list_of, map_of, start_at, value_behind}
use Rattle.request_codec.specs.inside.Ends.{end_of}
use Rattle.request_codec.proofs.Levels.{value_at-leaf, value_at-started}

-- what was read, where something is left behind it
found_end : {A : Type 0} (o : Option (A × List ℕ)) (r : List ℕ) → Some r ≡ end_of o → (x : A) × (o ≡ Some (x, r))
found_end None r e = absurd cc
found_end (Some (x, s)) r e = (x, let same : s ≡ r = cc in ap (λ (t : List ℕ). Some (x, t)) same)

no_end : {A : Type 0} (o : Option (A × List ℕ)) → None ≡ end_of o → o ≡ None
no_end None e = refl
no_end (Some x) e = absurd cc

-- a part more of what was read changes nothing of its end
end_of-more : {A B : Type 0} (o : Option (A × List ℕ)) (f : A → B) → end_of (o >>= λ x. Some (f x.0, x.1)) ≡ end_of o
end_of-more None f = refl
end_of-more (Some x) f = refl

-- ---- one level

pub value_end-leaf : (limit : ℕ) (bytes : List ℕ) (v : Tree) (rest : List ℕ) → limit ≢ 0 → start_at bytes ≡ Some (leaf v, rest) → Some rest ≡ end_of (value_at limit bytes)
value_end-leaf limit bytes v rest some h = sym (ap end_of (value_at-leaf limit bytes v v rest (omega arith) h refl))

pub value_end-list : (limit : ℕ) (bytes : List ℕ) (n : ℕ) (rest : List ℕ) → limit ≢ 0 → start_at bytes ≡ Some (list_of n, rest) → end_of (members_at (value_at (limit - 1)) n rest) ≡ end_of (value_at limit bytes)
unfolding value_behind
value_end-list limit bytes n rest some h = sym (ap end_of (value_at-started limit bytes (list_of n) rest (omega arith) h) ∙ end_of-more (members_at (value_at (limit - 1)) n rest) list)

pub value_end-map : (limit : ℕ) (bytes : List ℕ) (n : ℕ) (rest : List ℕ) → limit ≢ 0 → start_at bytes ≡ Some (map_of n, rest) → end_of (fields_at (value_at (limit - 1)) n None rest) ≡ end_of (value_at limit bytes)
unfolding value_behind
value_end-map limit bytes n rest some h = sym (ap end_of (value_at-started limit bytes (map_of n) rest (omega arith) h) ∙ end_of-more (fields_at (value_at (limit - 1)) n None rest) map)

-- ---- the members of a list

pub members_end-next : (read : Parse Tree) (count i : ℕ) (bytes after : List ℕ) (total : Option (List ℕ)) → i < count → Some after ≡ end_of (read bytes)
    → end_of (members_at read (count - i) bytes) ≡ total → end_of (members_at read (count - (i + 1)) after) ≡ total
unfolding members_at
members_end-next read count i bytes after total lt h so_far =
    let k : count - i ≡ suc (count - (i + 1)) = omega arith in
    let found = found_end (read bytes) after h in
    let one : end_of (members_at read (count - i) bytes) ≡ end_of (members_at read (count - (i + 1)) after) = rw (k, found.1) (end_of-more (members_at read (count - (i + 1)) after) (member found.0)) in
    sym one ∙ so_far

pub members_end-none : (read : Parse Tree) (count i : ℕ) (bytes : List ℕ) (total : Option (List ℕ)) → i < count → None ≡ end_of (read bytes)
    → end_of (members_at read (count - i) bytes) ≡ total → None ≡ total
unfolding members_at
members_end-none read count i bytes total lt h so_far =
    let k : count - i ≡ suc (count - (i + 1)) = omega arith in
    let one : end_of (members_at read (count - i) bytes) ≡ None = rw (k, no_end (read bytes) h) refl in
    sym one ∙ so_far

pub members_end-done : (read : Parse Tree) (count i : ℕ) (bytes : List ℕ) (total : Option (List ℕ)) → count ≤ i → end_of (members_at read (count - i) bytes) ≡ total → Some bytes ≡ total
unfolding members_at
members_end-done read count i bytes total le so_far =
    let k : count - i ≡ 0 = omega arith in
    let one : end_of (members_at read (count - i) bytes) ≡ Some bytes = rw k refl in
    sym one ∙ so_far

-- ---- the members of a map

pub fields_end-next : (read : Parse Tree) (count i : ℕ) (last : Option (List ℕ)) (bytes name behind after : List ℕ) (total : Option (List ℕ)) → i < count
    → text_at bytes ≡ Some (name, behind) → is_above last name ≡ true → Some after ≡ end_of (read behind)
    → end_of (fields_at read (count - i) last bytes) ≡ total → end_of (fields_at read (count - (i + 1)) (Some name) after) ≡ total
unfolding fields_at
fields_end-next read count i last bytes name behind after total lt named above h so_far =
    let k : count - i ≡ suc (count - (i + 1)) = omega arith in
    let found = found_end (read behind) after h in
    let one : end_of (fields_at read (count - i) last bytes) ≡ end_of (fields_at read (count - (i + 1)) (Some name) after) = rw (k, named, above, found.1) (end_of-more (fields_at read (count - (i + 1)) (Some name) after) (field name found.0)) in
    sym one ∙ so_far

pub fields_end-unnamed : (read : Parse Tree) (count i : ℕ) (last : Option (List ℕ)) (bytes : List ℕ) (total : Option (List ℕ)) → i < count
    → text_at bytes ≡ None → end_of (fields_at read (count - i) last bytes) ≡ total → None ≡ total
unfolding fields_at
fields_end-unnamed read count i last bytes total lt named so_far =
    let k : count - i ≡ suc (count - (i + 1)) = omega arith in
    let one : end_of (fields_at read (count - i) last bytes) ≡ None = rw (k, named) refl in
    sym one ∙ so_far

pub fields_end-misplaced : (read : Parse Tree) (count i : ℕ) (last : Option (List ℕ)) (bytes name behind : List ℕ) (total : Option (List ℕ)) → i < count
    → text_at bytes ≡ Some (name, behind) → is_above last name ≡ false → end_of (fields_at read (count - i) last bytes) ≡ total → None ≡ total
unfolding fields_at
fields_end-misplaced read count i last bytes name behind total lt named early so_far =
    let k : count - i ≡ suc (count - (i + 1)) = omega arith in
    let one : end_of (fields_at read (count - i) last bytes) ≡ None = rw (k, named, early) refl in
    sym one ∙ so_far

pub fields_end-none : (read : Parse Tree) (count i : ℕ) (last : Option (List ℕ)) (bytes name behind : List ℕ) (total : Option (List ℕ)) → i < count
    → text_at bytes ≡ Some (name, behind) → is_above last name ≡ true → None ≡ end_of (read behind) → end_of (fields_at read (count - i) last bytes) ≡ total → None ≡ total
unfolding fields_at
fields_end-none read count i last bytes name behind total lt named above h so_far =
    let k : count - i ≡ suc (count - (i + 1)) = omega arith in
    let one : end_of (fields_at read (count - i) last bytes) ≡ None = rw (k, named, above, no_end (read behind) h) refl in
    sym one ∙ so_far

pub fields_end-done : (read : Parse Tree) (count i : ℕ) (last : Option (List ℕ)) (bytes : List ℕ) (total : Option (List ℕ)) → count ≤ i → end_of (fields_at read (count - i) last bytes) ≡ total → Some bytes ≡ total
unfolding fields_at
fields_end-done read count i last bytes total le so_far =
    let k : count - i ≡ 0 = omega arith in
    let one : end_of (fields_at read (count - i) last bytes) ≡ Some bytes = rw k refl in
    sym one ∙ so_far

-- ---- the whole of the bytes
