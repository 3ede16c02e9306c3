-- Whether bytes stand in a value is found level by level and member by member.
use Rattle.std.proofs.Common.{◌≡◌, ℕ, suc, ◌+◌, ◌-◌, ◌<◌, ◌≤◌, ◌≢◌, Bool, true, false, ◌||◌, List, Option, Some, None, refl, sym, ap, ◌∙◌, arith}
use Rattle.std.proofs.lemmas.Option.{some_pair_parts}
use Rattle.request_codec.specs.Tree.{Tree, list, map, Members, member, Fields, field, holds_bytes, members_hold_bytes, fields_hold_bytes}
use Rattle.request_codec.specs.Reading.{Parse, ◌>>=◌, text_at, members_at, fields_at, is_above, value_at}
use Rattle.request_codec.specs.Start.{leaf, list_of, map_of, start_at, value_behind}
use Rattle.request_codec.specs.inside.Ends.{holding}
use Rattle.request_codec.proofs.Levels.{value_at-leaf, value_at-started}

-- what was read, where something is told of it
pub found_held : {A : Type 0} (test : A → Bool) (o : Option (A × List ℕ)) (b : Bool) (r : List ℕ) → Some (b, r) ≡ holding test o → (x : A) × (o ≡ Some (x, r)) × (b ≡ test x)
found_held test None b r e = absurd cc
found_held test (Some (x, s)) b r e =
    let parts = some_pair_parts b (test x) r s e in
    (x, ap (λ (t : List ℕ). Some (x, t)) (sym parts.1), parts.0)

pub none_held : {A : Type 0} (test : A → Bool) (o : Option (A × List ℕ)) → None ≡ holding test o → o ≡ None
none_held test None e = refl
none_held test (Some (x, r)) e = absurd cc

-- of a list and a map it is told what is told of the members
pub holding_list : (o : Option (Members × List ℕ)) → holding members_hold_bytes o ≡ holding holds_bytes (o >>= λ x. Some (list x.0, x.1))
holding_list None = refl
holding_list (Some (vs, r)) = refl

pub holding_map : (o : Option (Fields × List ℕ)) → holding fields_hold_bytes o ≡ holding holds_bytes (o >>= λ x. Some (map x.0, x.1))
holding_map None = refl
holding_map (Some (fs, r)) = refl

-- ---- one level

pub held_leaf : (limit : ℕ) (bytes : List ℕ) (v : Tree) (rest : List ℕ) → limit ≢ 0 → start_at bytes ≡ Some (leaf v, rest) → Some (holds_bytes v, rest) ≡ holding holds_bytes (value_at limit bytes)
held_leaf limit bytes v rest some h = sym (ap (holding holds_bytes) (value_at-leaf limit bytes v v rest (omega arith) h refl))

pub held_list : (limit : ℕ) (bytes : List ℕ) (n : ℕ) (rest : List ℕ) → limit ≢ 0 → start_at bytes ≡ Some (list_of n, rest) → holding members_hold_bytes (members_at (value_at (limit - 1)) n rest) ≡ holding holds_bytes (value_at limit bytes)
unfolding value_behind
held_list limit bytes n rest some h = holding_list (members_at (value_at (limit - 1)) n rest) ∙ sym (ap (holding holds_bytes) (value_at-started limit bytes (list_of n) rest (omega arith) h))

pub held_map : (limit : ℕ) (bytes : List ℕ) (n : ℕ) (rest : List ℕ) → limit ≢ 0 → start_at bytes ≡ Some (map_of n, rest) → holding fields_hold_bytes (fields_at (value_at (limit - 1)) n None rest) ≡ holding holds_bytes (value_at limit bytes)
unfolding value_behind
held_map limit bytes n rest some h = holding_map (fields_at (value_at (limit - 1)) n None rest) ∙ sym (ap (holding holds_bytes) (value_at-started limit bytes (map_of n) rest (omega arith) h))

-- ---- the members of a list

-- with what was told of those before
abbrev pub so_far : Bool → Option (Bool × List ℕ) → Option (Bool × List ℕ)
so_far found None = None
so_far found (Some (b, r)) = Some (found || b, r)

or_assoc : (a b c : Bool) → ((a || b) || c) ≡ (a || (b || c))
or_assoc true b c = refl
or_assoc false b c = refl

pub so_far-start : (o : Option (Bool × List ℕ)) → so_far false o ≡ o
so_far-start None = refl
so_far-start (Some (b, r)) = refl

-- one more, in front of what is told of the others
one_member : (found : Bool) (v : Tree) (o : Option (Members × List ℕ)) → so_far found (holding members_hold_bytes (o >>= λ vs. Some (member v vs.0, vs.1))) ≡ so_far (found || holds_bytes v) (holding members_hold_bytes o)
one_member found v None = refl
one_member found v (Some (vs, r)) = ap (λ (b : Bool). Some (b, r)) (sym (or_assoc found (holds_bytes v) (members_hold_bytes vs)))

members_one : (read : Parse Tree) (count i : ℕ) (found : Bool) (v : Tree) (bytes after : List ℕ) → i < count → read bytes ≡ Some (v, after)
    → so_far found (holding members_hold_bytes (members_at read (count - i) bytes)) ≡ so_far (found || holds_bytes v) (holding members_hold_bytes (members_at read (count - (i + 1)) after))
unfolding members_at
members_one read count i found v bytes after lt is =
    let k : count - i ≡ suc (count - (i + 1)) = omega arith in
    rw (k, is) (one_member found v (members_at read (count - (i + 1)) after))

pub held_members-next : (read : Parse Tree) (count i : ℕ) (found here : Bool) (bytes after : List ℕ) (total : Option (Bool × List ℕ)) → i < count → Some (here, after) ≡ holding holds_bytes (read bytes)
    → so_far found (holding members_hold_bytes (members_at read (count - i) bytes)) ≡ total → so_far (found || here) (holding members_hold_bytes (members_at read (count - (i + 1)) after)) ≡ total
held_members-next read count i found here bytes after total lt h told =
    let one = found_held holds_bytes (read bytes) here after h in
    ap (λ b. so_far (found || b) (holding members_hold_bytes (members_at read (count - (i + 1)) after))) one.2 ∙ sym (members_one read count i found one.0 bytes after lt one.1) ∙ told

pub held_members-none : (read : Parse Tree) (count i : ℕ) (found : Bool) (bytes : List ℕ) (total : Option (Bool × List ℕ)) → i < count → None ≡ holding holds_bytes (read bytes)
    → so_far found (holding members_hold_bytes (members_at read (count - i) bytes)) ≡ total → None ≡ total
unfolding members_at
held_members-none read count i found bytes total lt h told =
    let k : count - i ≡ suc (count - (i + 1)) = omega arith in
    let one : so_far found (holding members_hold_bytes (members_at read (count - i) bytes)) ≡ None = rw (k, none_held holds_bytes (read bytes) h) refl in
    sym one ∙ told

or_nothing : (a : Bool) → (a || false) ≡ a
or_nothing true = refl
or_nothing false = refl

pub held_members-done : (read : Parse Tree) (count i : ℕ) (found : Bool) (bytes : List ℕ) (total : Option (Bool × List ℕ)) → count ≤ i → so_far found (holding members_hold_bytes (members_at read (count - i) bytes)) ≡ total → Some (found, bytes) ≡ total
unfolding members_at
held_members-done read count i found bytes total le told =
    let k : count - i ≡ 0 = omega arith in
    let one : so_far found (holding members_hold_bytes (members_at read (count - i) bytes)) ≡ Some (found, bytes) = rw k (ap (λ (b : Bool). Some (b, bytes)) (or_nothing found)) in
    sym one ∙ told

-- ---- the members of a map

one_field : (found : Bool) (n : List ℕ) (v : Tree) (o : Option (Fields × List ℕ)) → so_far found (holding fields_hold_bytes (o >>= λ fs. Some (field n v fs.0, fs.1))) ≡ so_far (found || holds_bytes v) (holding fields_hold_bytes o)
one_field found n v None = refl
one_field found n v (Some (fs, r)) = ap (λ (b : Bool). Some (b, r)) (sym (or_assoc found (holds_bytes v) (fields_hold_bytes fs)))

-- what is told of the fields that are left
abbrev pub fields_held : Parse Tree → ℕ → Option (List ℕ) → List ℕ → Option (Bool × List ℕ)
fields_held read n last bytes = holding fields_hold_bytes (fields_at read n last bytes)

fields_one : (read : Parse Tree) (count i : ℕ) (last : Option (List ℕ)) (found : Bool) (v : Tree) (bytes name behind after : List ℕ) → i < count
    → text_at bytes ≡ Some (name, behind) → is_above last name ≡ true → read behind ≡ Some (v, after)
    → so_far found (fields_held read (count - i) last bytes) ≡ so_far (found || holds_bytes v) (fields_held read (count - (i + 1)) (Some name) after)
unfolding fields_at
fields_one read count i last found v bytes name behind after lt named above is =
    let k : count - i ≡ suc (count - (i + 1)) = omega arith in
    rw (k, named, above, is) (one_field found name v (fields_at read (count - (i + 1)) (Some name) after))

pub held_fields-next : (read : Parse Tree) (count i : ℕ) (last : Option (List ℕ)) (found here : Bool) (bytes name behind after : List ℕ) (total : Option (Bool × List ℕ)) → i < count
    → text_at bytes ≡ Some (name, behind) → is_above last name ≡ true → Some (here, after) ≡ holding holds_bytes (read behind)
    → so_far found (fields_held read (count - i) last bytes) ≡ total → so_far (found || here) (fields_held read (count - (i + 1)) (Some name) after) ≡ total
held_fields-next read count i last found here bytes name behind after total lt named above h told =
    let one = found_held holds_bytes (read behind) here after h in
    ap (λ b. so_far (found || b) (fields_held read (count - (i + 1)) (Some name) after)) one.2 ∙ sym (fields_one read count i last found one.0 bytes name behind after lt named above one.1) ∙ told

pub held_fields-unnamed : (read : Parse Tree) (count i : ℕ) (last : Option (List ℕ)) (found : Bool) (bytes : List ℕ) (total : Option (Bool × List ℕ)) → i < count
    → text_at bytes ≡ None → so_far found (fields_held read (count - i) last bytes) ≡ total → None ≡ total
unfolding fields_at
held_fields-unnamed read count i last found bytes total lt named told =
    let k : count - i ≡ suc (count - (i + 1)) = omega arith in
    let one : so_far found (fields_held read (count - i) last bytes) ≡ None = rw (k, named) refl in
    sym one ∙ told

pub held_fields-misplaced : (read : Parse Tree) (count i : ℕ) (last : Option (List ℕ)) (found : Bool) (bytes name behind : List ℕ) (total : Option (Bool × List ℕ)) → i < count
    → text_at bytes ≡ Some (name, behind) → is_above last name ≡ false → so_far found (fields_held read (count - i) last bytes) ≡ total → None ≡ total
unfolding fields_at
held_fields-misplaced read count i last found bytes name behind total lt named early told =
    let k : count - i ≡ suc (count - (i + 1)) = omega arith in
    let one : so_far found (fields_held read (count - i) last bytes) ≡ None = rw (k, named, early) refl in
    sym one ∙ told

pub held_fields-none : (read : Parse Tree) (count i : ℕ) (last : Option (List ℕ)) (found : Bool) (bytes name behind : List ℕ) (total : Option (Bool × List ℕ)) → i < count
    → text_at bytes ≡ Some (name, behind) → is_above last name ≡ true → None ≡ holding holds_bytes (read behind) → so_far found (fields_held read (count - i) last bytes) ≡ total → None ≡ total
unfolding fields_at
held_fields-none read count i last found bytes name behind total lt named above h told =
    let k : count - i ≡ suc (count - (i + 1)) = omega arith in
    let one : so_far found (fields_held read (count - i) last bytes) ≡ None = rw (k, named, above, none_held holds_bytes (read behind) h) refl in
    sym one ∙ told

pub held_fields-done : (read : Parse Tree) (count i : ℕ) (last : Option (List ℕ)) (found : Bool) (bytes : List ℕ) (total : Option (Bool × List ℕ)) → count ≤ i → so_far found (fields_held read (count - i) last bytes) ≡ total → Some (found, bytes) ≡ total
unfolding fields_at
held_fields-done read count i last found bytes total le told =
    let k : count - i ≡ 0 = omega arith in
    let one : so_far found (fields_held read (count - i) last bytes) ≡ Some (found, bytes) = rw k (ap (λ (b : Bool). Some (b, bytes)) (or_nothing found)) in
    sym one ∙ told
