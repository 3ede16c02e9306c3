-- Reading members one after the other, as a loop does.
use Rattle.std.proofs.Common.{◌≡◌, ℕ, suc, ◌-◌, ◌+◌, ◌≤◌, ◌<◌, true, false, List, [], ◌∷◌, ◌++◌, Option, Some, None, refl, sym, ap, ◌∙◌, arith}
use Rattle.request_codec.specs.Tree.{Tree, Members, no_members, member, Fields, no_fields, field, members_of, fields_of}
use Rattle.request_codec.specs.inside.Build.{Named}
use Rattle.request_codec.specs.Reading.{◌>>=◌, Parse, text_at, members_at, fields_at, is_above}

-- ---- the members of a list

abbrev pub before : List Tree → Members → Members
before [] ts = ts
before (f ∷ front) ts = member f (before front ts)

pub before-append : (front : List Tree) (t : Tree) (ts : Members) → before front (member t ts) ≡ before (front ++ t ∷ []) ts
before-append [] t ts = refl
before-append (f ∷ front) t ts = ap (member f) (before-append front t ts)

pub before-nil : (front : List Tree) → before front no_members ≡ members_of front
before-nil [] = refl
before-nil (f ∷ front) = ap (member f) (before-nil front)

-- what was read before, and what is still read
abbrev pub with_members : List Tree → Option (Members × List ℕ) → Option (Members × List ℕ)
with_members front read = read >>= λ x. Some (before front x.0, x.1)

regroup : (front : List Tree) (t : Tree) (read : Option (Members × List ℕ)) → with_members front (read >>= λ ts. Some (member t ts.0, ts.1)) ≡ with_members (front ++ t ∷ []) read
regroup front t None = refl
regroup front t (Some x) = ap (λ (ts : Members). Some (ts, x.1)) (before-append front t x.0)

pub members-start : (read : Option (Members × List ℕ)) → with_members [] read ≡ read
members-start None = refl
members-start (Some x) = refl

pub members-go_on : (read : Parse Tree) (front : List Tree) (count i : ℕ) (bytes : List ℕ) (t : Tree) (after : List ℕ) (total : Option (Members × List ℕ)) → i < count → read bytes ≡ Some (t, after)
    → with_members front (members_at read (count - i) bytes) ≡ total → with_members (front ++ t ∷ []) (members_at read (count - (i + 1)) after) ≡ total
unfolding members_at
members-go_on read front count i bytes t after total lt h so_far =
    let k : count - i ≡ suc (count - (i + 1)) = omega arith in
    let one : with_members front (members_at read (count - i) bytes) ≡ with_members (front ++ t ∷ []) (members_at read (count - (i + 1)) after) = rw (k, h) (regroup front t (members_at read (count - (i + 1)) after)) in
    sym one ∙ so_far

pub members-end : (read : Parse Tree) (front : List Tree) (count i : ℕ) (bytes : List ℕ) (total : Option (Members × List ℕ)) → i < count → with_members front (members_at read (count - i) bytes) ≡ total
    → read bytes ≡ None → total ≡ None
unfolding members_at
members-end read front count i bytes total lt so_far h =
    let k : count - i ≡ suc (count - (i + 1)) = omega arith in
    let one : with_members front (members_at read (count - i) bytes) ≡ None = rw (k, h) refl in
    sym so_far ∙ one

pub members-done : (read : Parse Tree) (front : List Tree) (count i : ℕ) (bytes : List ℕ) (total : Option (Members × List ℕ)) → count ≤ i → with_members front (members_at read (count - i) bytes) ≡ total → total ≡ Some (members_of front, bytes)
unfolding members_at
members-done read front count i bytes total le so_far =
    let k : count - i ≡ 0 = omega arith in
    let one : with_members front (members_at read (count - i) bytes) ≡ Some (members_of front, bytes) = rw k (ap (λ (ts : Members). Some (ts, bytes)) (before-nil front)) in
    sym so_far ∙ one

-- ---- the members of a map

abbrev pub before_fields : List Named → Fields → Fields
before_fields [] fs = fs
before_fields (f ∷ front) fs = field f.0 f.1 (before_fields front fs)

pub before_fields-append : (front : List Named) (f : Named) (fs : Fields) → before_fields front (field f.0 f.1 fs) ≡ before_fields (front ++ f ∷ []) fs
before_fields-append [] f fs = refl
before_fields-append (g ∷ front) f fs = ap (field g.0 g.1) (before_fields-append front f fs)

pub before_fields-nil : (front : List Named) → before_fields front no_fields ≡ fields_of front
before_fields-nil [] = refl
before_fields-nil (f ∷ front) = ap (field f.0 f.1) (before_fields-nil front)

abbrev pub with_fields : List Named → Option (Fields × List ℕ) → Option (Fields × List ℕ)
with_fields front read = read >>= λ x. Some (before_fields front x.0, x.1)

regroup_fields : (front : List Named) (f : Named) (read : Option (Fields × List ℕ)) → with_fields front (read >>= λ fs. Some (field f.0 f.1 fs.0, fs.1)) ≡ with_fields (front ++ f ∷ []) read
regroup_fields front f None = refl
regroup_fields front f (Some x) = ap (λ (fs : Fields). Some (fs, x.1)) (before_fields-append front f x.0)

pub fields-start : (read : Option (Fields × List ℕ)) → with_fields [] read ≡ read
fields-start None = refl
fields-start (Some x) = refl

pub fields-go_on : (read : Parse Tree) (front : List Named) (count i : ℕ) (last : Option (List ℕ)) (bytes name after_name : List ℕ) (t : Tree) (after : List ℕ) (total : Option (Fields × List ℕ)) → i < count
    → text_at bytes ≡ Some (name, after_name) → is_above last name ≡ true → read after_name ≡ Some (t, after)
    → with_fields front (fields_at read (count - i) last bytes) ≡ total → with_fields (front ++ (name, t) ∷ []) (fields_at read (count - (i + 1)) (Some name) after) ≡ total
unfolding fields_at
fields-go_on read front count i last bytes name after_name t after total lt named later h so_far =
    let k : count - i ≡ suc (count - (i + 1)) = omega arith in
    let one : with_fields front (fields_at read (count - i) last bytes) ≡ with_fields (front ++ (name, t) ∷ []) (fields_at read (count - (i + 1)) (Some name) after) = rw (k, named, later, h) (regroup_fields front (name, t) (fields_at read (count - (i + 1)) (Some name) after)) in
    sym one ∙ so_far

-- no name
pub fields-unnamed : (read : Parse Tree) (front : List Named) (count i : ℕ) (last : Option (List ℕ)) (bytes : List ℕ) (total : Option (Fields × List ℕ)) → i < count
    → text_at bytes ≡ None
    → with_fields front (fields_at read (count - i) last bytes) ≡ total → total ≡ None
unfolding fields_at
fields-unnamed read front count i last bytes total lt named so_far =
    let k : count - i ≡ suc (count - (i + 1)) = omega arith in
    let one : with_fields front (fields_at read (count - i) last bytes) ≡ None = rw (k, named) refl in
    sym so_far ∙ one

-- a name out of order
pub fields-misplaced : (read : Parse Tree) (front : List Named) (count i : ℕ) (last : Option (List ℕ)) (bytes name after_name : List ℕ) (total : Option (Fields × List ℕ)) → i < count
    → text_at bytes ≡ Some (name, after_name) → is_above last name ≡ false
    → with_fields front (fields_at read (count - i) last bytes) ≡ total → total ≡ None
unfolding fields_at
fields-misplaced read front count i last bytes name after_name total lt named early so_far =
    let k : count - i ≡ suc (count - (i + 1)) = omega arith in
    let one : with_fields front (fields_at read (count - i) last bytes) ≡ None = rw (k, named, early) refl in
    sym so_far ∙ one

pub fields-end : (read : Parse Tree) (front : List Named) (count i : ℕ) (last : Option (List ℕ)) (bytes name after_name : List ℕ) (total : Option (Fields × List ℕ)) → i < count
    → text_at bytes ≡ Some (name, after_name) → is_above last name ≡ true → with_fields front (fields_at read (count - i) last bytes) ≡ total → read after_name ≡ None → total ≡ None
unfolding fields_at
fields-end read front count i last bytes name after_name total lt named later so_far h =
    let k : count - i ≡ suc (count - (i + 1)) = omega arith in
    let one : with_fields front (fields_at read (count - i) last bytes) ≡ None = rw (k, named, later, h) refl in
    sym so_far ∙ one

pub fields-done : (read : Parse Tree) (front : List Named) (count i : ℕ) (last : Option (List ℕ)) (bytes : List ℕ) (total : Option (Fields × List ℕ)) → count ≤ i → with_fields front (fields_at read (count - i) last bytes) ≡ total → total ≡ Some (fields_of front, bytes)
unfolding fields_at
fields-done read front count i last bytes total le so_far =
    let k : count - i ≡ 0 = omega arith in
    let one : with_fields front (fields_at read (count - i) last bytes) ≡ Some (fields_of front, bytes) = rw k (ap (λ (fs : Fields). Some (fs, bytes)) (before_fields-nil front)) in
    sym so_far ∙ one
