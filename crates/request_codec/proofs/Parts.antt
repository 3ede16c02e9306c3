-- The parts of a spelling, and what a loop has still to write.
use Rattle.std.proofs.Common.{◌≡◌, ℕ, suc, ◌+◌, ◌<◌, ◌≤◌, List, [], ◌∷◌, ◌++◌, length, Err, refl, sym, ap, subst, ◌∙◌, append_assoc, arith}
use Rattle.std.specs.Int.{w32, to_be_bytes}
use Rattle.std.proofs.lemmas.List.{append-nil, length-append}
use Rattle.request_codec.specs.Tree as tree
use Rattle.request_codec.specs.Tree.{Tree, null, truth, integer, text, list, map, members_count, fields_count, members_of, fields_of}
use Rattle.request_codec.specs.inside.Build.{Named}
use Rattle.request_codec.specs.Answers.{spelled_length, members_length, fields_length}
use Rattle.request_codec.specs.Written.{Puts, text_spelling, spelling, members_spelling, fields_spelling}
use Rattle.request_codec.specs.declared.fault.CodecFault.{CodecFault}
use Rattle.request_codec.specs.declared.fault.CodecFault.TheVariants as faults
use Rattle.request_codec.proofs.Puts.{Puts-part}

some_byte : (t : Tree) → 1 ≤ length (spelling t)
unfolding spelling
some_byte null = omega arith
some_byte (truth b) = omega arith
some_byte (integer i) = omega arith
some_byte (text s) = omega arith
some_byte (list vs) = omega arith
some_byte (map fs) = omega arith
some_byte (tree.bytes b) = omega arith

-- what is still to be written of a list's members and of a map's fields
abbrev pub members_left : List Tree → List ℕ
members_left vs = members_spelling (members_of vs)

abbrev pub fields_left : List Named → List ℕ
fields_left fs = fields_spelling (fields_of fs)

count_le : (vs : List Tree) → length vs ≤ length (members_left vs)
unfolding spelling
count_le [] = omega arith
count_le (v ∷ vs) = omega (arith, some_byte v, count_le vs, length-append (spelling v) (members_left vs))

fields_count_le : (fs : List Named) → length fs ≤ length (fields_left fs)
unfolding spelling
fields_count_le [] = omega arith
fields_count_le (f ∷ fs) = omega (arith, some_byte f.1, fields_count_le fs, length-append (text_spelling f.0) (spelling f.1 ++ fields_left fs), length-append (spelling f.1) (fields_left fs))

members_count-of : (vs : List Tree) → members_count (members_of vs) ≡ length vs
members_count-of [] = refl
members_count-of (v ∷ vs) = ap suc (members_count-of vs)

fields_count-of : (fs : List Named) → fields_count (fields_of fs) ≡ length fs
fields_count-of [] = refl
fields_count-of (f ∷ fs) = ap suc (fields_count-of fs)

pub list_parts : (vs : List Tree) (n : ℕ) → n ≡ length vs → spelling (list (members_of vs)) ≡ (5 ∷ to_be_bytes w32 n) ++ members_left vs
unfolding spelling
list_parts vs n e = ap (λ (k : ℕ). 5 ∷ (to_be_bytes w32 k ++ members_left vs)) (members_count-of vs ∙ sym e)

pub map_parts : (fs : List Named) (n : ℕ) → n ≡ length fs → spelling (map (fields_of fs)) ≡ (6 ∷ to_be_bytes w32 n) ++ fields_left fs
unfolding spelling
map_parts fs n e = ap (λ (k : ℕ). 6 ∷ (to_be_bytes w32 k ++ fields_left fs)) (fields_count-of fs ∙ sym e)

-- too many members
pub list_uncounted : (e : CodecFault) (limit : ℕ) (old new : List ℕ) (vs : List Tree) → e ≡ faults.TooLong → limit < length vs → Puts limit old new (Err e) (spelling (list (members_of vs)))
unfolding spelling
list_uncounted e limit old new vs is lt =
    let whole = list (members_of vs) in
    let long : limit < length old + length (spelling whole) = omega (arith, lt, count_le vs, length-append (to_be_bytes w32 (members_count (members_of vs))) (members_left vs)) in
    subst (λ (k : CodecFault). Puts limit old new (Err k) (spelling whole)) (sym is) long

pub map_uncounted : (e : CodecFault) (limit : ℕ) (old new : List ℕ) (fs : List Named) → e ≡ faults.TooLong → limit < length fs → Puts limit old new (Err e) (spelling (map (fields_of fs)))
unfolding spelling
map_uncounted e limit old new fs is lt =
    let whole = map (fields_of fs) in
    let long : limit < length old + length (spelling whole) = omega (arith, lt, fields_count_le fs, length-append (to_be_bytes w32 (fields_count (fields_of fs))) (fields_left fs)) in
    subst (λ (k : CodecFault). Puts limit old new (Err k) (spelling whole)) (sym is) long

-- one more item
item_next : (out item rest all new : List ℕ) → out ++ (item ++ rest) ≡ all → new ≡ out ++ item → new ++ rest ≡ all
item_next out item rest all new e n = ap (λ (s : List ℕ). s ++ rest) n ∙ append_assoc out item rest ∙ e

-- one more member of a list, and the end
members_cut : (vs : List Tree) (v : Tree) (rest : List Tree) → vs ≡ v ∷ rest → members_left vs ≡ spelling v ++ members_left rest
unfolding spelling
members_cut vs v rest is = ap members_left is

pub members_next : (out new target : List ℕ) (vs : List Tree) (v : Tree) (rest : List Tree) → vs ≡ v ∷ rest → new ≡ out ++ spelling v → out ++ members_left vs ≡ target → new ++ members_left rest ≡ target
members_next out new target vs v rest is n e = item_next out (spelling v) (members_left rest) target new (ap (λ (s : List ℕ). out ++ s) (sym (members_cut vs v rest is)) ∙ e) n

pub members_done : (out target : List ℕ) (vs : List Tree) → vs ≡ [] → out ++ members_left vs ≡ target → out ≡ target
unfolding spelling
members_done out target vs is e = sym (append-nil out) ∙ ap (λ (r : List Tree). out ++ members_left r) (sym is) ∙ e

pub members_part : (limit : ℕ) (out new after old all : List ℕ) (vs : List Tree) (v : Tree) (rest : List Tree) (e : CodecFault) → vs ≡ v ∷ rest
    → out ++ members_left vs ≡ old ++ all → Puts limit out new (Err e) (spelling v) → Puts limit old after (Err e) all
members_part limit out new after old all vs v rest e is w p =
    Puts-part limit old new after out (spelling v) (members_left rest) all e (ap (λ (s : List ℕ). out ++ s) (sym (members_cut vs v rest is)) ∙ w) p

-- a member and those behind it are no longer than the list
pub members_fewer : (vs : List Tree) (v : Tree) (rest : List Tree) (n : ℕ) → vs ≡ v ∷ rest → members_length (members_of vs) ≤ n → (spelled_length v ≤ n) × (members_length (members_of rest) ≤ n)
members_fewer vs v rest n is le =
    let cut : members_length (members_of vs) ≡ spelled_length v + members_length (members_of rest) = ap (λ (l : List Tree). members_length (members_of l)) is in
    (omega (arith, cut, le), omega (arith, cut, le))

-- one more field of a map, and the end
fields_cut : (fs : List Named) (f : Named) (rest : List Named) → fs ≡ f ∷ rest → fields_left fs ≡ text_spelling f.0 ++ (spelling f.1 ++ fields_left rest)
unfolding spelling
fields_cut fs f rest is = ap fields_left is

-- behind the name
fields_named : (out mid target : List ℕ) (fs : List Named) (f : Named) (rest : List Named) → fs ≡ f ∷ rest → mid ≡ out ++ text_spelling f.0 → out ++ fields_left fs ≡ target → mid ++ (spelling f.1 ++ fields_left rest) ≡ target
fields_named out mid target fs f rest is m w =
    item_next out (text_spelling f.0) (spelling f.1 ++ fields_left rest) target mid (ap (λ (s : List ℕ). out ++ s) (sym (fields_cut fs f rest is)) ∙ w) m

pub fields_next : (out mid new target : List ℕ) (fs : List Named) (f : Named) (rest : List Named) → fs ≡ f ∷ rest → mid ≡ out ++ text_spelling f.0 → new ≡ mid ++ spelling f.1
    → out ++ fields_left fs ≡ target → new ++ fields_left rest ≡ target
fields_next out mid new target fs f rest is m n w = item_next mid (spelling f.1) (fields_left rest) target new (fields_named out mid target fs f rest is m w) n

pub fields_done : (out target : List ℕ) (fs : List Named) → fs ≡ [] → out ++ fields_left fs ≡ target → out ≡ target
unfolding spelling
fields_done out target fs is w = sym (append-nil out) ∙ ap (λ (r : List Named). out ++ fields_left r) (sym is) ∙ w

pub name_part : (limit : ℕ) (out new after old all : List ℕ) (fs : List Named) (f : Named) (rest : List Named) (e : CodecFault) → fs ≡ f ∷ rest
    → out ++ fields_left fs ≡ old ++ all → Puts limit out new (Err e) (text_spelling f.0) → Puts limit old after (Err e) all
name_part limit out new after old all fs f rest e is w p =
    Puts-part limit old new after out (text_spelling f.0) (spelling f.1 ++ fields_left rest) all e (ap (λ (s : List ℕ). out ++ s) (sym (fields_cut fs f rest is)) ∙ w) p

pub value_part : (limit : ℕ) (out mid new after old all : List ℕ) (fs : List Named) (f : Named) (rest : List Named) (e : CodecFault) → fs ≡ f ∷ rest → mid ≡ out ++ text_spelling f.0
    → out ++ fields_left fs ≡ old ++ all → Puts limit mid new (Err e) (spelling f.1) → Puts limit old after (Err e) all
value_part limit out mid new after old all fs f rest e is m w p =
    Puts-part limit old new after mid (spelling f.1) (fields_left rest) all e (fields_named out mid (old ++ all) fs f rest is m w) p

-- a field's value and the fields behind it are no longer than the map
pub fields_fewer : (fs : List Named) (f : Named) (rest : List Named) (n : ℕ) → fs ≡ f ∷ rest → fields_length (fields_of fs) ≤ n → (spelled_length f.1 ≤ n) × (fields_length (fields_of rest) ≤ n)
fields_fewer fs f rest n is le =
    let cut : fields_length (fields_of fs) ≡ 4 + length f.0 + (spelled_length f.1 + fields_length (fields_of rest)) = ap (λ (l : List Named). fields_length (fields_of l)) is in
    (omega (arith, cut, le), omega (arith, cut, le))
