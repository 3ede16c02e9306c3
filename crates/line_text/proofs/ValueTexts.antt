-- The text of a value, added part by part.
use Rattle.std.proofs.Common.{◌≡◌, ℕ, ◌+◌, ◌-◌, ◌≤◌, ◌<◌, Bool, true, false, nat_lt, List, length, if◌then◌else◌, [], ◌∷◌, ◌++◌, Option, Some, None, codes, refl, sym, ap, ap₂, ◌∙◌, append_assoc, append-nil, arith}
use Rattle.std.proofs.lemmas.Option.{some_pair_parts}
use Rattle.json.specs.Print.{quoted}
use Rattle.request_codec.proofs.Whole.{if_ended-some}
use Rattle.request_codec.specs.Tree.{Tree, list, map, members_of, fields_of}
use Rattle.request_codec.specs.Reading.{Parse, text_at, members_at, fields_at, is_above, value_at, if_ended}
use Rattle.request_codec.specs.Limits.{depth_limit, state_limit}
use Rattle.request_codec.specs.Start.{start_at, leaf}
use Rattle.request_codec.proofs.Levels.{value_at-leaf}
use Rattle.request_codec.specs.Call.{state_value}
use Rattle.request_codec.specs.declared.fault.CodecFault.{CodecFault}
use Rattle.request_codec.specs.declared.fault.CodecFault.TheVariants as faults
use Rattle.request_codec.specs.inside.Build.{Named}
use Rattle.request_codec.proofs.MemberLoops.{with_members, members-start, members-go_on, members-done, with_fields, fields-start, fields-go_on, fields-done}
use Rattle.line_text.specs.Text.{text_of, more_members, more_fields}
use Rattle.line_text.specs.inside.ValueText.{AddsValue, AddsMembers, AddsFields, AddsNone}

-- ---- texts with commas between them

-- what stands before the next text
abbrev pub comma_after : {A : Type 0} → List A → List ℕ
comma_after [] = codes ""
comma_after (x ∷ xs) = codes ","

abbrev more_texts : {A : Type 0} → (A → List ℕ) → List A → List ℕ
more_texts text [] = []
more_texts text (x ∷ xs) = codes "," ++ (text x ++ more_texts text xs)

abbrev pub texts : {A : Type 0} → (A → List ℕ) → List A → List ℕ
texts text [] = []
texts text (x ∷ xs) = text x ++ more_texts text xs

more-next : {A : Type 0} (text : A → List ℕ) (xs : List A) (y : A) → more_texts text (xs ++ y ∷ []) ≡ more_texts text xs ++ (codes "," ++ text y)
more-next text [] y = ap (λ l. codes "," ++ l) (append-nil (text y))
more-next text (x ∷ xs) y = ap (λ l. codes "," ++ (text x ++ l)) (more-next text xs y) ∙ ap (λ l. codes "," ++ l) (sym (append_assoc (text x) (more_texts text xs) _))

texts-next : {A : Type 0} (text : A → List ℕ) (xs : List A) (y : A) → texts text (xs ++ y ∷ []) ≡ texts text xs ++ (comma_after xs ++ text y)
texts-next text [] y = append-nil (text y)
texts-next text (x ∷ xs) y = ap (λ l. text x ++ l) (more-next text xs y) ∙ sym (append_assoc (text x) (more_texts text xs) _)

comma_after-next : {A : Type 0} (xs : List A) (y : A) → codes "," ≡ comma_after (xs ++ y ∷ [])
comma_after-next [] y = refl
comma_after-next (x ∷ xs) y = refl

-- the bracket, the texts so far, the comma and the next text
grown : {A : Type 0} (text : A → List ℕ) (xs : List A) (y : A) (front comma before t0 t1 t2 : List ℕ) → t0 ≡ before ++ (front ++ texts text xs) → comma ≡ comma_after xs → t1 ≡ t0 ++ comma → t2 ≡ t1 ++ text y
    → t2 ≡ before ++ (front ++ texts text (xs ++ y ∷ []))
grown text xs y front comma before t0 t1 t2 h0 is h1 h2 =
    let piece = comma_after xs ++ text y in
    h2 ∙ ap (λ l. l ++ text y) (h1 ∙ ap₂ (λ l m. l ++ m) h0 is) ∙ append_assoc (before ++ (front ++ texts text xs)) (comma_after xs) (text y)
    ∙ append_assoc before (front ++ texts text xs) piece ∙ ap (λ l. before ++ l) (append_assoc front (texts text xs) piece ∙ ap (λ l. front ++ l) (sym (texts-next text xs y)))

-- the last bracket
closed : (front close inner whole before t0 t1 : List ℕ) → t0 ≡ before ++ (front ++ inner) → t1 ≡ t0 ++ close → whole ≡ front ++ (inner ++ close) → t1 ≡ before ++ whole
closed front close inner whole before t0 t1 h0 h1 is =
    h1 ∙ ap (λ l. l ++ close) h0 ∙ append_assoc before (front ++ inner) close ∙ ap (λ l. before ++ l) (append_assoc front inner close ∙ sym is)

-- ---- the members of a list

more_members-end : (vs : List Tree) → more_members (members_of vs) ≡ more_texts text_of vs ++ codes "]"
more_members-end [] = refl
more_members-end (v ∷ vs) = ap (λ l. codes "," ++ (text_of v ++ l)) (more_members-end vs) ∙ ap (λ l. codes "," ++ l) (sym (append_assoc (text_of v) (more_texts text_of vs) _))

list_text : (vs : List Tree) → text_of (list (members_of vs)) ≡ codes "[" ++ (texts text_of vs ++ codes "]")
list_text [] = refl
list_text (v ∷ vs) = ap (λ l. codes "[" ++ (text_of v ++ l)) (more_members-end vs) ∙ ap (λ l. codes "[" ++ l) (sym (append_assoc (text_of v) (more_texts text_of vs) _))

pub record MembersRead (read : Parse Tree) (count i : ℕ) (bytes rest before after comma : List ℕ) : Type 0 where
  pub front : List Tree
  pub so_far : with_members front (members_at read (count - i) rest) ≡ members_at read count bytes
  pub added : after ≡ before ++ (codes "[" ++ texts text_of front)
  pub apart : comma ≡ comma_after front

pub members_start : (read : Parse Tree) (count : ℕ) (bytes before after : List ℕ) → after ≡ before ++ codes "[" → MembersRead read count 0 bytes bytes before after (codes "")
members_start read count bytes before after e =
    let all : count - 0 ≡ count = omega arith in
    record {
      front = [];
      so_far = rw all (members-start (members_at read count bytes));
      added = e;
      apart = refl;
    }

pub members_next : (read : Parse Tree) (count i : ℕ) (bytes rest behind before t0 t1 t2 comma : List ℕ) → MembersRead read count i bytes rest before t0 comma → i < count → t1 ≡ t0 ++ comma → AddsValue (read rest) behind t1 t2
    → MembersRead read count (i + 1) bytes behind before t2 (codes ",")
members_next read count i bytes rest behind before t0 t1 t2 comma m lt h v = record {
  front = m.front ++ v.v ∷ [];
  so_far = members-go_on read m.front count i rest v.v behind (members_at read count bytes) lt v.read m.so_far;
  added = grown text_of m.front v.v (codes "[") comma before t0 t1 t2 m.added m.apart h v.added;
  apart = comma_after-next m.front v.v;
}

pub members_stop : (read : Parse Tree) (count i : ℕ) (bytes rest before t0 t1 comma : List ℕ) → MembersRead read count i bytes rest before t0 comma → count ≤ i → t1 ≡ t0 ++ codes "]" → AddsMembers (members_at read count bytes) rest before t1
members_stop read count i bytes rest before t0 t1 comma m le h = record {
  vs = members_of m.front;
  read = members-done read m.front count i rest (members_at read count bytes) le m.so_far;
  added = closed (codes "[") (codes "]") (texts text_of m.front) (text_of (list (members_of m.front))) before t0 t1 m.added h (list_text m.front);
}

-- ---- the fields of a map

abbrev pub field_text : Named → List ℕ
field_text f = quoted f.0 ++ (codes ":" ++ text_of f.1)

field_text-then : (f : Named) (rest : List ℕ) → quoted f.0 ++ (codes ":" ++ (text_of f.1 ++ rest)) ≡ field_text f ++ rest
field_text-then f rest = sym (append_assoc (quoted f.0) (codes ":" ++ text_of f.1) rest)

more_fields-end : (fs : List Named) → more_fields (fields_of fs) ≡ more_texts field_text fs ++ codes "}"
more_fields-end [] = refl
more_fields-end (f ∷ fs) =
    ap (λ l. codes "," ++ (quoted f.0 ++ (codes ":" ++ (text_of f.1 ++ l)))) (more_fields-end fs)
    ∙ ap (λ l. codes "," ++ l) (field_text-then f _ ∙ sym (append_assoc (field_text f) (more_texts field_text fs) _))

map_text : (fs : List Named) → text_of (map (fields_of fs)) ≡ codes "{" ++ (texts field_text fs ++ codes "}")
map_text [] = refl
map_text (f ∷ fs) =
    ap (λ l. codes "{" ++ (quoted f.0 ++ (codes ":" ++ (text_of f.1 ++ l)))) (more_fields-end fs)
    ∙ ap (λ l. codes "{" ++ l) (field_text-then f _ ∙ sym (append_assoc (field_text f) (more_texts field_text fs) _))

pub record FieldsRead (read : Parse Tree) (count i : ℕ) (last : Option (List ℕ)) (bytes rest before after comma : List ℕ) : Type 0 where
  pub front : List Named
  pub so_far : with_fields front (fields_at read (count - i) last rest) ≡ fields_at read count None bytes
  pub added : after ≡ before ++ (codes "{" ++ texts field_text front)
  pub apart : comma ≡ comma_after front

pub fields_start : (read : Parse Tree) (count : ℕ) (bytes before after : List ℕ) → after ≡ before ++ codes "{" → FieldsRead read count 0 None bytes bytes before after (codes "")
fields_start read count bytes before after e =
    let all : count - 0 ≡ count = omega arith in
    record {
      front = [];
      so_far = rw all (fields-start (fields_at read count None bytes));
      added = e;
      apart = refl;
    }

-- the name, the colon and the value
named_value : (name : List ℕ) (v : Tree) (t1 t2 t3 t4 : List ℕ) → t2 ≡ t1 ++ quoted name → t3 ≡ t2 ++ codes ":" → t4 ≡ t3 ++ text_of v → t4 ≡ t1 ++ field_text (name, v)
named_value name v t1 t2 t3 t4 h2 h3 h4 =
    h4 ∙ ap (λ l. l ++ text_of v) (h3 ∙ ap (λ l. l ++ codes ":") h2) ∙ append_assoc (t1 ++ quoted name) (codes ":") (text_of v) ∙ append_assoc t1 (quoted name) (codes ":" ++ text_of v)

pub fields_next : (read : Parse Tree) (count i : ℕ) (last : Option (List ℕ)) (bytes rest name after_name behind before t0 t1 t2 t3 t4 comma : List ℕ) → FieldsRead read count i last bytes rest before t0 comma → i < count
    → text_at rest ≡ Some (name, after_name) → is_above last name ≡ true → t1 ≡ t0 ++ comma → t2 ≡ t1 ++ quoted name → t3 ≡ t2 ++ codes ":" → AddsValue (read after_name) behind t3 t4
    → FieldsRead read count (i + 1) (Some name) bytes behind before t4 (codes ",")
fields_next read count i last bytes rest name after_name behind before t0 t1 t2 t3 t4 comma m lt named above h1 h2 h3 v = record {
  front = m.front ++ (name, v.v) ∷ [];
  so_far = fields-go_on read m.front count i last rest name after_name v.v behind (fields_at read count None bytes) lt named above v.read m.so_far;
  added = grown field_text m.front (name, v.v) (codes "{") comma before t0 t1 t4 m.added m.apart h1 (named_value name v.v t1 t2 t3 t4 h2 h3 v.added);
  apart = comma_after-next m.front (name, v.v);
}

pub fields_stop : (read : Parse Tree) (count i : ℕ) (last : Option (List ℕ)) (bytes rest before t0 t1 comma : List ℕ) → FieldsRead read count i last bytes rest before t0 comma → count ≤ i → t1 ≡ t0 ++ codes "}"
    → AddsFields (fields_at read count None bytes) rest before t1
fields_stop read count i last bytes rest before t0 t1 comma m le h = record {
  fs = fields_of m.front;
  read = fields-done read m.front count i last rest (fields_at read count None bytes) le m.so_far;
  added = closed (codes "{") (codes "}") (texts field_text m.front) (text_of (map (fields_of m.front))) before t0 t1 m.added h (map_text m.front);
}

-- ---- one value

pub leaf_added : (limit : ℕ) (bytes : List ℕ) (v : Tree) (rest before after : List ℕ) → 0 < limit → start_at bytes ≡ Some (leaf v, rest) → after ≡ before ++ text_of v → AddsValue (value_at limit bytes) rest before after
leaf_added limit bytes v rest before after some start e = record {
  v = v;
  read = value_at-leaf limit bytes v v rest some start refl;
  added = e;
}

unless_long : (b : Bool) (found : Option Tree) (v : Tree) → (if b then None else found) ≡ Some v → found ≡ Some v
unless_long true found v e = absurd (cc)
unless_long false found v e = e

-- a state's bytes are one value, and nothing is behind it
pub state_behind : (bytes : List ℕ) (v : Tree) → state_value bytes ≡ Some v → value_at depth_limit bytes ≡ Some (v, [])
unfolding state_value
state_behind bytes v e = if_ended-some (value_at depth_limit bytes) v (unless_long (nat_lt state_limit (length bytes)) (if_ended (value_at depth_limit bytes)) v e)

-- ---- why nothing was added

-- a fault of a part is the whole's fault
pub none-whole : {A B : Type 0} (e : CodecFault) (part : Option A) (whole : Option B) → (part ≡ None → whole ≡ None) → AddsNone e part → AddsNone e whole
none-whole faults.NotAMessage part whole none h = none h
none-whole faults.Memory part whole none h = tt
none-whole faults.TooDeep part whole none h = absurd h
none-whole faults.TooLong part whole none h = absurd h
none-whole faults.NotWhole part whole none h = absurd h
none-whole faults.NotHex part whole none h = absurd h

-- there is a value, so there is no fault but of memory
pub no_fault : {A : Type 0} (e : CodecFault) (found : Option A) (x : A) → found ≡ Some x → AddsNone e found → e ≡ faults.Memory
no_fault faults.NotAMessage found x is h = absurd (cc)
no_fault faults.Memory found x is h = refl
no_fault faults.TooDeep found x is h = absurd h
no_fault faults.TooLong found x is h = absurd h
no_fault faults.NotWhole found x is h = absurd h
no_fault faults.NotHex found x is h = absurd h

-- all of a state was added
pub state_added : (bytes rest before after : List ℕ) (v : Tree) → state_value bytes ≡ Some v → AddsValue (value_at depth_limit bytes) rest before after → (rest ≡ []) × (after ≡ before ++ text_of v)
state_added bytes rest before after v known a =
    let same = some_pair_parts a.v v rest [] (sym a.read ∙ state_behind bytes v known) in
    (same.1, a.added ∙ ap (λ t. before ++ text_of t) same.0)
