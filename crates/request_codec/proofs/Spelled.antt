-- The bytes that are written for a value that a spelling is there for are a spelling of it.
use Rattle.std.proofs.Common.{◌≡◌, ℕ, ◌+◌, ◌^◌, ◌<◌, ◌≤◌, true, false, List, ◌∷◌, ◌++◌, length, refl, sym, ap, ◌∙◌, append_assoc, arith}
use Rattle.std.specs.Prelude.{IsUtf8}
use Rattle.request_codec.specs.Call.{Call, asks}
use Rattle.std.specs.Int.{w32, to_be_bytes}
use Rattle.std.proofs.lemmas.List.{length-append}
use Rattle.request_codec.specs.Limits.{message_version, depth_limit, message_limit, state_limit}
use Rattle.request_codec.specs.Tree as tree
use Rattle.request_codec.specs.Tree.{Tree, null, truth, integer, text, list, map, Members, no_members, member, Fields, no_fields, field, members_count, fields_count, depth}
use Rattle.request_codec.specs.Spelling.{SpellsText, Spells, SpellEach, SpellFields, SpellsMessage, SpellsState}
use Rattle.request_codec.specs.Written.{text_spelling, spelling, members_spelling, fields_spelling, message_spelling}
use Rattle.request_codec.specs.Formed.{IsFormed, AreFormed, FieldsFormed, IsSized, AreSized, FieldsSized}
use Rattle.request_codec.specs.Answers.{spelled_length, members_length, fields_length, message_length}
use Rattle.request_codec.proofs.OneSpelling.{spelled_once}

pub text_spelled : (s : List ℕ) → length s < 2 ^ 32 → IsUtf8 s → SpellsText s (text_spelling s)
text_spelled s short valid = (short, valid, refl)

mutual
  unfolding spelling

  pub spelled : (v : Tree) → IsFormed v → IsSized v → Spells v (spelling v)
  spelled null formed sized = refl
  spelled (truth false) formed sized = refl
  spelled (truth true) formed sized = refl
  spelled (integer i) formed sized = (formed, refl)
  spelled (text s) formed sized = (text_spelling s, text_spelled s sized formed, refl)
  spelled (list vs) formed sized = (members_spelling vs, sized.0, each_spelled vs formed sized.1, refl)
  spelled (map fs) formed sized = (fields_spelling fs, sized.0, fields_spelled fs formed sized.1, refl)
  spelled (tree.bytes b) formed sized = (sized, formed, refl)

  pub each_spelled : (vs : Members) → AreFormed vs → AreSized vs → SpellEach vs (members_spelling vs)
  each_spelled no_members formed sized = refl
  each_spelled (member v vs) formed sized = (spelling v, members_spelling vs, spelled v formed.0 sized.0, each_spelled vs formed.1 sized.1, refl)

  pub fields_spelled : (fs : Fields) → FieldsFormed fs → FieldsSized fs → SpellFields fs (fields_spelling fs)
  fields_spelled no_fields formed sized = refl
  fields_spelled (field n v fs) formed sized =
      (text_spelling n, spelling v, fields_spelling fs, text_spelled n sized.0 formed.0, spelled v formed.1 sized.1, fields_spelled fs formed.3 sized.2, formed.2, sym (append_assoc (text_spelling n) (spelling v) (fields_spelling fs)))

-- ---- lengths

length-text_spelling : (s : List ℕ) → length (text_spelling s) ≡ 4 + length s
length-text_spelling s = omega (arith, length-append (to_be_bytes w32 (length s)) s)

mutual
  unfolding spelling

  pub length-spelling : (v : Tree) → length (spelling v) ≡ spelled_length v
  length-spelling null = refl
  length-spelling (truth b) = refl
  length-spelling (integer i) = refl
  length-spelling (text s) = omega (arith, length-text_spelling s)
  length-spelling (tree.bytes b) = omega (arith, length-text_spelling b)
  length-spelling (list vs) = omega (arith, length-append (to_be_bytes w32 (members_count vs)) (members_spelling vs), length-members_spelling vs)
  length-spelling (map fs) = omega (arith, length-append (to_be_bytes w32 (fields_count fs)) (fields_spelling fs), length-fields_spelling fs)

  length-members_spelling : (vs : Members) → length (members_spelling vs) ≡ members_length vs
  length-members_spelling no_members = refl
  length-members_spelling (member v vs) = omega (arith, length-append (spelling v) (members_spelling vs), length-spelling v, length-members_spelling vs)

  length-fields_spelling : (fs : Fields) → length (fields_spelling fs) ≡ fields_length fs
  length-fields_spelling no_fields = refl
  length-fields_spelling (field n v fs) = omega (arith, length-append (text_spelling n) (spelling v ++ fields_spelling fs), length-append (spelling v) (fields_spelling fs), length-text_spelling n, length-spelling v, length-fields_spelling fs)

-- ---- what is short enough as a whole is so in each of its parts

pub some_length : (v : Tree) → 1 ≤ spelled_length v
some_length null = omega arith
some_length (truth b) = omega arith
some_length (integer i) = omega arith
some_length (text s) = omega arith
some_length (list vs) = omega arith
some_length (map fs) = omega arith
some_length (tree.bytes b) = omega arith

members_count-le : (vs : Members) → members_count vs ≤ members_length vs
members_count-le no_members = omega arith
members_count-le (member v vs) = omega (arith, some_length v, members_count-le vs)

fields_count-le : (fs : Fields) → fields_count fs ≤ fields_length fs
fields_count-le no_fields = omega arith
fields_count-le (field n v fs) = omega (arith, some_length v, fields_count-le fs)

mutual
  pub sized : (v : Tree) → spelled_length v < 2 ^ 32 → IsSized v
  sized null short = tt
  sized (truth b) short = tt
  sized (integer i) short = tt
  sized (text s) short = omega (arith, short)
  sized (tree.bytes b) short = omega (arith, short)
  sized (list vs) short = (omega (arith, short, members_count-le vs), each_sized vs (omega (arith, short)))
  sized (map fs) short = (omega (arith, short, fields_count-le fs), fields_sized fs (omega (arith, short)))

  each_sized : (vs : Members) → members_length vs < 2 ^ 32 → AreSized vs
  each_sized no_members short = tt
  each_sized (member v vs) short = (sized v (omega (arith, short)), each_sized vs (omega (arith, short)))

  fields_sized : (fs : Fields) → fields_length fs < 2 ^ 32 → FieldsSized fs
  fields_sized no_fields short = tt
  fields_sized (field n v fs) short = (omega (arith, short), sized v (omega (arith, short)), fields_sized fs (omega (arith, short)))

-- ---- whole messages and states

pub length-message : (method : List ℕ) (v : Tree) → length (message_spelling (asks method v)) ≡ message_length method v
length-message method v = omega (arith, length-append (text_spelling method) (spelling v), length-text_spelling method, length-spelling v)

pub message_spelled : (method : List ℕ) (v : Tree) → IsUtf8 method → IsFormed v → depth v ≤ depth_limit → message_length method v ≤ message_limit → SpellsMessage method v (message_spelling (asks method v))
message_spelled method v valid formed deep short = record {
  name = text_spelling method;
  rest = spelling v;
  method_spelled = text_spelled method (omega (arith, short)) valid;
  value_spelled = spelled v formed (sized v (omega (arith, short)));
  whole_bytes = refl;
  depth_within = deep;
  length_within = omega (arith, short, length-message method v);
}

pub state_spelled : (v : Tree) → IsFormed v → depth v ≤ depth_limit → spelled_length v ≤ state_limit → SpellsState v (spelling v)
state_spelled v formed deep short = record {
  value_spelled = spelled v formed (sized v (omega (arith, short)));
  depth_within = deep;
  length_within = omega (arith, short, length-spelling v);
}

-- ---- what has a spelling

mutual
  pub formed_of : (v : Tree) (bytes : List ℕ) → Spells v bytes → IsFormed v
  formed_of null bytes h = tt
  formed_of (truth b) bytes h = tt
  formed_of (integer i) bytes h = h.0
  formed_of (text s) bytes h = h.1.1
  formed_of (tree.bytes b) bytes h = h.1
  formed_of (list vs) bytes h = each_formed_of vs h.0 h.2
  formed_of (map fs) bytes h = fields_formed_of fs h.0 h.2

  each_formed_of : (vs : Members) (bytes : List ℕ) → SpellEach vs bytes → AreFormed vs
  each_formed_of no_members bytes h = tt
  each_formed_of (member v vs) bytes h = (formed_of v h.0 h.2, each_formed_of vs h.1 h.3)

  fields_formed_of : (fs : Fields) (bytes : List ℕ) → SpellFields fs bytes → FieldsFormed fs
  fields_formed_of no_fields bytes h = tt
  fields_formed_of (field n v fs) bytes h = (h.3.1, formed_of v h.1 h.4, h.6, fields_formed_of fs h.2 h.5)

mutual
  pub sized_of : (v : Tree) (bytes : List ℕ) → Spells v bytes → IsSized v
  sized_of null bytes h = tt
  sized_of (truth b) bytes h = tt
  sized_of (integer i) bytes h = tt
  sized_of (text s) bytes h = h.1.0
  sized_of (tree.bytes b) bytes h = h.0
  sized_of (list vs) bytes h = (h.1, each_sized_of vs h.0 h.2)
  sized_of (map fs) bytes h = (h.1, fields_sized_of fs h.0 h.2)

  each_sized_of : (vs : Members) (bytes : List ℕ) → SpellEach vs bytes → AreSized vs
  each_sized_of no_members bytes h = tt
  each_sized_of (member v vs) bytes h = (sized_of v h.0 h.2, each_sized_of vs h.1 h.3)

  fields_sized_of : (fs : Fields) (bytes : List ℕ) → SpellFields fs bytes → FieldsSized fs
  fields_sized_of no_fields bytes h = tt
  fields_sized_of (field n v fs) bytes h = (h.3.0, sized_of v h.1 h.4, fields_sized_of fs h.2 h.5)

-- a spelling is the bytes that are written for the value
pub spelling-is : (v : Tree) (bytes : List ℕ) → Spells v bytes → bytes ≡ spelling v
spelling-is v bytes h = spelled_once v bytes (spelling v) h (spelled v (formed_of v bytes h) (sized_of v bytes h))

pub length-spelled : (v : Tree) (bytes : List ℕ) → Spells v bytes → length bytes ≡ spelled_length v
length-spelled v bytes h = ap (λ (b : List ℕ). length b) (spelling-is v bytes h) ∙ length-spelling v

pub message_spelling-is : (call : Call) (bytes : List ℕ) → SpellsMessage call.method call.argument bytes → bytes ≡ message_spelling call
message_spelling-is call bytes h = h.whole_bytes ∙ (λ i. message_version ∷ (h.method_spelled.2 i ++ spelling-is call.argument h.rest h.value_spelled i))

pub state_spelling-is : (v : Tree) (bytes : List ℕ) → SpellsState v bytes → bytes ≡ spelling v
state_spelling-is v bytes h = spelling-is v bytes h.value_spelled
