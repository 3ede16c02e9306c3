-- The bytes that are written for a value, and what putting them at the end of others answers.
use Rattle.std.specs.Prelude.{◌≡◌, ℕ, ◌+◌, ◌<◌, ◌≤◌, List, [], ◌∷◌, ◌++◌, length, Result, Ok, Err, ⊤, Vec, if◌then◌else◌}
use Rattle.std.specs.Int.{w32, w64, to_be_bytes, cast_unsigned}
use Rattle.std.specs.declared.alloc.Global.{Global}
use Rattle.request_codec.specs.Limits.{message_version, old_version}
use Rattle.request_codec.specs.Tree.{Tree, null, truth, integer, text, list, map, Members, no_members, member, Fields, no_fields, field}
use Rattle.request_codec.specs.Tree.{members_count, fields_count}
use Rattle.request_codec.specs.Tree as tree
use Rattle.request_codec.specs.Call.{Call}
use Rattle.request_codec.specs.Start.{Begun, leaf, list_of, map_of}
use Rattle.request_codec.specs.declared.fault.CodecFault.{CodecFault}
use Rattle.request_codec.specs.declared.fault.CodecFault.TheVariants as faults

-- a text, or bytes, behind their length
abbrev pub text_spelling : List ℕ → List ℕ
text_spelling s = to_be_bytes w32 (length s) ++ s

unfoldable mutual
  -- the spelling of each value that has one
  pub spelling : Tree → List ℕ
  spelling null = 0 ∷ []
  spelling (truth b) = (if b then 2 else 1) ∷ []
  spelling (integer i) = 3 ∷ to_be_bytes w64 (cast_unsigned w64 i)
  spelling (text s) = 4 ∷ text_spelling s
  spelling (list vs) = 5 ∷ (to_be_bytes w32 (members_count vs) ++ members_spelling vs)
  spelling (map fs) = 6 ∷ (to_be_bytes w32 (fields_count fs) ++ fields_spelling fs)
  spelling (tree.bytes b) = 7 ∷ text_spelling b

  pub members_spelling : Members → List ℕ
  members_spelling no_members = []
  members_spelling (member v vs) = spelling v ++ members_spelling vs

  pub fields_spelling : Fields → List ℕ
  fields_spelling no_fields = []
  fields_spelling (field n v fs) = text_spelling n ++ (spelling v ++ fields_spelling fs)

-- the message, in the form of this version, of a call that has one
abbrev pub versioned_spelling : ℕ → Call → List ℕ
versioned_spelling version call = version ∷ (text_spelling call.method ++ spelling call.argument)

-- the message of a call that has one
abbrev pub message_spelling : Call → List ℕ
message_spelling = versioned_spelling message_version

-- the same in the form before
abbrev pub old_spelling : Call → List ℕ
old_spelling = versioned_spelling old_version

abbrev pub start_spelling : Begun → List ℕ
start_spelling (leaf v) = spelling v
start_spelling (list_of n) = 5 ∷ to_be_bytes w32 n
start_spelling (map_of n) = 6 ∷ to_be_bytes w32 n

-- The bytes stand at the end of new, or there is no room for them, or there is no memory.
abbrev pub Puts : ℕ → List ℕ → List ℕ → Result ⊤ CodecFault → List ℕ → Type 0
Puts limit old new (Ok u) bytes = (new ≡ old ++ bytes) × (length new ≤ limit)
Puts limit old new (Err faults.TooLong) bytes = limit < length old + length bytes
Puts limit old new (Err faults.Memory) bytes = Unit {0}
Puts limit old new (Err faults.TooDeep) bytes = ⊥
Puts limit old new (Err faults.NotWhole) bytes = ⊥
Puts limit old new (Err faults.NotHex) bytes = ⊥
Puts limit old new (Err faults.NotAMessage) bytes = ⊥

-- The answer's items are the bytes, if they fit below the limit.
abbrev pub WritesAll : ℕ → Result (Vec ℕ Global) CodecFault → List ℕ → Type 0
WritesAll limit (Ok out) bytes = (out.items ≡ bytes) × (length bytes ≤ limit)
WritesAll limit (Err faults.TooLong) bytes = limit < length bytes
WritesAll limit (Err faults.Memory) bytes = Unit {0}
WritesAll limit (Err faults.TooDeep) bytes = ⊥
WritesAll limit (Err faults.NotWhole) bytes = ⊥
WritesAll limit (Err faults.NotHex) bytes = ⊥
WritesAll limit (Err faults.NotAMessage) bytes = ⊥
