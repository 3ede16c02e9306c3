-- What the calls of this crate answer, by the fault that each may have.
use Rattle.std.specs.Prelude.{◌≡◌, ℕ, ◌<◌, ◌≤◌, ◌+◌, nat_lt, if◌then◌else◌, List, length, Option, Some, None, ok_or, Result, Ok, Err}
use Rattle.serde_json.specs.Data as json
use Rattle.request_codec.specs.Limits.{depth_limit, message_limit}
use Rattle.request_codec.specs.Tree as tree
use Rattle.request_codec.specs.Tree.{Tree, depth, null, truth, integer, text, list, map, Members, no_members, member, Fields, no_fields}
use Rattle.request_codec.specs.Tree.{field}
use Rattle.request_codec.specs.Json.{value_of_json, json_depth, is_not_whole}
use Rattle.request_codec.specs.Call.{Call, asks}
use Rattle.request_codec.specs.declared.fault.CodecFault.{CodecFault}
use Rattle.request_codec.specs.declared.fault.CodecFault.TheVariants as faults

-- how many bytes spell the value
abbrev mutual
  pub spelled_length : Tree → ℕ
  spelled_length null = 1
  spelled_length (truth b) = 1
  spelled_length (integer i) = 9
  spelled_length (text s) = 5 + length s
  spelled_length (list vs) = 5 + members_length vs
  spelled_length (map fs) = 5 + fields_length fs
  spelled_length (tree.bytes b) = 5 + length b

  pub members_length : Members → ℕ
  members_length no_members = 0
  members_length (member v vs) = spelled_length v + members_length vs

  pub fields_length : Fields → ℕ
  fields_length no_fields = 0
  fields_length (field n v fs) = 4 + length n + (spelled_length v + fields_length fs)

-- how many bytes spell the call
abbrev pub message_length : List ℕ → Tree → ℕ
message_length method v = 5 + length method + spelled_length v

-- The answer, seen by view, is what the bytes spell, where they spell something; and NotAMessage exactly where they spell nothing.
abbrev pub Reads : {X A : Type 0} → (X → A) → Result X CodecFault → Option A → Type 0
Reads view (Ok x) found = found ≡ Some (view x)
Reads view (Err faults.NotAMessage) found = found ≡ None
Reads view (Err faults.TooDeep) found = ⊥
Reads view (Err faults.TooLong) found = ⊥
Reads view (Err faults.NotWhole) found = ⊥
Reads view (Err faults.NotHex) found = ⊥
Reads view (Err faults.Memory) found = Unit {0}

-- The answer is the value handed in, where it keeps the limits; too deep comes before too long.
abbrev pub Writes : {A : Type 0} → Result A CodecFault → A → Tree → ℕ → ℕ → Type 0
Writes (Ok x) written v len limit = (x ≡ written) × (depth v ≤ depth_limit) × (len ≤ limit)
Writes (Err faults.TooDeep) written v len limit = depth_limit < depth v
Writes (Err faults.TooLong) written v len limit = (depth v ≤ depth_limit) × (limit < len)
Writes (Err faults.NotWhole) written v len limit = ⊥
Writes (Err faults.NotHex) written v len limit = ⊥
Writes (Err faults.NotAMessage) written v len limit = ⊥
Writes (Err faults.Memory) written v len limit = Unit {0}

-- The value of JSON, or why it has none: too deep comes first, then a number that isn't a whole number of 64 bits, then bytes that aren't
-- well formed.
abbrev pub read_json : json.Data → Result Tree CodecFault
read_json d =
    if nat_lt depth_limit (json_depth d) then Err faults.TooDeep
    else if is_not_whole d then Err faults.NotWhole
    else ok_or (value_of_json d) faults.NotHex

-- The answer, seen by view, is the JSON's value, or why it has none.
abbrev pub Converts : {X : Type 0} → (X → Tree) → Result X CodecFault → json.Data → Type 0
Converts view (Ok x) d = read_json d ≡ Ok (view x)
Converts view (Err faults.TooDeep) d = read_json d ≡ Err faults.TooDeep
Converts view (Err faults.NotWhole) d = read_json d ≡ Err faults.NotWhole
Converts view (Err faults.NotHex) d = read_json d ≡ Err faults.NotHex
Converts view (Err faults.TooLong) d = ⊥
Converts view (Err faults.NotAMessage) d = ⊥
Converts view (Err faults.Memory) d = Unit {0}

-- The answer is the message of the method and the JSON's value; why it has none comes before too long.
abbrev pub WritesJson : Result Call CodecFault → List ℕ → json.Data → Type 0
WritesJson (Ok m) method d = (v : Tree) × (read_json d ≡ Ok v) × (m ≡ asks method v) × (message_length method v ≤ message_limit)
WritesJson (Err faults.TooDeep) method d = read_json d ≡ Err faults.TooDeep
WritesJson (Err faults.NotWhole) method d = read_json d ≡ Err faults.NotWhole
WritesJson (Err faults.NotHex) method d = read_json d ≡ Err faults.NotHex
WritesJson (Err faults.TooLong) method d = (v : Tree) × (read_json d ≡ Ok v) × (message_limit < message_length method v)
WritesJson (Err faults.NotAMessage) method d = ⊥
WritesJson (Err faults.Memory) method d = Unit {0}
