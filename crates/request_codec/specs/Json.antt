-- Values and JSON. An object whose only name is `$hex` stands for bytes.
use Rattle.std.specs.Prelude.{◌≡◌, ℕ, suc, max, Bool, false, ◌||◌, is_none, if◌then◌else◌, List, bytes_eq, codes}
use Rattle.std.specs.Prelude.{Option, Some, None, option_map, option_and_then}
use Rattle.serde_json.specs.Data as json
use Rattle.serde_json.specs.Find.{of_integer, as_i64}
use Rattle.request_codec.specs.Tree as tree
use Rattle.request_codec.specs.Tree.{Tree, null, truth, integer, text, list, map, Members, no_members, member, Fields, no_fields, field}
use Rattle.request_codec.specs.Hex.{digits_of, bytes_of_digits}

-- the name that bytes stand beside
abbrev pub hex_name : List ℕ
hex_name = codes "$hex"

-- the JSON of a value
abbrev mutual
  pub json_of : Tree → json.Data
  json_of null = json.null
  json_of (truth b) = json.boolean b
  json_of (integer i) = json.number (of_integer i)
  json_of (text s) = json.string s
  json_of (list vs) = json.array (items_of vs)
  json_of (map fs) = json.object (json_members_of fs)
  json_of (tree.bytes b) = json.object (json.member hex_name (json.string (digits_of b)) json.no_members)

  pub items_of : Members → json.Items
  items_of no_members = json.no_items
  items_of (member v vs) = json.item (json_of v) (items_of vs)

  pub json_members_of : Fields → json.Members
  json_members_of no_fields = json.no_members
  json_members_of (field n v fs) = json.member n (json_of v) (json_members_of fs)

-- what stands beside `$hex`, where that is the only name
abbrev pub hex_of : json.Members → Option json.Data
hex_of json.no_members = None
hex_of (json.member n d json.no_members) = if bytes_eq n hex_name then Some d else None
hex_of (json.member n d (json.member m e ms)) = None

-- the bytes whose digits the JSON is
abbrev pub hex_bytes : json.Data → Option (List ℕ)
hex_bytes json.null = None
hex_bytes (json.boolean b) = None
hex_bytes (json.number n) = None
hex_bytes (json.string s) = bytes_of_digits s
hex_bytes (json.array ds) = None
hex_bytes (json.object ms) = None

-- of an object: by what stands beside `$hex`, or else as of any other
abbrev pub by_hex : {A : Type 0} → Option json.Data → (json.Data → A) → A → A
by_hex (Some d) beside other = beside d
by_hex None beside other = other

-- the value of JSON whose numbers are all whole numbers of 64 bits, and whose bytes are all well formed
abbrev mutual
  pub value_of_json : json.Data → Option Tree
  value_of_json json.null = Some null
  value_of_json (json.boolean b) = Some (truth b)
  value_of_json (json.number n) = option_map integer (as_i64 n)
  value_of_json (json.string s) = Some (text s)
  value_of_json (json.array ds) = option_map list (members_of_json ds)
  value_of_json (json.object ms) = by_hex (hex_of ms) (λ d. option_map tree.bytes (hex_bytes d)) (option_map map (fields_of_json ms))

  pub members_of_json : json.Items → Option Members
  members_of_json json.no_items = Some no_members
  members_of_json (json.item d ds) = option_and_then (λ v. option_map (member v) (members_of_json ds)) (value_of_json d)

  pub fields_of_json : json.Members → Option Fields
  fields_of_json json.no_members = Some no_fields
  fields_of_json (json.member n d ms) = option_and_then (λ v. option_map (field n v) (fields_of_json ms)) (value_of_json d)

-- how deep the value of JSON is, whatever its numbers and its bytes are
abbrev mutual
  pub json_depth : json.Data → ℕ
  json_depth json.null = 1
  json_depth (json.boolean b) = 1
  json_depth (json.number n) = 1
  json_depth (json.string s) = 1
  json_depth (json.array ds) = suc (items_depth ds)
  json_depth (json.object ms) = by_hex (hex_of ms) (λ d. 1) (suc (json_members_depth ms))

  pub items_depth : json.Items → ℕ
  items_depth json.no_items = 0
  items_depth (json.item d ds) = max (json_depth d) (items_depth ds)

  pub json_members_depth : json.Members → ℕ
  json_members_depth json.no_members = 0
  json_members_depth (json.member n d ms) = max (json_depth d) (json_members_depth ms)

-- whether a number of it isn't a whole number of 64 bits; what stands beside `$hex` is not looked at
abbrev mutual
  pub is_not_whole : json.Data → Bool
  is_not_whole json.null = false
  is_not_whole (json.boolean b) = false
  is_not_whole (json.number n) = is_none (as_i64 n)
  is_not_whole (json.string s) = false
  is_not_whole (json.array ds) = are_not_whole ds
  is_not_whole (json.object ms) = by_hex (hex_of ms) (λ d. false) (fields_not_whole ms)

  pub are_not_whole : json.Items → Bool
  are_not_whole json.no_items = false
  are_not_whole (json.item d ds) = is_not_whole d || are_not_whole ds

  pub fields_not_whole : json.Members → Bool
  fields_not_whole json.no_members = false
  fields_not_whole (json.member n d ms) = is_not_whole d || fields_not_whole ms

-- No map in the value has `$hex` as its only name. The JSON of such a map stands for bytes, or for nothing.
abbrev mutual
  pub HoldsNoHexMap : Tree → Type 0
  HoldsNoHexMap null = Unit {0}
  HoldsNoHexMap (truth b) = Unit {0}
  HoldsNoHexMap (integer i) = Unit {0}
  HoldsNoHexMap (text s) = Unit {0}
  HoldsNoHexMap (list vs) = MembersHoldNoHexMap vs
  HoldsNoHexMap (map fs) = (hex_of (json_members_of fs) ≡ None) × FieldsHoldNoHexMap fs
  HoldsNoHexMap (tree.bytes b) = Unit {0}

  pub MembersHoldNoHexMap : Members → Type 0
  MembersHoldNoHexMap no_members = Unit {0}
  MembersHoldNoHexMap (member v vs) = HoldsNoHexMap v × MembersHoldNoHexMap vs

  pub FieldsHoldNoHexMap : Fields → Type 0
  FieldsHoldNoHexMap no_fields = Unit {0}
  FieldsHoldNoHexMap (field n v fs) = HoldsNoHexMap v × FieldsHoldNoHexMap fs
