-- The value of JSON part by part, with null for each number that isn't a whole number of 64 bits, and for bytes that aren't well formed.
use Rattle.std.specs.Prelude.{ℕ, ℤ, List, Bool, false, ◌||◌, Option, Some, None, is_none, String, string_bytes}
use Rattle.std.specs.declared.alloc.Global.{Global}
use Rattle.serde_json.specs.Data as json
use Rattle.serde_json.specs.Find.{as_i64}
use Rattle.serde_json.specs.View.{view}
use Rattle.serde_json.specs.declared.value.Value.{Value}
use Rattle.request_codec.specs.inside.Build.{Named}
use Rattle.request_codec.specs.Tree as tree
use Rattle.request_codec.specs.Tree.{Tree, null, truth, integer, text, list, map, Members, no_members, member, Fields, no_fields, field}
use Rattle.request_codec.specs.Json.{hex_of, hex_bytes, by_hex}

abbrev pub integer_or_null : Option ℤ → Tree
integer_or_null (Some i) = integer i
integer_or_null None = null

abbrev pub bytes_or_null : Option (List ℕ) → Tree
bytes_or_null (Some b) = tree.bytes b
bytes_or_null None = null

abbrev mutual
  pub lenient_value : json.Data → Tree
  lenient_value json.null = null
  lenient_value (json.boolean b) = truth b
  lenient_value (json.number n) = integer_or_null (as_i64 n)
  lenient_value (json.string s) = text s
  lenient_value (json.array ds) = list (lenient_members ds)
  lenient_value (json.object ms) = by_hex (hex_of ms) (λ d. bytes_or_null (hex_bytes d)) (map (lenient_fields ms))

  pub lenient_members : json.Items → Members
  lenient_members json.no_items = no_members
  lenient_members (json.item d ds) = member (lenient_value d) (lenient_members ds)

  pub lenient_fields : json.Members → Fields
  lenient_fields json.no_members = no_fields
  lenient_fields (json.member n d ms) = field n (lenient_value d) (lenient_fields ms)

-- what is shown of JSON in memory, and of a member beside its name
abbrev pub json_value : Value → Tree
json_value v = lenient_value (view v)

abbrev pub json_entry : String Global × Value → Named
json_entry e = (string_bytes e.0, json_value e.1)

-- whether bytes of it aren't well formed
abbrev mutual
  pub is_not_hex : json.Data → Bool
  is_not_hex json.null = false
  is_not_hex (json.boolean b) = false
  is_not_hex (json.number n) = false
  is_not_hex (json.string s) = false
  is_not_hex (json.array ds) = are_not_hex ds
  is_not_hex (json.object ms) = by_hex (hex_of ms) (λ d. is_none (hex_bytes d)) (fields_not_hex ms)

  pub are_not_hex : json.Items → Bool
  are_not_hex json.no_items = false
  are_not_hex (json.item d ds) = is_not_hex d || are_not_hex ds

  pub fields_not_hex : json.Members → Bool
  fields_not_hex json.no_members = false
  fields_not_hex (json.member n d ms) = is_not_hex d || fields_not_hex ms
