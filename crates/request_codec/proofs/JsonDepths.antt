-- What JSON shows is as deep as the JSON, and so is its value.
use Rattle.std.proofs.Common.{◌≡◌, ℤ, ℕ, suc, max, ◌≤◌, Option, Some, None, Ok, refl, sym, ap, ap₂, subst}
use Rattle.serde_json.specs.Data as json
use Rattle.serde_json.specs.Find.{as_i64}
use Rattle.request_codec.specs.Limits.{depth_limit}
use Rattle.request_codec.specs.Tree.{Tree, map, depth, members_depth, fields_depth}
use Rattle.request_codec.specs.Answers.{read_json}
use Rattle.request_codec.specs.Json.{hex_of, hex_bytes, by_hex, json_depth, items_depth, json_members_depth}
use Rattle.request_codec.specs.Lenient.{lenient_value, lenient_members, lenient_fields, integer_or_null, bytes_or_null}
use Rattle.request_codec.proofs.Digits.{digits_deep}
use Rattle.request_codec.proofs.JsonShown.{json_read}

number_deep : (o : Option ℤ) → depth (integer_or_null o) ≡ 1
number_deep (Some i) = refl
number_deep None = refl

object_deep : (o : Option json.Data) (v : Tree) (n : ℕ) → depth v ≡ n → depth (by_hex o (λ d. bytes_or_null (hex_bytes d)) v) ≡ by_hex o (λ d. 1) n
object_deep (Some d) v n e = digits_deep (hex_bytes d)
object_deep None v n e = e

mutual
  pub lenient_deep : (d : json.Data) → depth (lenient_value d) ≡ json_depth d
  lenient_deep json.null = refl
  lenient_deep (json.boolean b) = refl
  lenient_deep (json.number n) = number_deep (as_i64 n)
  lenient_deep (json.string s) = refl
  lenient_deep (json.array ds) = ap suc (members_deep ds)
  lenient_deep (json.object ms) = object_deep (hex_of ms) (map (lenient_fields ms)) (suc (json_members_depth ms)) (ap suc (fields_deep ms))

  members_deep : (ds : json.Items) → members_depth (lenient_members ds) ≡ items_depth ds
  members_deep json.no_items = refl
  members_deep (json.item d ds) = ap₂ max (lenient_deep d) (members_deep ds)

  fields_deep : (ms : json.Members) → fields_depth (lenient_fields ms) ≡ json_members_depth ms
  fields_deep json.no_members = refl
  fields_deep (json.member n d ms) = ap₂ max (lenient_deep d) (fields_deep ms)

pub lenient_within : (d : json.Data) → json_depth d ≤ depth_limit → depth (lenient_value d) ≤ depth_limit
lenient_within d deep = subst (λ (n : ℕ). n ≤ depth_limit) (sym (lenient_deep d)) deep

-- what was read is no deeper than the limit
pub within_depth : (d : json.Data) (v : Tree) → read_json d ≡ Ok v → depth v ≤ depth_limit
within_depth d v is =
    let read = json_read d v is in
    subst (λ (w : Tree). depth w ≤ depth_limit) read.value (lenient_within d read.deep)
