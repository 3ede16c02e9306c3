-- What is put for an argument: the bytes of the value that serde_json reads from the tokens, and what is noted of it.
use Rattle.std.specs.Prelude.{◌≡◌, ℕ, ◌+◌, ◌<◌, ◌≤◌, Bool, true, false, ◌||◌, nat_lt, List, ◌∷◌, ◌++◌, length, Option, Some, None, bytes_eq}
use Rattle.std.specs.Int.{w32, to_be_bytes}
use Rattle.json.specs.Token.{Token, begin_object, end_object, key as key_token}
use Rattle.json.specs.Json.{value, items, members}
use Rattle.serde_json.specs.Data.{Data, Items, Members, no_members}
use Rattle.serde_json.specs.Read.{of_json, of_items, of_members, converted}
use Rattle.request_codec.specs.Tree.{members_count, fields_count}
use Rattle.request_codec.specs.Json.{hex_name, hex_of, json_depth, items_depth, json_members_depth}
use Rattle.request_codec.specs.Json.{is_not_whole, are_not_whole, fields_not_whole}
use Rattle.request_codec.specs.Formed.{IsFormed, AreFormed, FieldsFormed}
use Rattle.silo_event.specs.declared.refusal.Refusal.{Refusal}
use Rattle.silo_event.specs.declared.refusal.Refusal.TheVariants as refusal
use Rattle.request_codec.specs.Lenient.{lenient_value, lenient_members, lenient_fields, is_not_hex, are_not_hex, fields_not_hex}
use Rattle.line_parser.specs.declared.faults.Faults.{Faults}
use Rattle.request_codec.specs.Written.{spelling, members_spelling, fields_spelling}

-- the depth of the reader at which an argument would be deeper than 32 levels
abbrev pub too_deep : ℕ
too_deep = 94

-- whether JSON of so many levels is too deep if it is read at that depth
abbrev pub is_deep : ℕ → ℕ → Bool
is_deep depth levels = nat_lt depth (levels + too_deep)

-- What was noted before is noted still, and these two with it: that it is too deep, and that a number isn't whole.
pub record AddsFaults (old new : Faults) (deep not_whole : Bool) : Type 0 where
  pub depth : new.too_deep ≡ (old.too_deep || deep)
  pub numbers : new.not_whole ≡ (old.not_whole || not_whole)

-- why a value is refused if it is too deep, and if a number of it isn't whole
abbrev pub why_by : Bool → Bool → Option Refusal
why_by true not_whole = Some refusal.TooDeep
why_by false true = Some refusal.NotWhole
why_by false false = None

-- why a value is refused, by what was noted of it
abbrev pub why_of : Faults → Option Refusal
why_of f = why_by f.too_deep f.not_whole

-- Of the tokens `old` a value was read, `new` is left, the value's bytes were put at the end, and its faults were noted.
-- Nothing of it is bytes that aren't well formed.
pub record PutsValue (depth : ℕ) (old new : List Token) (before after : List ℕ) (noted_before noted_after : Faults) : Type 0 where
  pub json : Data
  pub plain : is_not_hex json ≡ false
  pub read : converted of_json (value depth old) ≡ Some (json, new)
  pub formed : IsFormed (lenient_value json)
  pub noted : AddsFaults noted_before noted_after (is_deep depth (json_depth json)) (is_not_whole json)
  pub bytes : after ≡ before ++ spelling (lenient_value json)
  pub shorter : length new < length old

-- The same of a list's items, and of its count; the depth is that of an item.
pub record PutsItems (depth : ℕ) (old new : List Token) (before after : List ℕ) (noted_before noted_after : Faults) : Type 0 where
  pub json : Items
  pub plain : are_not_hex json ≡ false
  pub read : converted of_items (items (value depth) (length old) old) ≡ Some (json, new)
  pub formed : AreFormed (lenient_members json)
  pub noted : AddsFaults noted_before noted_after (is_deep depth (items_depth json)) (are_not_whole json)
  pub bytes : after ≡ before ++ (5 ∷ (to_be_bytes w32 (members_count (lenient_members json)) ++ members_spelling (lenient_members json)))
  pub shorter : length new ≤ length old

-- The same of a map's fields. The map isn't one that stands for bytes: such a line is left.
pub record PutsFields (depth : ℕ) (old new : List Token) (before after : List ℕ) (noted_before noted_after : Faults) : Type 0 where
  pub json : Members
  pub no_bytes : hex_of json ≡ None
  pub plain : fields_not_hex json ≡ false
  pub read : converted (λ ms. of_members ms no_members) (members (value depth) (length old) old) ≡ Some (json, new)
  pub formed : FieldsFormed (lenient_fields json)
  pub noted : AddsFaults noted_before noted_after (is_deep depth (json_members_depth json)) (fields_not_whole json)
  pub bytes : after ≡ before ++ (6 ∷ (to_be_bytes w32 (fields_count (lenient_fields json)) ++ fields_spelling (lenient_fields json)))
  pub shorter : length new ≤ length old

-- Of the tokens `old` a value of one level was read, `new` is left, and these are its bytes: nothing of it is refused.
abbrev pub ReadsPlain : List Token → List Token → List ℕ → Type 0
ReadsPlain old new bytes = (depth : ℕ) (before after : List ℕ) (first last : Faults) → AddsFaults first last (is_deep depth 1) false
    → after ≡ before ++ bytes → PutsValue depth old new before after first last

-- Of the tokens `old` a map was read that has one field, of that name and of such a value, and doesn't stand for bytes.
pub record IsField (old new : List Token) (name bytes : List ℕ) : Type 0 where
  pub begun : List Token
  pub behind : List Token
  pub left : List Token
  pub begins : old ≡ begin_object ∷ begun
  pub key : begun ≡ key_token name ∷ behind
  pub reads : ReadsPlain behind left bytes
  pub over : left ≡ end_object ∷ new
  pub other : bytes_eq name hex_name ≡ false
