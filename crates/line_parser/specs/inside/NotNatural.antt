-- A line whose last member is one for which a whole number from 0 up is asked, and that has another value.
use Rattle.std.specs.Prelude.{◌≡◌, ◌<◌, ℕ, ◌+◌, List, [], ◌∷◌, length, Option, Some, None, option_and_then}
use Rattle.json.specs.Token.{Token}
use Rattle.json.specs.Json.{value, if_last, read_key}
use Rattle.serde_json.specs.Data.{Data, Members, object, put}
use Rattle.serde_json.specs.Find.{as_number, as_i64}
use Rattle.serde_json.specs.Read.{of_json, converted}
use Rattle.line_parser.specs.Form.{◌>>=◌, natural}
use Rattle.line_parser.specs.inside.LineMembers.{name_text, HoldsLineMembers}
use Rattle.line_parser.specs.declared.line_members.Name.{Name}
use Rattle.line_parser.specs.declared.line_members.Name.TheVariants.{Op, From, Id, Grain, Method, Turn, Now, Failed, Args, State}
use Rattle.line_parser.specs.declared.line_members.LineMembers.{LineMembers}

-- the member's slot is one for a number, and empty
abbrev pub IsUnset : Name → LineMembers → Type 0
IsUnset Id s = s.id ≡ None
IsUnset Turn s = s.turn ≡ None
IsUnset Now s = s.moment ≡ None
IsUnset Op s = ⊥
IsUnset From s = ⊥
IsUnset Grain s = ⊥
IsUnset Method s = ⊥
IsUnset Failed s = ⊥
IsUnset Args s = ⊥
IsUnset State s = ⊥

-- JSON that is no whole number from 0 up
abbrev pub NoNatural : Data → Type 0
NoNatural json = (as_number json >>= λ n. as_i64 n >>= natural) ≡ None

-- The token is a value of its own, and no such number.
pub record IsNotNatural (t : Token) : Type 0 where
  pub json : Data
  pub read : (ts : List Token) → converted of_json (value 126 (t ∷ ts)) ≡ Some (json, ts)
  pub none : NoNatural json

-- The tokens are such a value, behind which the object ends, and nothing follows.
pub record EndsNotNatural (ts : List Token) : Type 0 where
  pub json : Data
  pub rest : List Token
  pub read : converted of_json (value 126 ts) ≡ Some (json, rest)
  pub none : NoNatural json
  pub shorter : length rest < length ts
  pub over : read_key rest ≡ Some (None, [])

-- The tokens are one object, whose members went to their slots, but for the last, whose value is no number for its own.
pub record HasNotNatural (ts : List Token) (s : LineMembers) : Type 0 where
  pub line : LineMembers
  pub found : Members
  pub holds : HoldsLineMembers found line []
  pub name : Name
  pub unset : IsUnset name line
  pub json : Data
  pub none : NoNatural json
  pub read : option_and_then of_json (option_and_then (λ p. if_last p.0 p.1) (value 127 ts))
      ≡ Some (object (put (name_text name) json found))
  pub count : ℕ
  pub more : count ≡ line.count + 1
  pub is : s ≡ record line { count = count }
