-- How far the members of a line's object were read.
use Rattle.std.specs.Prelude.{◌≡◌, ℕ, ◌+◌, ◌≤◌, List, length, Some}
use Rattle.json.specs.Token.{Token}
use Rattle.json.specs.Json.{value, members, read_key}
use Rattle.serde_json.specs.Data.{Members, no_members}
use Rattle.serde_json.specs.Read.{of_members, converted}
use Rattle.line_parser.specs.inside.LineMembers.{name_text, HoldsLineMembers, TakesMember}
use Rattle.line_parser.specs.declared.line_members.Name.{Name}
use Rattle.line_parser.specs.declared.line_members.LineMembers.{LineMembers}

-- Of the object whose tokens are `initial` all before `now` is read, and kept.
pub record MembersRead (initial now : List Token) (line : LineMembers) (bytes : List ℕ) : Type 0 where
  pub found : Members
  pub turns : ℕ
  pub enough : length now ≤ turns
  pub read : converted (λ ms. of_members ms no_members) (members (value 126) (length initial) initial)
      ≡ converted (λ ms. of_members ms found) (members (value 126) turns now)
  pub holds : HoldsLineMembers found line bytes

-- The first value is one for that member, which wasn't there; it is counted next.
abbrev pub TakesUncounted : Name → List Token → List Token → LineMembers → List ℕ → LineMembers → List ℕ → Type 0
TakesUncounted name old new members_old bytes_old members_new bytes_new =
    (count : ℕ) → count ≡ members_old.count + 1
    → TakesMember name old new members_old bytes_old (record members_new { count = count }) bytes_new

-- One member was passed, whatever bytes are kept beside.
pub record PassesMember (old new : List Token) (members_old members_new : LineMembers) : Type 0 where
  pub name : Name
  pub behind : List Token
  pub key : read_key old ≡ Some (Some (name_text name), behind)
  pub takes : (l : List ℕ) → TakesMember name behind new members_old l members_new l
