-- A text whose object breaks off, has a member that no form has, or is followed by anything, is no request.
use Rattle.std.proofs.Common.{◌≡◌, ◌≢◌, ◌<◌, List, [], ◌∷◌, length, ℕ, Option, Some, None, option_map, option_and_then, refl, sym, ap, ◌∙◌, arith}
use Rattle.json.specs.Token.{Token, begin_object}
use Rattle.json.specs.Json as json
use Rattle.json.specs.Json.{value, members, parse_map, read_key}
use Rattle.json.proofs.Grammar.{read_key-shorter, value-begin_object, members_no_key}
use Rattle.serde_json.specs.Data.{Members, no_members, object}
use Rattle.serde_json.specs.Read.{of_members, converted}
use Rattle.line_parser.specs.Form.{step_of_json}
use Rattle.line_parser.specs.inside.LineMembers.{named, asked_by}
use Rattle.line_parser.specs.declared.line_members.LineMembers.{LineMembers}
use Rattle.line_parser.proofs.ItemsRead.{MembersRead}
use Rattle.line_parser.proofs.GrammarLoops.{members_over}
use Rattle.line_parser.proofs.OtherMembers.{other_stays, no_step}
use Rattle.line_parser.proofs.NoObject.{asked}

abbrev rest_of : Option (Members × List Token) → List Token
rest_of None = []
rest_of (Some p) = p.1

-- whatever object is read to the end of the text, it is no form's
abbrev NoForm : Option (Members × List Token) → Type 0
NoForm o = (found : Members) → o ≡ Some (found, []) → step_of_json (object found) ≡ None

last_read : (o : Option Members) → NoForm (option_map (λ b. (b, [])) o) → option_and_then step_of_json (option_map object o) ≡ None
last_read None h = refl
last_read (Some found) h = h found refl

no_form : (o : Option (json.Members × List Token)) → NoForm (converted (λ ms. of_members ms no_members) o) → asked (parse_map json.object o) ≡ None
no_form None h = refl
no_form (Some (ms, [])) h = last_read (of_members ms no_members) h
no_form (Some (ms, t ∷ ts)) h = refl

module _ (initial ts : List Token) (line : LineMembers) (bytes : List ℕ) (all : List Token) (first : all ≡ begin_object ∷ initial) (m : MembersRead initial ts line bytes) where
  -- what is left of the members
  abbrev left : Option (Members × List Token)
  left = converted (λ ms. of_members ms m.found) (members (value 126) m.turns ts)

  none_asked : NoForm left → asked_by all ≡ None
  none_asked none =
      ap asked_by first ∙ ap asked (value-begin_object 127 initial (omega arith)) ∙ no_form (members (value 126) (length initial) initial) (λ found e. none found (sym m.read ∙ e))

  pub members_broken : read_key ts ≡ None → asked_by all ≡ None
  members_broken broken =
      let none : left ≡ None = ap (converted (λ ms. of_members ms m.found)) (members_no_key (value 126) m.turns ts broken) in
      none_asked (λ found e. absurd (cc))

  pub other_member : (k : List ℕ) (rest : List Token) → read_key ts ≡ Some (Some k, rest) → named k ≡ None → asked_by all ≡ None
  other_member k rest key other =
      let some : 0 < m.turns = omega (arith, m.enough, read_key-shorter ts (Some k) rest key) in
      none_asked (λ found e. no_step k found other (other_stays (value 126) m.turns k ts rest some key m.found found [] e))

  pub text_behind : (rest : List Token) → read_key ts ≡ Some (None, rest) → rest ≢ [] → asked_by all ≡ None
  text_behind rest over some = none_asked (λ found e. absurd (some (ap rest_of (sym (members_over (value 126) m.found m.turns ts rest m.enough over) ∙ e))))
