-- A line of a form that names a grain and no client, spelled plainly.
use Rattle.std.specs.Prelude.{◌≡◌, ℕ, List, [], ◌∷◌, Option, Some, None}
use Rattle.json.specs.Token.{Token, begin_object, end_object, key, string}
use Rattle.line_parser.specs.inside.LineMembers.{name_text, IsNatural}
use Rattle.line_parser.specs.inside.Step.{form_text}
use Rattle.line_parser.specs.declared.line_members.Name.TheVariants.{Op, Grain, Turn}
use Rattle.line_parser.specs.declared.short_line.ShortLine.{ShortLine}

-- the object ends, and the line with it, maybe behind the turn's number
abbrev pub EndsWithTurn : Option ℕ → List Token → Type 0
EndsWithTurn None ts = ts ≡ end_object ∷ []
EndsWithTurn (Some n) ts = (behind : List Token) × (ts ≡ key (name_text Turn) ∷ behind) × IsNatural behind n (end_object ∷ [])

-- how many members such a line has
abbrev pub short_count : Option ℕ → ℕ
short_count None = 2
short_count (Some n) = 3

-- the tokens are those of such a line
pub record IsShort (ts : List Token) (line : ShortLine) : Type 0 where
  pub behind : List Token
  pub begins : ts ≡ begin_object ∷ key (name_text Op) ∷ string (form_text line.form)
      ∷ key (name_text Grain) ∷ string line.grain.now ∷ behind
  pub ends : EndsWithTurn line.turn behind
