-- What is known of bytes that begin or end a token, and of what follows a value.
use Rattle.std.specs.Prelude.{◌≡◌, ◌<◌, ◌^◌, ℕ, List, [], ◌∷◌, ◌++◌, Bool, false, ◌||◌, ◌==◌, nat_le, Option, Some, None}
use Rattle.std.specs.Char.{is_ascii_digit}
use Rattle.json.specs.Token.{Token, number}
use Rattle.serde_json.specs.Data.{unsigned}
use Rattle.serde_json.specs.Read.{number_of}
use Rattle.line_parser.specs.inside.LineMembers.{name_text}
use Rattle.line_parser.specs.inside.Step.{form_text}
use Rattle.line_parser.specs.declared.line_members.Name.{Name}
use Rattle.line_parser.specs.declared.step.Form.{Form}
use Rattle.json.specs.Lex.{token, between, lex, after_value, begins_colon, punctuate, tokens}

-- a member's name with its quotes and its colon
abbrev pub name_spelling : Name → List ℕ
name_spelling name = 34 ∷ (name_text name ++ (34 ∷ 58 ∷ []))

-- a form's word with its quotes and the comma behind it
abbrev pub word_spelling : Form → List ℕ
word_spelling form = 34 ∷ (form_text form ++ (34 ∷ 44 ∷ []))

-- a text, digits, a list or a map begin with it
abbrev pub is_opener : ℕ → Bool
is_opener x = (x == 34) || (x == 123) || (x == 91) || is_ascii_digit x

-- a comma or a closing bracket
abbrev pub is_number_end : ℕ → Bool
is_number_end x = (x == 44) || (x == 125) || (x == 93)

-- Behind a value, `old` gives the tokens that `new` gives: a comma was passed, or there is none.
pub record PassesValue (old new : List ℕ) : Type 0 where
  pub no_colon : begins_colon (lex between old) ≡ false
  pub same : punctuate after_value (lex between old) ≡ tokens new

-- what json's reader has left, or what a text gives as long as there is no reader
abbrev pub tokens_left : Option (List Token) → List ℕ → List Token
tokens_left None text = tokens text
tokens_left (Some ts) text = ts

-- a byte that is no ASCII
abbrev pub is_high : ℕ → Bool
is_high x = nat_le 128 x

-- A number of few digits stands in front of `new`.
pub record CutsNatural (old : List ℕ) (n : ℕ) (new : List ℕ) : Type 0 where
  pub digits : List ℕ
  pub lexed : lex between old ≡ token (number digits) ∷ lex between new
  pub read : number_of digits ≡ Some (unsigned n)
  pub fits : n < 2 ^ 63
