-- A text that begins no object, or that is no JSON, is no request.
use Rattle.std.proofs.Common.{◌≡◌, ℕ, false, List, [], ◌∷◌, Option, Some, None, option_map, option_and_then, refl, ap, ◌∙◌, arith}
use Rattle.json.specs.Token.{Token}
use Rattle.json.specs.Json as json
use Rattle.json.specs.Json.{parse_map, items, value, skip_value}
use Rattle.json.specs.Lex.{tokens}
use Rattle.json.proofs.Grammar.{value_is, value-begin_array}
use Rattle.serde_json.specs.Data.{Data, null, boolean, number, string, array, object}
use Rattle.serde_json.specs.Find.{as_object}
use Rattle.serde_json.specs.Read.{of_json, of_items, number_of, read}
use Rattle.silo_event.specs.declared.step.Step.{Step}
use Rattle.line_parser.specs.Form.{step_of_json}
use Rattle.line_parser.specs.inside.LineMembers.{begins_object, asked_by}
use Rattle.line_parser.proofs.GrammarLoops.{whole}

pub no_form : (d : Data) → as_object d ≡ None → step_of_json d ≡ None
unfolding step_of_json
no_form null e = refl
no_form (boolean b) e = refl
no_form (number n) e = refl
no_form (string s) e = refl
no_form (array ds) e = refl
no_form (object ms) e = absurd (cc)

if_read : {A : Type 0} (f : A → Data) → ((a : A) → as_object (f a) ≡ None) → (o : Option A) → option_and_then step_of_json (option_map f o) ≡ None
if_read f none None = refl
if_read f none (Some a) = no_form (f a) (none a)

abbrev pub asked : Option (json.Json × List Token) → Option Step
asked o = option_and_then step_of_json (whole o)

if_alone : (j : json.Json) (ts : List Token) → option_and_then step_of_json (of_json j) ≡ None → asked (Some (j, ts)) ≡ None
if_alone j [] h = h
if_alone j (t ∷ ts) h = refl

no_list : (o : Option (json.Items × List Token)) → asked (parse_map json.array o) ≡ None
no_list None = refl
no_list (Some p) = if_alone (json.array p.0) p.1 (if_read array (λ a. refl) (of_items p.0))

pub asked_by-no_object : (ts : List Token) → begins_object ts ≡ false → asked_by ts ≡ None
asked_by-no_object [] e = ap asked (value_is 127 [])
asked_by-no_object (Token.begin_object ∷ ts) e = absurd (cc)
asked_by-no_object (Token.end_object ∷ ts) e = ap asked (value_is 127 (Token.end_object ∷ ts))
asked_by-no_object (Token.begin_array ∷ ts) e = ap asked (value-begin_array 127 ts (omega arith)) ∙ no_list (items (value 126) _ ts)
asked_by-no_object (Token.end_array ∷ ts) e = ap asked (value_is 127 (Token.end_array ∷ ts))
asked_by-no_object (Token.key s ∷ ts) e = ap asked (value_is 127 (Token.key s ∷ ts))
asked_by-no_object (Token.string s ∷ ts) e = ap asked (value_is 127 (Token.string s ∷ ts)) ∙ if_alone (json.string s) ts (no_form (string s) refl)
asked_by-no_object (Token.number s ∷ ts) e = ap asked (value_is 127 (Token.number s ∷ ts)) ∙ if_alone (json.number s) ts (if_read number (λ n. refl) (number_of s))
asked_by-no_object (Token.boolean b ∷ ts) e = ap asked (value_is 127 (Token.boolean b ∷ ts)) ∙ if_alone (json.boolean b) ts (no_form (boolean b) refl)
asked_by-no_object (Token.null ∷ ts) e = ap asked (value_is 127 (Token.null ∷ ts)) ∙ if_alone json.null ts (no_form null refl)
asked_by-no_object (Token.bad ∷ ts) e = ap asked (value_is 127 (Token.bad ∷ ts))

-- ---- a text that is no JSON

none_left : (o : Option (json.Json × List Token)) → option_map (λ p. p.1) o ≡ None → o ≡ None
none_left None e = refl
none_left (Some p) e = absurd (cc)

pub no_json : (text : List ℕ) → skip_value 127 (tokens text) ≡ None → read text ≡ None
no_json text e = ap whole (none_left (value 127 (tokens text)) e)
