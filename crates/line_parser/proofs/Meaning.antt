-- What a line that has bytes says.
use Rattle.std.proofs.Common.{◌≡◌, ◌<◌, ◌≤◌, ℕ, List, [], ◌∷◌, length, Bool, true, false, cond, Some, None, refl, ap, sym, ◌∙◌, arith, nat_lt, ◌==◌, true≢false}
use Rattle.std.specs.Prelude.{option_and_then, IsUtf8}
use Rattle.std.specs.Str.{is_utf8}
use Rattle.std.proofs.lemmas.Bool.Decides.{nat_tests}
use Rattle.std.proofs.lemmas.Str.{IsUtf8-from_is_utf8, is_utf8-from_IsUtf8}
use Rattle.serde_json.specs.Data.{Data}
use Rattle.serde_json.specs.Read.{read}
use Rattle.line_parser.specs.Form.{step_of_json}
use Rattle.line_parser.specs.Meaning.{line_limit, json_of_line, meaning_by, meaning_of}
use Rattle.line_parser.specs.declared.line.Line.{Line}
use Rattle.line_parser.specs.declared.line.Line.TheVariants as line
use Rattle.line_parser.specs.declared.line.LineRefusal.TheVariants as refusal

-- under a limit on its length
abbrev pub said_under : ℕ → List ℕ → Line
said_under limit [] = line.Nothing
said_under limit (b ∷ bytes) = cond (nat_lt limit (length (b ∷ bytes))) (line.Refusal refusal.TooLong) (meaning_by (option_and_then step_of_json (json_of_line (b ∷ bytes))))

pub meaning_of-under : (bytes : List ℕ) → meaning_of bytes ≡ said_under line_limit bytes
unfolding meaning_of
meaning_of-under [] = refl
meaning_of-under (b ∷ bytes) = refl

some_bytes : (bytes : List ℕ) {b : Bool} → b ≡ (length bytes == 0) → b ≡ false → 0 < length bytes
some_bytes [] test is = absurd (true≢false (sym test ∙ is))
some_bytes (b ∷ bytes) test is = omega arith

-- what is no UTF-8, or is no JSON, has no JSON
json_none : (bytes : List ℕ) (b : Bool) → is_utf8 bytes ≡ b → (IsUtf8 bytes → read bytes ≡ None) → cond b (read bytes) None ≡ None
json_none bytes true e h = h (IsUtf8-from_is_utf8 bytes e)
json_none bytes false e h = refl

pub json_of_line_none : (bytes : List ℕ) → (IsUtf8 bytes → read bytes ≡ None) → json_of_line bytes ≡ None
json_of_line_none bytes h = json_none bytes (is_utf8 bytes) refl h

pub json_of_line_some : (bytes : List ℕ) (d : Data) → IsUtf8 bytes → read bytes ≡ Some d → json_of_line bytes ≡ Some d
json_of_line_some bytes d u e = let is : is_utf8 bytes ≡ true = is_utf8-from_IsUtf8 bytes u in ap (λ b. cond b (read bytes) None) is ∙ e

within : (limit : ℕ) (bytes : List ℕ) → 0 < length bytes → length bytes ≤ limit → said_under limit bytes ≡ meaning_by (option_and_then step_of_json (json_of_line bytes))
within limit [] h le = absurd (omega arith)
within limit (b ∷ bytes) h le =
    let short : nat_lt limit (length (b ∷ bytes)) ≡ false = grind (arith, nat_tests) in
    ap (λ t. cond t (line.Refusal refusal.TooLong) (meaning_by (option_and_then step_of_json (json_of_line (b ∷ bytes))))) short

-- by the code's own test of whether there are bytes
pub said_of_asked : (bytes : List ℕ) {b : Bool} → b ≡ (length bytes == 0) → b ≡ false → length bytes ≤ line_limit → meaning_of bytes ≡ meaning_by (option_and_then step_of_json (json_of_line bytes))
said_of_asked bytes test is le = meaning_of-under bytes ∙ within line_limit bytes (some_bytes bytes test is) le

-- a line above the limit
pub long_under : (limit : ℕ) (bytes : List ℕ) → limit < length bytes → said_under limit bytes ≡ line.Refusal refusal.TooLong
long_under limit [] h = absurd (omega arith)
long_under limit (b ∷ bytes) h =
    let long : nat_lt limit (length (b ∷ bytes)) ≡ true = grind (arith, nat_tests) in
    ap (λ t. cond t (line.Refusal refusal.TooLong) (meaning_by (option_and_then step_of_json (json_of_line (b ∷ bytes))))) long

pub said_of_long : (bytes : List ℕ) → line_limit < length bytes → meaning_of bytes ≡ line.Refusal refusal.TooLong
said_of_long bytes h = meaning_of-under bytes ∙ long_under line_limit bytes h

pub said_of_empty : (bytes : List ℕ) {b : Bool} → b ≡ (length bytes == 0) → b ≡ true → meaning_of bytes ≡ line.Nothing
said_of_empty [] test is = meaning_of-under []
said_of_empty (b ∷ bytes) test is = absurd (let none : length (b ∷ bytes) ≡ 0 = grind (arith, nat_tests) in omega (arith, none))

-- what a line says whose bytes are a text, by its tokens
pub said_of_text : (bytes text : List ℕ) {b : Bool} → (text ≡ bytes) × IsUtf8 bytes → b ≡ (length bytes == 0) → b ≡ false → length bytes ≤ line_limit → meaning_of text ≡ meaning_by (option_and_then step_of_json (read text))
said_of_text bytes text same test is le =
    let json = ap (λ b. cond b (read bytes) None) (is_utf8-from_IsUtf8 bytes same.1) in
    ap meaning_of same.0 ∙ said_of_asked bytes test is le ∙ ap (λ o. meaning_by (option_and_then step_of_json o)) (json ∙ ap read (sym same.0))
