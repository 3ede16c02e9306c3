-- What is noted of a value while it is put.
use Rattle.std.proofs.Common.{◌≡◌, ℕ, suc, max, ◌+◌, ◌-◌, ◌<◌, ◌≤◌, Bool, true, false, ◌||◌, List, [], Option, sym, ap, subst, ◌∙◌, arith, ltb-true, ltb-false}
use Rattle.std.proofs.lemmas.Bool.Decides.{nat_tests}
use Rattle.serde_json.specs.Data as json
use Rattle.json.specs.Token.{Token}
use Rattle.std.proofs.Math.Bool.{or-false, or_assoc}
use Rattle.request_codec.specs.Formed.{IsFormed}
use Rattle.request_codec.specs.Written.{spelling}
use Rattle.silo_event.specs.declared.refusal.Refusal.{Refusal}
use Rattle.request_codec.specs.Json.{json_depth, is_not_whole}
use Rattle.request_codec.specs.Lenient.{lenient_value, is_not_hex}
use Rattle.request_codec.proofs.JsonShown.{read_deep, read_not_whole, read_whole}
use Rattle.line_parser.specs.Form.{as_told}
use Rattle.line_parser.specs.inside.Argument.{too_deep, is_deep, AddsFaults, PutsValue, why_by, why_of}
use Rattle.line_parser.specs.inside.LineMembers.{IsAsked, TakesValue}
use Rattle.line_parser.specs.declared.faults.Faults.{Faults}

-- ---- what is noted

pub adds_both : (first next last : Faults) (deep split deeper more : Bool) → AddsFaults first next deep split → AddsFaults next last deeper more → AddsFaults first last (deep || deeper) (split || more)
adds_both first next last deep split deeper more a b = record {
  depth = b.depth ∙ ap (λ x. x || deeper) a.depth ∙ or_assoc first.too_deep deep deeper;
  numbers = b.numbers ∙ ap (λ x. x || more) a.numbers ∙ or_assoc first.not_whole split more;
}

pub adds_as : (old new : Faults) (deep split deeper more : Bool) → AddsFaults old new deep split → deep ≡ deeper → split ≡ more → AddsFaults old new deeper more
adds_as old new deep split deeper more a d s = record {
  depth = a.depth ∙ ap (λ x. old.too_deep || x) d;
  numbers = a.numbers ∙ ap (λ x. old.not_whole || x) s;
}

-- the deeper of two parts tells
pub deep_max : (depth m n : ℕ) → (is_deep depth m || is_deep depth n) ≡ is_deep depth (max m n)
deep_max depth m n = grind (arith, nat_tests)

-- a list or a map is a level deeper than its parts
pub deep_outer : (depth n : ℕ) → 0 < depth → (is_deep depth 1 || is_deep (depth - 1) n) ≡ is_deep depth (suc n)
deep_outer depth n some = grind (arith, nat_tests)

-- nothing was put yet
pub nothing_added : (depth : ℕ) (f : Faults) → (depth < too_deep → f.too_deep ≡ true) → AddsFaults f f (is_deep depth 0) false
nothing_added depth f h = record { depth = grind (arith, nat_tests); numbers = sym (or-false f.not_whole) }

-- ---- why a value is refused

pub asked_by : (deep split : Bool) (d : json.Data) (l : List ℕ) → deep ≡ is_deep 126 (json_depth d) → split ≡ is_not_whole d → is_not_hex d ≡ false → IsFormed (lenient_value d) → l ≡ spelling (lenient_value d) → IsAsked (why_by deep split) d l
asked_by true split d l deep numbers plain formed bytes =
    let above : 126 < json_depth d + too_deep = ltb-true _ _ (sym deep) in
    ap as_told (read_deep d (omega (arith, above)))
asked_by false true d l deep numbers plain formed bytes =
    let within : json_depth d + too_deep ≤ 126 = ltb-false _ _ (sym deep) in
    ap as_told (read_not_whole d (omega (arith, within)) (sym numbers))
asked_by false false d l deep numbers plain formed bytes =
    let within : json_depth d + too_deep ≤ 126 = ltb-false _ _ (sym deep) in
    record {
      read = read_whole d (omega (arith, within)) (sym numbers) plain;
      formed = formed;
      spelled = bytes;
    }

pub value_asked_for : (ts rest : List Token) (l : List ℕ) (none noted : Faults) (why : Option Refusal) → none.too_deep ≡ false → none.not_whole ≡ false → PutsValue 126 ts rest [] l none noted → why ≡ why_of noted → TakesValue ts rest why l
value_asked_for ts rest l none noted why shallow whole v is =
    let deep : noted.too_deep ≡ is_deep 126 (json_depth v.json) = v.noted.depth ∙ ap (λ b. b || is_deep 126 (json_depth v.json)) shallow in
    let numbers : noted.not_whole ≡ is_not_whole v.json = v.noted.numbers ∙ ap (λ b. b || is_not_whole v.json) whole in
    record {
      json = v.json;
      read = v.read;
      asked = subst (λ w. IsAsked w v.json l) (sym is) (asked_by noted.too_deep noted.not_whole v.json l deep numbers v.plain v.formed v.bytes);
      shorter = v.shorter;
    }
