-- What was written as a message or a state is read as what it was written for.
use Rattle.std.proofs.Common.{◌≡◌, ℕ, ◌≤◌, List, ◌∷◌, length, Option, Some, sym, ap, ◌∙◌, arith}
use Rattle.std.specs.Prelude.{ℤ, FitsSigned, IsUtf8}
use Rattle.std.specs.Int.{w64}
use Rattle.std.proofs.lemmas.Option.{same_Some}
use Rattle.request_codec.specs.Limits.{depth_limit, message_limit, state_limit}
use Rattle.request_codec.specs.Tree.{Tree, integer, text, depth}
use Rattle.request_codec.specs.Written.{text_spelling, spelling, message_spelling}
use Rattle.request_codec.specs.Formed.{IsFormed}
use Rattle.request_codec.specs.Answers.{spelled_length, message_length}
use Rattle.request_codec.specs.Call.{asks, message_call, state_value}
use Rattle.request_codec.proofs.Spelled.{message_spelled, state_spelled, length-message, length-spelling}
use Rattle.request_codec.proofs.Whole.{message_again, state_again}

pub encoded_message : (items method : List ℕ) (v : Tree) → IsUtf8 method → (depth v ≤ depth_limit) × IsFormed v → (items ≡ message_spelling (asks method v)) × (length (message_spelling (asks method v)) ≤ message_limit)
    → message_call items ≡ Some (asks method v)
encoded_message items method v valid tested is =
    let short : message_length method v ≤ message_limit = omega (arith, is.1, length-message method v) in
    ap message_call is.0 ∙ message_again (message_spelling (asks method v)) method v (message_spelled method v valid tested.1 tested.0 short)

pub encoded_state : (items : List ℕ) (v : Tree) → (depth v ≤ depth_limit) × IsFormed v → (items ≡ spelling v) × (length (spelling v) ≤ state_limit) → state_value items ≡ Some v
encoded_state items v tested is =
    let short : spelled_length v ≤ state_limit = omega (arith, is.1, length-spelling v) in
    ap state_value is.0 ∙ state_again (spelling v) v (state_spelled v tested.1 tested.0 short)

pub same_found : {A : Type 0} (o : Option A) (x y : A) → o ≡ Some x → o ≡ Some y → x ≡ y
same_found o x y p q = same_Some x y (sym p ∙ q)

-- a short text is a state
pub encoded_text : (items s : List ℕ) → IsUtf8 s → length s ≤ 20 → items ≡ 4 ∷ text_spelling s → state_value items ≡ Some (text s)
unfolding spelling
encoded_text items s valid few is =
    let size = length-spelling (text s) in
    encoded_state items (text s) (omega arith, valid) (is, omega (arith, few, size))

-- a whole number is a state
pub encoded_integer : (items : List ℕ) (i : ℤ) → FitsSigned w64 i → items ≡ spelling (integer i) → state_value items ≡ Some (integer i)
encoded_integer items i fits is =
    let size = length-spelling (integer i) in
    encoded_state items (integer i) (omega arith, fits) (is, omega (arith, size))
