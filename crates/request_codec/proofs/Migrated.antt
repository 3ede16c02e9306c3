-- A message of the form before, with the first byte of the form of now.
use Rattle.std.proofs.Common.{◌≡◌, ℕ, zero, suc, ◌<◌, ◌≤◌, Bool, true, false, ltb, eqb, true≢false, List, [], ◌∷◌, ◌++◌, ◌-◌, length, take, drop, Option, Some, None, refl, sym, ap, subst, ◌∙◌, arith}
use Rattle.std.specs.Prelude.{IsSome, is_some, if◌then◌else◌}
use Rattle.std.proofs.lemmas.Option.{same_Some}
use Rattle.std.proofs.lemmas.List.{take_all}
use Rattle.finite_maps.proofs.Options.{some_if_fails, some_if_passes}
use Rattle.request_codec.specs.Limits.{message_version, old_version, depth_limit, message_limit}
use Rattle.request_codec.specs.Tree.{Tree, holds_bytes}
use Rattle.request_codec.specs.Reading.{◌>>=◌, text_at, value_at, if_ended}
use Rattle.request_codec.specs.Call.{Call, asks, call_behind, behind_version, versioned_call, message_call, old_call, old_state, plain_call, plain_value, state_value}
use Rattle.request_codec.specs.inside.Ends.{holding}
use Rattle.request_codec.proofs.Steps.{bound}
use Rattle.request_codec.specs.Written.{old_spelling}
use Rattle.hex.specs.Hex.{IsBytes}
use Rattle.std.proofs.lemmas.Bool.{eqb-true}
use Rattle.request_codec.proofs.Numbers.{IsBytes-rest}
use Rattle.request_codec.proofs.Spelled.{message_spelling-is}
use Rattle.request_codec.specs.Spelling.{SpellsMessage, SpellsOldMessage, SpellsOldState}
use Rattle.request_codec.proofs.Whole.{denied, message_found, message_again, state_found, state_again}

-- ---- a value that holds no bytes

-- what is told of it
abbrev pub is_plain : Option (Bool × List ℕ) → Bool
is_plain None = false
is_plain (Some (true, rest)) = false
is_plain (Some (false, [])) = true
is_plain (Some (false, b ∷ rest)) = false

plain_alone : (b : Bool) (v : Tree) → is_plain (Some (b, [])) ≡ is_some {T = Tree} (if b then None else Some v)
plain_alone true v = refl
plain_alone false v = refl

followed : (b : Bool) (c : ℕ) (rest : List ℕ) → is_plain (Some (b, c ∷ rest)) ≡ false
followed true c rest = refl
followed false c rest = refl

ended_plain : (v : Tree) (rest : List ℕ) → is_plain (Some (holds_bytes v, rest)) ≡ is_some (if_ended (Some (v, rest)) >>= plain_value)
ended_plain v [] = plain_alone (holds_bytes v) v
ended_plain v (c ∷ rest) = followed (holds_bytes v) c rest

pub plain_told : (o : Option (Tree × List ℕ)) (r : Option (Bool × List ℕ)) → r ≡ holding holds_bytes o → is_plain r ≡ is_some (if_ended o >>= plain_value)
plain_told None r e = ap is_plain e
plain_told (Some (v, rest)) r e = ap is_plain e ∙ ended_plain v rest

-- ---- a call

plain_if : (b : Bool) (method : List ℕ) (v : Tree) → is_some {T = Tree} (if b then None else Some v) ≡ is_some {T = Call} (if b then None else Some (asks method v))
plain_if true method v = refl
plain_if false method v = refl

call_plain : (method : List ℕ) (o : Option Tree) → is_some (o >>= plain_value) ≡ is_some ((o >>= λ v. Some (asks method v)) >>= plain_call)
call_plain method None = refl
call_plain method (Some v) = plain_if (holds_bytes v) method v

pub call_told : (behind method rest : List ℕ) → text_at behind ≡ Some (method, rest) → is_some (if_ended (value_at depth_limit rest) >>= plain_value) ≡ is_some (call_behind behind >>= plain_call)
call_told behind method rest named = call_plain method (if_ended (value_at depth_limit rest)) ∙ ap (λ o. is_some ((o >>= λ m. if_ended (value_at depth_limit m.1) >>= λ v. Some (asks m.0 v)) >>= plain_call)) (sym named)

pub no_call_told : (behind : List ℕ) → text_at behind ≡ None → false ≡ is_some (call_behind behind >>= plain_call)
no_call_told behind named = ap (λ o. is_some ((o >>= λ m. if_ended (value_at depth_limit m.1) >>= λ v. Some (asks m.0 v)) >>= plain_call)) (sym named)

-- ---- the other first byte

some_of : {A : Type 0} (o : Option A) → IsSome o → (x : A) × (o ≡ Some x)
some_of None h = absurd cc
some_of (Some x) h = (x, refl)

plain_is : (call made : Call) → plain_call call ≡ Some made → call ≡ made
plain_is call made e = same_Some call made (some_if_fails (holds_bytes call.argument) (Some call) made e).1

short_call : (long : Bool) (o : Option Call) (call : Call) → long ≡ false → o ≡ Some call → (if long then None else o) ≡ Some call
short_call true o call e is = absurd (true≢false e)
short_call false o call e is = is

changed : (b : ℕ) (rest : List ℕ) (call : Call) → versioned_call old_version (b ∷ rest) ≡ Some call → message_call (message_version ∷ rest) ≡ Some call
unfolding versioned_call
changed b rest call e =
    let short = some_if_fails (ltb message_limit (length (b ∷ rest))) (behind_version old_version (b ∷ rest)) call e in
    let version = some_if_passes (eqb b old_version) (call_behind rest) call short.1 in
    short_call (ltb message_limit (length (b ∷ rest))) (call_behind rest) call short.0 version.1

first_is : (b : ℕ) (rest : List ℕ) (call : Call) → versioned_call old_version (b ∷ rest) ≡ Some call → b ≡ old_version
unfolding versioned_call
first_is b rest call e =
    let short = some_if_fails (ltb message_limit (length (b ∷ rest))) (behind_version old_version (b ∷ rest)) call e in
    eqb-true b old_version (some_if_passes (eqb b old_version) (call_behind rest) call short.1).0

fits_again : (rest : List ℕ) → IsBytes rest → IsBytes (message_version ∷ rest)
fits_again rest fits zero = omega arith
fits_again rest fits (suc i) = fits i

-- what is spelled behind the one first byte is spelled behind the other
pub version_changed : (b : ℕ) (rest : List ℕ) → IsSome (old_call (b ∷ rest)) → message_call (message_version ∷ rest) ≡ old_call (b ∷ rest)
version_changed b rest some =
    let made = some_of (old_call (b ∷ rest)) some in
    let call = bound (versioned_call old_version (b ∷ rest)) plain_call made.0 made.1 in
    changed b rest call.0 call.1 ∙ ap (λ (c : Call). Some c) (plain_is call.0 made.0 call.2) ∙ sym made.1

pub no_old_call_in : (bytes : List ℕ) → length bytes < 1 → IsSome (old_call bytes) → ⊥
unfolding versioned_call
no_old_call_in [] lt some = absurd cc
no_old_call_in (b ∷ bytes) lt some = omega arith

pub renewed_spells : (bytes : List ℕ) → IsSome (old_call bytes) → message_call (message_version ∷ take (length bytes - 1) (drop 1 bytes)) ≡ old_call bytes
renewed_spells [] some = absurd (no_old_call_in [] (omega arith) some)
renewed_spells (b ∷ rest) some = ap (λ (l : List ℕ). message_call (message_version ∷ l)) (take_all (length (b ∷ rest) - 1) rest (omega arith)) ∙ version_changed b rest some

-- the bytes are those that are written for the call
pub old_exact : (bytes : List ℕ) (made : Call) → IsBytes bytes → old_call bytes ≡ Some made → old_spelling made ≡ bytes
old_exact [] made fits is = absurd (no_old_call_in [] (omega arith) (ap is_some is))
old_exact (b ∷ rest) made fits is =
    let call = bound (versioned_call old_version (b ∷ rest)) plain_call made is in
    let now : message_call (message_version ∷ rest) ≡ Some made = changed b rest call.0 call.1 ∙ ap (λ (c : Call). Some c) (plain_is call.0 made call.2) in
    let written = message_spelling-is made (message_version ∷ rest) (message_found (message_version ∷ rest) made (fits_again rest (IsBytes-rest b rest fits)) now) in
    ap (λ (l : List ℕ). old_version ∷ drop 1 l) (sym written) ∙ ap (λ (v : ℕ). v ∷ rest) (sym (first_is b rest call.0 call.1))

-- ---- a state

plain_value_is : (v made : Tree) → plain_value v ≡ Some made → v ≡ made
plain_value_is v made e = same_Some v made (some_if_fails (holds_bytes v) (Some v) made e).1

pub old_is_state : (bytes : List ℕ) → IsSome (old_state bytes) → old_state bytes ≡ state_value bytes
old_is_state bytes some =
    let made = some_of (old_state bytes) some in
    let v = bound (state_value bytes) plain_value made.0 made.1 in
    made.1 ∙ ap (λ (w : Tree). Some w) (sym (plain_value_is v.0 made.0 v.2)) ∙ sym v.1

-- ---- the relations

abbrev pub plain_of : (call made : Call) → plain_call call ≡ Some made → holds_bytes made.argument ≡ false
plain_of call made e =
    let is = some_if_fails (holds_bytes call.argument) (Some call) made e in
    ap (λ (c : Call). holds_bytes c.argument) (sym (same_Some call made is.1)) ∙ is.0

-- what is read of bytes of the form before is what they spell
pub old_found : (bytes : List ℕ) (made : Call) → IsBytes bytes → old_call bytes ≡ Some made → SpellsOldMessage made.method made.argument bytes
old_found [] made fits is = absurd (no_old_call_in [] (omega arith) (ap is_some is))
old_found (b ∷ rest) made fits is =
    let call = bound (versioned_call old_version (b ∷ rest)) plain_call made is in
    let now : message_call (message_version ∷ rest) ≡ Some made = changed b rest call.0 call.1 ∙ ap (λ (c : Call). Some c) (plain_is call.0 made call.2) in
    let found = message_found (message_version ∷ rest) made (fits_again rest (IsBytes-rest b rest fits)) now in
    record {
      name = found.name;
      rest = found.rest;
      method_spelled = found.method_spelled;
      value_spelled = found.value_spelled;
      plain = plain_of call.0 made call.2;
      whole_bytes = ap (λ (v : ℕ). v ∷ rest) (first_is b rest call.0 call.1) ∙ ap (λ (l : List ℕ). old_version ∷ drop 1 l) found.whole_bytes;
      depth_within = found.depth_within;
      length_within = found.length_within;
    }

-- both forms hold the same behind their first byte
one_call : (bytes : List ℕ) → versioned_call old_version (old_version ∷ bytes) ≡ message_call (message_version ∷ bytes)
unfolding versioned_call
one_call bytes = refl

passes : {A : Type 0} (b : Bool) (x : A) → b ≡ false → (if b then None else Some x) ≡ Some x
passes true x e = absurd (true≢false e)
passes false x e = refl

old_again : (bytes method : List ℕ) (v : Tree) → SpellsOldMessage method v bytes → old_call bytes ≡ Some (asks method v)
old_again bytes method v is =
    let short : length (message_version ∷ (is.name ++ is.rest)) ≤ message_limit = subst (λ (l : List ℕ). length l ≤ message_limit) is.whole_bytes is.length_within in
    let now : SpellsMessage method v (message_version ∷ (is.name ++ is.rest)) = record {
      name = is.name;
      rest = is.rest;
      method_spelled = is.method_spelled;
      value_spelled = is.value_spelled;
      whole_bytes = refl;
      depth_within = is.depth_within;
      length_within = short;
    } in
    ap old_call is.whole_bytes
    ∙ ap (λ (o : Option Call). o >>= plain_call) (one_call (is.name ++ is.rest) ∙ message_again _ method v now)
    ∙ passes (holds_bytes v) (asks method v) is.plain

-- where they are refused, they spell no message of the form before
pub old_denied : (bytes : List ℕ) → false ≡ is_some (old_call bytes) → (method : List ℕ) → (v : Tree) → SpellsOldMessage method v bytes → ⊥
old_denied bytes none method v is = denied (old_call bytes) (asks method v) none (old_again bytes method v is)

pub old_state_found : (bytes : List ℕ) (made : Tree) → IsBytes bytes → old_state bytes ≡ Some made → SpellsOldState made bytes
old_state_found bytes made fits is =
    let v = bound (state_value bytes) plain_value made is in
    let plain = some_if_fails (holds_bytes v.0) (Some v.0) made v.2 in
    let one : v.0 ≡ made = same_Some v.0 made plain.1 in
    record {
      spelled = state_found bytes made fits (v.1 ∙ ap (λ (w : Tree). Some w) one);
      plain = ap holds_bytes (sym one) ∙ plain.0;
    }

pub old_state_denied : (bytes : List ℕ) → false ≡ is_some (old_state bytes) → (v : Tree) → SpellsOldState v bytes → ⊥
old_state_denied bytes none v is =
    denied (old_state bytes) v none (ap (λ (o : Option Tree). o >>= plain_value) (state_again bytes v is.spelled) ∙ passes (holds_bytes v) v is.plain)
