-- Whole messages and states: what is read is spelled so, and what is spelled is read.
use Rattle.std.proofs.Common.{◌≡◌, ℕ, ◌<◌, ◌≤◌, false, ltb, eqb, List, [], ◌∷◌, ◌++◌, length, Option, Some, None, Result, IfOk, drop, true≢false, refl, sym, ap, subst, ◌∙◌, arith}
use Rattle.std.specs.Prelude.{IsSome, is_some}
use Rattle.std.specs.Option.{unwrap_or}
use Rattle.std.proofs.lemmas.Option.{same_Some, some_pair_parts}
use Rattle.std.proofs.lemmas.Result.{IfOk-weaker}
use Rattle.std.proofs.lemmas.Bool.{ltb-false, le-ltb, eqb-true}
use Rattle.std.proofs.lemmas.List.{append-nil}
use Rattle.finite_maps.proofs.Options.{some_none, some_if_fails, some_if_passes}
use Rattle.request_codec.specs.Limits.{message_version, depth_limit, message_limit, state_limit}
use Rattle.request_codec.specs.Tree.{Tree, null}
use Rattle.request_codec.specs.Spelling.{Spells, SpellsMessage, SpellsState}
use Rattle.request_codec.specs.Reading.{text_at, value_at, if_ended}
use Rattle.request_codec.specs.Call.{Call, asks, call_behind, behind_version, versioned_call, message_call, state_value, call_of, value_of_state, no_call}
use Rattle.request_codec.proofs.Steps.{bound}
use Rattle.hex.specs.Hex.{IsBytes}
use Rattle.request_codec.proofs.Numbers.{IsBytes-rest, text_found, text_again}
use Rattle.request_codec.proofs.ValuesRead.{value_found}
use Rattle.request_codec.proofs.OneSpelling.{value_again_within}

pub if_ended-some : {A : Type 0} (o : Option (A × List ℕ)) (x : A) → if_ended o ≡ Some x → o ≡ Some (x, [])
if_ended-some None x e = absurd cc
if_ended-some (Some (y, [])) x e = ap (λ (z : _). Some (z, [])) (same_Some y x e)
if_ended-some (Some (y, b ∷ rest)) x e = absurd cc

known : {A : Type 0} (o : Option A) (default : A) → IsSome o → o ≡ Some (unwrap_or o default)
known None default h = absurd cc
known (Some x) default h = refl

is_there : {A : Type 0} (o : Option A) (x : A) → o ≡ Some x → IsSome o
is_there o x e = rw e refl

is_it : {A : Type 0} (o : Option A) (default x : A) → o ≡ Some x → unwrap_or o default ≡ x
is_it {A} o default x e = ap (λ (p : Option A). unwrap_or p default) e

pub denied : {A : Type 0} (o : Option A) (x : A) → false ≡ is_some o → o ≡ Some x → ⊥
denied o x e there = true≢false (sym (e ∙ ap is_some there))

-- ---- states

pub state_found : (bytes : List ℕ) (v : Tree) → IsBytes bytes → state_value bytes ≡ Some v → SpellsState v bytes
unfolding state_value
state_found bytes v fits e =
    let g = some_if_fails (ltb state_limit (length bytes)) (if_ended (value_at depth_limit bytes)) v e in
    let whole_read = if_ended-some (value_at depth_limit bytes) v g.1 in
    let found = value_found depth_limit bytes v [] fits whole_read in
    let all : bytes ≡ found.0.used = found.0.parts ∙ append-nil found.0.used in
    record { value_spelled = subst (Spells v) (sym all) found.0.wanted; depth_within = found.1; length_within = ltb-false _ _ g.0 }

pub state_again : (bytes : List ℕ) (v : Tree) → SpellsState v bytes → state_value bytes ≡ Some v
unfolding state_value
state_again bytes v is =
    let read : value_at depth_limit bytes ≡ Some (v, []) = ap (value_at depth_limit) (sym (append-nil bytes)) ∙ value_again_within v depth_limit bytes [] is.value_spelled is.depth_within in
    let short : ltb state_limit (length bytes) ≡ false = le-ltb _ _ is.length_within in
    rw (short, read) refl

-- the bytes of a state give the value that is shown of it
pub state_known : (bytes : List ℕ) → IsSome (state_value bytes) → state_value bytes ≡ Some (value_of_state bytes)
state_known bytes h = known (state_value bytes) null h

pub state_is_some : (bytes : List ℕ) (v : Tree) → state_value bytes ≡ Some v → IsSome (state_value bytes)
state_is_some bytes v e = is_there (state_value bytes) v e

pub state_is : (bytes : List ℕ) (v : Tree) → state_value bytes ≡ Some v → value_of_state bytes ≡ v
state_is bytes v e = is_it (state_value bytes) null v e

-- ---- messages

call_found : (bytes : List ℕ) (call : Call) → IsBytes bytes → length (message_version ∷ bytes) ≤ message_limit → call_behind bytes ≡ Some call → SpellsMessage call.method call.argument (message_version ∷ bytes)
call_found bytes call fits short e =
    let name = bound (text_at bytes) _ call e in
    let text = text_found bytes name.0.0 name.0.1 fits name.1 in
    let value = bound (if_ended (value_at depth_limit name.0.1)) _ call name.2 in
    let found = value_found depth_limit name.0.1 value.0 [] text.rest_fits (if_ended-some (value_at depth_limit name.0.1) value.0 value.1) in
    let all : name.0.1 ≡ found.0.used = found.0.parts ∙ append-nil found.0.used in
    let message : SpellsMessage name.0.0 value.0 (message_version ∷ bytes) = record {
      name = text.used;
      rest = found.0.used;
      method_spelled = text.wanted;
      value_spelled = found.0.wanted;
      whole_bytes = ap (λ (b : List ℕ). message_version ∷ b) (text.parts ∙ ap (λ (b : List ℕ). text.used ++ b) all);
      depth_within = found.1;
      length_within = short;
    } in
    subst (λ (c : Call). SpellsMessage c.method c.argument (message_version ∷ bytes)) (same_Some _ _ value.2) message

version_found : (bytes : List ℕ) (call : Call) → IsBytes bytes → length bytes ≤ message_limit → behind_version message_version bytes ≡ Some call → SpellsMessage call.method call.argument bytes
version_found [] call fits short e = absurd cc
version_found (b ∷ bytes) call fits short e =
    let g = some_if_passes (eqb b message_version) (call_behind bytes) call e in
    let one : message_version ≡ b = sym (eqb-true _ _ g.0) in
    subst (λ (v : ℕ). SpellsMessage call.method call.argument (v ∷ bytes)) one (call_found bytes call (IsBytes-rest b bytes fits) short g.1)

pub message_found : (bytes : List ℕ) (call : Call) → IsBytes bytes → message_call bytes ≡ Some call → SpellsMessage call.method call.argument bytes
unfolding versioned_call
message_found bytes call fits e =
    let g = some_if_fails (ltb message_limit (length bytes)) (behind_version message_version bytes) call e in
    version_found bytes call fits (ltb-false _ _ g.0) g.1

call_again : (method : List ℕ) (v : Tree) (name rest : List ℕ) → text_at (name ++ rest) ≡ Some (method, rest) → value_at depth_limit rest ≡ Some (v, []) → behind_version message_version (message_version ∷ (name ++ rest)) ≡ Some (asks method v)
call_again method v name rest text value = rw (text, value) refl

pub message_again : (bytes method : List ℕ) (v : Tree) → SpellsMessage method v bytes → message_call bytes ≡ Some (asks method v)
unfolding versioned_call
message_again bytes method v is =
    let read : value_at depth_limit is.rest ≡ Some (v, []) = ap (value_at depth_limit) (sym (append-nil is.rest)) ∙ value_again_within v depth_limit is.rest [] is.value_spelled is.depth_within in
    let short : ltb message_limit (length bytes) ≡ false = le-ltb _ _ is.length_within in
    let call : behind_version message_version bytes ≡ Some (asks method v) = ap (behind_version message_version) is.whole_bytes ∙ call_again method v is.name is.rest (text_again method is.name is.rest is.method_spelled) read in
    rw short call

-- the bytes of a message give the call that is shown of it
pub message_known : (bytes : List ℕ) → IsSome (message_call bytes) → message_call bytes ≡ Some (call_of bytes)
message_known bytes h = known (message_call bytes) no_call h

pub message_is_some : (bytes : List ℕ) (call : Call) → message_call bytes ≡ Some call → IsSome (message_call bytes)
message_is_some bytes call e = is_there (message_call bytes) call e

pub message_is : (bytes : List ℕ) (call : Call) → message_call bytes ≡ Some call → call_of bytes ≡ call
message_is bytes call e = is_it (message_call bytes) no_call call e

-- ---- what reading answers, in the words of the relation

pub state_shown : (bytes : List ℕ) → IsBytes bytes → IsSome (state_value bytes) → SpellsState (value_of_state bytes) bytes
state_shown bytes fits h = state_found bytes (value_of_state bytes) fits (state_known bytes h)

pub message_shown : (bytes : List ℕ) → IsBytes bytes → IsSome (message_call bytes) → SpellsMessage (call_of bytes).method (call_of bytes).argument bytes
message_shown bytes fits h = message_found bytes (call_of bytes) fits (message_known bytes h)

pub is_state : {X E : Type 0} (view : X → Tree) (r : Result X E) (bytes : List ℕ) → IsBytes bytes → IfOk r (λ x. state_value bytes ≡ Some (view x)) → IfOk r (λ x. SpellsState (view x) bytes)
is_state view r bytes fits = IfOk-weaker r _ _ (λ x. state_found bytes (view x) fits)

pub is_message : {X E : Type 0} (view : X → Call) (r : Result X E) (bytes : List ℕ) → IsBytes bytes → IfOk r (λ x. message_call bytes ≡ Some (view x)) → IfOk r (λ x. SpellsMessage (view x).method (view x).argument bytes)
is_message view r bytes fits = IfOk-weaker r _ _ (λ x. message_found bytes (view x) fits)

pub no_state : (bytes : List ℕ) → state_value bytes ≡ None → (v : Tree) → SpellsState v bytes → ⊥
no_state bytes e v is = some_none (state_value bytes) v e (state_again bytes v is)

pub no_message : (bytes : List ℕ) → message_call bytes ≡ None → (method : List ℕ) → (v : Tree) → SpellsMessage method v bytes → ⊥
no_message bytes e method v is = some_none (message_call bytes) (asks method v) e (message_again bytes method v is)

-- where a message spells a call, its method stands behind the first byte
pub method_behind : (bytes : List ℕ) (call : Call) → message_call bytes ≡ Some call → (rest : List ℕ) × (text_at (drop 1 bytes) ≡ Some (call.method, rest))
unfolding versioned_call
method_behind [] call e = absurd cc
method_behind (b ∷ bytes) call e =
    let g = some_if_fails (ltb message_limit (length (b ∷ bytes))) (behind_version message_version (b ∷ bytes)) call e in
    let version = some_if_passes (eqb b message_version) (call_behind bytes) call g.1 in
    let name = bound (text_at bytes) _ call version.1 in
    let value = bound (if_ended (value_at depth_limit name.0.1)) _ call name.2 in
    let same : name.0.0 ≡ call.method = ap (λ (c : Call). c.method) (same_Some _ _ value.2) in
    (name.0.1, name.1 ∙ ap (λ (s : List ℕ). Some (s, name.0.1)) same)

pub no_empty_message : (bytes : List ℕ) → length bytes < 1 → IsSome (message_call bytes) → ⊥
unfolding versioned_call
no_empty_message [] lt h = absurd cc
no_empty_message (b ∷ bytes) lt h = omega arith

-- within the limit the length takes some_none away
pub state_value-short : (bytes : List ℕ) → length bytes ≤ state_limit → state_value bytes ≡ if_ended (value_at depth_limit bytes)
unfolding state_value
state_value-short bytes le =
    let short : ltb state_limit (length bytes) ≡ false = le-ltb _ _ le in
    rw short refl

pub message_call-short : (bytes : List ℕ) → length bytes ≤ message_limit → message_call bytes ≡ behind_version message_version bytes
unfolding versioned_call
message_call-short bytes le =
    let short : ltb message_limit (length bytes) ≡ false = le-ltb _ _ le in
    rw short refl

pub method_is : (bytes method rest : List ℕ) → IsSome (message_call bytes) → Some (method, rest) ≡ text_at (drop 1 bytes) → method ≡ (call_of bytes).method
method_is bytes method rest h e =
    let found = method_behind bytes (call_of bytes) (message_known bytes h) in
    (some_pair_parts method (call_of bytes).method rest found.0 (e ∙ found.1)).0

pub method_there : (bytes : List ℕ) → IsSome (message_call bytes) → None ≡ text_at (drop 1 bytes) → ⊥
method_there bytes h e =
    let found = method_behind bytes (call_of bytes) (message_known bytes h) in
    let both : Path (Option (List ℕ × List ℕ)) None (Some ((call_of bytes).method, found.0)) = e ∙ found.1 in
    absurd cc

pub message_denied : (bytes : List ℕ) → false ≡ is_some (message_call bytes) → (method : List ℕ) → (v : Tree) → SpellsMessage method v bytes → ⊥
message_denied bytes e method v is = denied (message_call bytes) (asks method v) e (message_again bytes method v is)

pub state_denied : (bytes : List ℕ) → false ≡ is_some (state_value bytes) → (v : Tree) → SpellsState v bytes → ⊥
state_denied bytes e v is = denied (state_value bytes) v e (state_again bytes v is)
