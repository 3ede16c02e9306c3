-- What is known of bytes at whose front something stands.
use Rattle.std.proofs.Common.{arith, ◌≡◌, ℕ, ◌-◌, ◌<◌, Bool, true, false, List, [], ◌∷◌, take, drop, Option, Some, None, refl, sym, ap, subst, ◌∙◌}
use Rattle.std.specs.Prelude.{IsSome, nat_lt, length, if◌then◌else◌, ◌==◌}
use Rattle.std.specs.Int.{w32}
use Rattle.std.specs.Str.{IsUtf8, is_utf8}
use Rattle.std.proofs.lemmas.Option.{same_Some}
use Rattle.std.proofs.lemmas.Str.{IsUtf8-from_is_utf8}
use Rattle.request_codec.specs.inside.Build.{Named}
use Rattle.request_codec.specs.inside.Ends.{end_of}
use Rattle.request_codec.specs.Call.{Call, asks, call_behind, versioned_call, message_call, state_value}
use Rattle.request_codec.specs.Limits.{message_version, depth_limit, message_limit, state_limit}
use Rattle.request_codec.specs.Reading.{Parse, ◌>>=◌, bytes_at, text_at, members_at, fields_at, value_at, is_above, if_ended}
use Rattle.request_codec.specs.Start.{start_at, list_of, map_of}
use Rattle.request_codec.specs.Tree.{Tree, Members, Fields}
use Rattle.request_codec.proofs.Levels.{value_at-zero, value_at-unstarted, value_at-no_list, value_at-no_map}
use Rattle.request_codec.proofs.MemberLoops.{with_members, with_fields, members-end, fields-unnamed, fields-misplaced, fields-end}

-- there is something, or there would be none of the whole
pub some_unless : {A : Type 0} (o : Option A) → (o ≡ None → ⊥) → IsSome o
some_unless None h = absurd (h refl)
some_unless (Some x) h = refl

pub not_none : {A : Type 0} (o : Option A) → o ≡ None → IsSome o → ⊥
not_none None e h = cc (h)
not_none (Some x) e h = cc (e)

-- what was read to those bytes
pub read_to : {A : Type 0} (o : Option (A × List ℕ)) (rest : List ℕ) → Some rest ≡ end_of o → (x : A) × (o ≡ Some (x, rest))
read_to None rest h = absurd (cc (h))
read_to (Some (x, behind)) rest h = (x, ap (λ (b : List ℕ). Some (x, b)) (same_Some behind rest (sym h)))

true_unless : (b : Bool) → (b ≡ false → ⊥) → b ≡ true
true_unless true h = refl
true_unless false h = absurd (h refl)

-- ---- texts

text_if : (u : Bool) (found : List ℕ × List ℕ) → IsSome {T = List ℕ × List ℕ} (if u then Some found else None) → u ≡ true
text_if true found h = refl
text_if false found h = absurd (cc (h))

pub known_utf8 : (bytes front rest : List ℕ) → Some (front, rest) ≡ bytes_at bytes → IsSome (text_at bytes) → IsUtf8 front
unfolding text_at
known_utf8 bytes front rest is some =
    let tested = subst (λ o. IsSome (o >>= λ found. if is_utf8 found.0 then Some found else None)) (sym is) some in
    IsUtf8-from_is_utf8 front (text_if (is_utf8 front) (front, rest) tested)

-- ---- one level

module _ (limit : ℕ) (bytes : List ℕ) (some : IsSome (value_at limit bytes)) where
  pub known_limit : limit ≡ 0 → ⊥
  known_limit e = not_none (value_at limit bytes) (value_at-zero limit bytes e) some

  pub known_begun : IsSome (start_at bytes)
  known_begun = some_unless (start_at bytes) (λ e. not_none (value_at limit bytes) (value_at-unstarted limit bytes e) some)

  pub known_members : (n : ℕ) (rest : List ℕ) → 0 < limit → start_at bytes ≡ Some (list_of n, rest) → IsSome (members_at (value_at (limit - 1)) n rest)
  known_members n rest lt started = some_unless (members_at (value_at (limit - 1)) n rest) (λ e. not_none (value_at limit bytes) (value_at-no_list limit bytes n rest lt started e) some)

  pub known_fields : (n : ℕ) (rest : List ℕ) → 0 < limit → start_at bytes ≡ Some (map_of n, rest) → IsSome (fields_at (value_at (limit - 1)) n None rest)
  known_fields n rest lt started = some_unless (fields_at (value_at (limit - 1)) n None rest) (λ e. not_none (value_at limit bytes) (value_at-no_map limit bytes n rest lt started e) some)

-- ---- the members of a list

pub known_member : (read : Parse Tree) (front : List Tree) (count i : ℕ) (bytes : List ℕ) (total : Option (Members × List ℕ)) → i < count → with_members front (members_at read (count - i) bytes) ≡ total → IsSome total → IsSome (read bytes)
known_member read front count i bytes total lt so_far some = some_unless (read bytes) (λ e. not_none total (members-end read front count i bytes total lt so_far e) some)

-- ---- the members of a map

module _ (read : Parse Tree) (front : List Named) (count i : ℕ) (last : Option (List ℕ)) (bytes : List ℕ) (total : Option (Fields × List ℕ)) (lt : i < count) (so_far : with_fields front (fields_at read (count - i) last bytes) ≡ total) (some : IsSome total) where
  pub known_name : IsSome (text_at bytes)
  known_name = some_unless (text_at bytes) (λ e. not_none total (fields-unnamed read front count i last bytes total lt e so_far) some)

  module _ (name behind : List ℕ) (named : text_at bytes ≡ Some (name, behind)) where
    pub known_above : is_above last name ≡ true
    known_above = true_unless (is_above last name) (λ e. not_none total (fields-misplaced read front count i last bytes name behind total lt named e so_far) some)

    pub known_field : IsSome (read behind)
    known_field = some_unless (read behind) (λ e. not_none total (fields-end read front count i last bytes name behind total lt named known_above so_far e) some)

-- ---- a whole state

known_if : (b : Bool) (o : Option (Tree × List ℕ)) → IsSome (if b then None else if_ended o) → IsSome o
known_if true o h = absurd (cc (h))
known_if false None h = absurd (cc (h))
known_if false (Some x) h = refl

ended_if : (b : Bool) (v : Tree) (rest : List ℕ) → IsSome {T = Tree} (if b then None else if_ended (Some (v, rest))) → (if b then None else if_ended (Some (v, rest))) ≡ Some v
ended_if true v rest h = absurd (cc (h))
ended_if false v [] h = refl
ended_if false v (b ∷ rest) h = absurd (cc (h))

pub known_value : (bytes : List ℕ) → IsSome (state_value bytes) → IsSome (value_at depth_limit bytes)
unfolding state_value
known_value bytes some = known_if (nat_lt state_limit (length bytes)) (value_at depth_limit bytes) some

pub known_state : (bytes : List ℕ) (v : Tree) (rest : List ℕ) → IsSome (state_value bytes) → value_at depth_limit bytes ≡ Some (v, rest) → state_value bytes ≡ Some v
unfolding state_value
known_state bytes v rest some is =
    ap (λ o. if nat_lt state_limit (length bytes) then None else if_ended o) is
    ∙ ended_if (nat_lt state_limit (length bytes)) v rest (subst (λ o. IsSome {T = Tree} (if nat_lt state_limit (length bytes) then None else if_ended o)) is some)

-- ---- a whole message

none_if : (long : Bool) → IsSome {T = Call} (if long then None else None) → ⊥
none_if true h = cc (h)
none_if false h = cc (h)

call_if : (long one : Bool) (call : Option Call) → IsSome {T = Call} (if long then None else if one then call else None) → (if long then None else if one then call else None) ≡ call
call_if true one call h = absurd (cc (h))
call_if false true call h = refl
call_if false false call h = absurd (cc (h))

-- what a message comes to by the value that is read, and by its method's text
abbrev call_of_value : List ℕ → Option (Tree × List ℕ) → Option Call
call_of_value method value = if_ended value >>= λ argument. Some (asks method argument)

abbrev call_of_text : Option (List ℕ × List ℕ) → Option Call
call_of_text text = text >>= λ method. call_of_value method.0 (value_at depth_limit method.1)

ended_call : (method : List ℕ) (v : Tree) (rest : List ℕ) → IsSome (call_of_value method (Some (v, rest))) → call_of_value method (Some (v, rest)) ≡ Some (asks method v)
ended_call method v [] h = refl
ended_call method v (b ∷ rest) h = absurd (cc (h))

no_first_byte : IsSome (message_call []) → ⊥
unfolding versioned_call
no_first_byte some = none_if (nat_lt message_limit 0) some

pub no_call : (bytes : List ℕ) → IsSome (message_call bytes) → length bytes < 1 → ⊥
no_call [] some short = no_first_byte some
no_call (version ∷ behind) some short = absurd (omega (arith, short))

pub behind_first : (bytes : List ℕ) → IsSome (message_call bytes) → (version : ℕ) × (bytes ≡ version ∷ drop 1 bytes)
behind_first [] some = absurd (no_first_byte some)
behind_first (version ∷ behind) some = (version, refl)

module _ (version : ℕ) (behind : List ℕ) (some : IsSome (message_call (version ∷ behind))) where
  called : message_call (version ∷ behind) ≡ call_behind behind
  unfolding versioned_call
  called = call_if (nat_lt message_limit (length (version ∷ behind))) (version == message_version) (call_behind behind) some

  known_call : IsSome (call_behind behind)
  known_call = subst (λ o. IsSome {T = Call} o) called some

  pub known_method : IsSome (text_at behind)
  known_method = some_unless (text_at behind) (λ e. not_none (call_behind behind) (ap call_of_text e) known_call)

  module _ (method rest : List ℕ) (named : text_at behind ≡ Some (method, rest)) where
    argued : IsSome (call_of_text (Some (method, rest)))
    argued = subst (λ o. IsSome (call_of_text o)) named known_call

    pub known_argument : IsSome (value_at depth_limit rest)
    known_argument = some_unless (value_at depth_limit rest) (λ e. not_none (call_of_text (Some (method, rest))) (ap (call_of_value method) e) argued)

    pub known_asked : (v : Tree) (after : List ℕ) → value_at depth_limit rest ≡ Some (v, after) → message_call (version ∷ behind) ≡ Some (asks method v)
    known_asked v after is =
        called ∙ ap call_of_text named ∙ ap (call_of_value method) is
        ∙ ended_call method v after (subst (λ o. IsSome (call_of_value method o)) is argued)
