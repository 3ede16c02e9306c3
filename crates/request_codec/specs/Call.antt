-- What a message asks for, and what a state's bytes spell.
use Rattle.std.specs.Prelude.{ℕ, List, [], ◌∷◌, length, Option, Some, None, if◌then◌else◌, nat_lt, ◌==◌, refl}
use Rattle.std.specs.Coded.{Coded, code_by, coded×, coded_list, coded_ℕ}
use Rattle.std.specs.Option.{unwrap_or}
use Rattle.request_codec.specs.Limits.{message_version, old_version, depth_limit, message_limit, state_limit}
use Rattle.request_codec.specs.Tree.{Tree, null, holds_bytes}
use Rattle.request_codec.specs.Code.{coded_tree}
use Rattle.request_codec.specs.Reading.{◌>>=◌, text_at, value_at, if_ended}

-- a method, and a value for it
pub record Call : Type 0 where
  pub method : List ℕ
  pub argument : Tree

-- a call by its parts
abbrev pub asks : List ℕ → Tree → Call
asks method argument = record { method = method; argument = argument }

abbrev pub coded_call : Coded Call
coded_call = code_by (List ℕ × Tree) (coded× (coded_list coded_ℕ) coded_tree) (λ c. (c.method, c.argument))
    (λ p. record { method = p.0; argument = p.1 }) (λ _. refl)

-- the call behind a message's first byte: the method, one value, and nothing more
abbrev pub call_behind : List ℕ → Option Call
call_behind bytes = do
  method ← text_at bytes
  argument ← if_ended (value_at depth_limit method.1)
  Some (record { method = method.0; argument = argument })

-- the same behind a first byte that is this version
abbrev pub behind_version : ℕ → List ℕ → Option Call
behind_version version [] = None
behind_version version (b ∷ bytes) = if b == version then call_behind bytes else None

-- the call that the bytes spell in the form of this version, where they spell one
unfoldable pub versioned_call : ℕ → List ℕ → Option Call
versioned_call version bytes = if nat_lt message_limit (length bytes) then None else behind_version version bytes

-- the call that a message's bytes spell, where they spell one
abbrev pub message_call : List ℕ → Option Call
message_call = versioned_call message_version

-- what holds no bytes
abbrev pub plain_call : Call → Option Call
plain_call call = if holds_bytes call.argument then None else Some call

abbrev pub plain_value : Tree → Option Tree
plain_value v = if holds_bytes v then None else Some v

-- the call that a message's bytes of the form before spell, where they spell one: no bytes were among its values
abbrev pub old_call : List ℕ → Option Call
old_call bytes = versioned_call old_version bytes >>= plain_call

-- the value that a state's bytes spell, where they spell one
unfoldable pub state_value : List ℕ → Option Tree
state_value bytes = if nat_lt state_limit (length bytes) then None else if_ended (value_at depth_limit bytes)

-- the value that a state's bytes spell where they spell one that holds no bytes, as each state did once
abbrev pub old_state : List ℕ → Option Tree
old_state bytes = state_value bytes >>= plain_value

abbrev pub no_call : Call
no_call = record { method = []; argument = null }

abbrev pub call_of : List ℕ → Call
call_of bytes = unwrap_or (message_call bytes) no_call

abbrev pub value_of_state : List ℕ → Tree
value_of_state bytes = unwrap_or (state_value bytes) null
