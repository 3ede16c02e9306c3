-- The limits of messages and states.
use Rattle.std.specs.Prelude.{ℕ}

-- the first byte of a message: the version of its form
abbrev pub message_version : ℕ
message_version = 2

-- the first byte of a message of the form before, which had no bytes among its values
abbrev pub old_version : ℕ
old_version = 1

-- how deep a value may be
abbrev pub depth_limit : ℕ
depth_limit = 32

-- bytes of a message
abbrev pub message_limit : ℕ
message_limit = 65536

-- bytes of a state
abbrev pub state_limit : ℕ
state_limit = 262144
