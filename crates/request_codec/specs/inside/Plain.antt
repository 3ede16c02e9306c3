-- The parts of what was spelled before there were bytes among the values.
use Rattle.std.specs.Prelude.{ℕ, List, Option}
use Rattle.request_codec.specs.Limits.{old_version, depth_limit}
use Rattle.request_codec.specs.Tree.{Tree}
use Rattle.request_codec.specs.Reading.{◌>>=◌, value_at, if_ended}
use Rattle.request_codec.specs.Call.{Call, behind_version, plain_call, plain_value}

-- the value that all of the bytes spell, where they spell one that holds no bytes
abbrev pub plain_alone : List ℕ → Option Tree
plain_alone bytes = if_ended (value_at depth_limit bytes) >>= plain_value

-- the call behind the first byte of the form before, where its argument holds no bytes
abbrev pub old_call_behind : List ℕ → Option Call
old_call_behind bytes = behind_version old_version bytes >>= plain_call
