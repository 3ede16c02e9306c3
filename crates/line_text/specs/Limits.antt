-- What an input may have.
use Rattle.std.specs.Prelude.{ℕ}

-- lines
abbrev pub lines_limit : ℕ
lines_limit = 1000000

-- bytes that are kept of a line: one more than a line may have
abbrev pub kept_limit : ℕ
kept_limit = 65537

-- calls of the reader
abbrev pub calls_limit : ℕ
calls_limit = 1073741824
