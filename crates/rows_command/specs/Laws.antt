-- What holds of the lines.
use Rattle.std.specs.Prelude.{◌≡◌}
use Rattle.request_codec.specs.Formed.{IsFormed}
use Rattle.request_codec.specs.Tree.{Tree}
use Rattle.line_text.specs.Text.{text_of}
use Rattle.rows_command.specs.Listing.{state_text}

-- A state is printed as replies have it.
abbrev pub PrintsAsReplies : Type 0
PrintsAsReplies = (state : Tree) → IsFormed state → state_text state ≡ text_of state
