-- What is read of a line's last member.
use Rattle.std.specs.Prelude.{◌≡◌, ℕ, List, [], Some, None}
use Rattle.json.specs.Token.{Token}
use Rattle.json.specs.Json.{read_key}
use Rattle.line_parser.specs.inside.LineMembers.{TakesValue}
use Rattle.line_parser.specs.declared.call_members.Last.{Last}
use Rattle.line_parser.specs.declared.call_members.Last.TheVariants.{Taken, Other}

-- the tokens are a value, the end of its object, and nothing more, if it was taken; its bytes are known, or why it is refused
abbrev pub TakesLast : List Token → Last → List ℕ → Type 0
TakesLast ts (Taken why) bytes = (rest : List Token) × TakesValue ts rest why bytes × (read_key rest ≡ Some (None, []))
TakesLast ts Other bytes = Unit {0}
