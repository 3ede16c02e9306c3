-- Turns that a worker takes at once: how many they are, and which they are.
use Rattle.std.specs.Prelude.{ℕ, Bool, Result, Ok, Err, if◌then◌else◌}
use Rattle.silo_event.specs.declared.opened_turn.OpenedTurn.{OpenedTurn}

-- how many turns a worker takes at once, at most: one if it comes for the first time
abbrev pub most_turns : Bool → ℕ
most_turns first = if first then 1 else 32

-- what a worker has of a turn whose body ran: the turn whose plan was made, or the one that is opened still
abbrev pub Ran : Type 0
Ran = Result OpenedTurn OpenedTurn

-- the turn, with a plan or without
abbrev pub turn_of : Ran → OpenedTurn
turn_of (Ok finished) = finished
turn_of (Err opened) = opened
