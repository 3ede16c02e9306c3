-- What a sweep leaves of an activation, by the age of its grain's kind.
use Rattle.std.specs.Prelude.{ℕ, Option, Some, None, if◌then◌else◌}
use Rattle.activation_directory.specs.declared.activation.Activation.{Activation}
use Rattle.silo_model.specs.Idle.{is_due}
use Rattle.silo_state.specs.Shown.{entry_of}

-- it, if it isn't due
abbrev pub left_of : ℕ → ℕ → Option Activation → Option Activation
left_of clock age None = None
left_of clock age (Some a) = if is_due clock age (entry_of a) then None else Some a
