-- A state that is a number, and a number added to it.
use Rattle.std.specs.Prelude.{Bool, Err, ℤ, pos, negsuc, ◌+ℤ◌, nat_lt, if◌then◌else◌}
use Rattle.request_codec.specs.Tree.{Tree, integer}
use Rattle.grain_logic.specs.declared.fault.MethodFault.TheVariants.{OutOfRange}
use Rattle.grain_logic.specs.Logic.{Plan}
use Rattle.grain_logic.specs.Shared.{keeps, becomes}

-- the number of a state
abbrev pub number_of : Tree → ℤ
number_of (integer i) = i
number_of _ = pos 0

-- one of 64 bits
abbrev pub fits_64 : ℤ → Bool
fits_64 (pos n) = nat_lt n 9223372036854775808
fits_64 (negsuc n) = nat_lt n 9223372036854775808

-- the sum is the new number, where it is one of 64 bits
abbrev pub add_to : Tree → ℤ → Plan
add_to state sum = if fits_64 sum then becomes (integer sum) (integer sum) else keeps state (Err OutOfRange)

abbrev pub adds_number : Tree → ℤ → Plan
adds_number state by = add_to state (number_of state +ℤ by)
