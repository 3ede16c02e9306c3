-- What is left behind something that was read.
use Rattle.std.specs.Prelude.{List, ℕ, Bool, Option, Some, None, option_map}

abbrev pub end_of : {A : Type 0} → Option (A × List ℕ) → Option (List ℕ)
end_of o = option_map (λ x. x.1) o

-- what a test says of it, beside what is left
abbrev pub holding : {A : Type 0} → (A → Bool) → Option (A × List ℕ) → Option (Bool × List ℕ)
holding test None = None
holding test (Some (x, rest)) = Some (test x, rest)
