-- The fields of a map while they are read.
use Rattle.std.specs.Prelude.{◌≡◌, ℕ, List, [], ◌∷◌}
use Rattle.std.specs.Cmp.Lexicographic.{slice_cmp}
use Rattle.std.specs.Ordering.{nat_cmp}
use Rattle.std.specs.declared.cmp.Ordering.TheVariants.{Less}
use Rattle.request_codec.specs.Tree.{Tree}

-- a name and the value beside it
abbrev pub Named : Type 0
Named = List ℕ × Tree

-- each name is below this one
abbrev pub AreBelow : List Named → List ℕ → Type 0
AreBelow [] name = Unit {0}
AreBelow (f ∷ fs) name = (slice_cmp nat_cmp f.0 name ≡ Less) × AreBelow fs name
