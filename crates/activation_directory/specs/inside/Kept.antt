-- How the parts of a directory stay together.
use Rattle.std.specs.Prelude.{◌≡◌, ℕ, List}
use Rattle.std.specs.FinMap.{from_entries}
use Rattle.std.specs.Map.{keys_of}
use Rattle.slab.specs.Slab.{Slab}
use Rattle.grain_id.specs.Names.{Grain, grain_eq}
use Rattle.activation_directory.specs.inside.Places.{placed, ArePlaced}
use Rattle.activation_directory.specs.declared.activation.Activation.{Activation}
use Rattle.activation_directory.specs.Register.{Register}
use Rattle.activation_directory.specs.inside.Counts.{Numbers, kept, count_in}

-- what an index and a slab show
abbrev pub shown : List (Grain × ℕ) → Slab Activation → Register
shown places activations = record { activations = from_entries (placed activations places); order = keys_of places }

-- The grains lead to the activations, one each, and each tenant's number is that of its grains.
pub record IsDirectory (places : List (Grain × ℕ)) (activations : Slab Activation) (numbers : Numbers) : Type 0 where
  pub placed_all : ArePlaced grain_eq places activations
  pub counted : (tenant : List ℕ) → kept numbers tenant ≡ count_in (shown places activations).activations tenant
