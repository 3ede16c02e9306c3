-- What a directory shows: which activation a grain has, and the grains in some order.
use Rattle.std.specs.Prelude.{◌≡◌, ℕ, List, Some, slice_get}
use Rattle.std.specs.Coded.{Coded}
use Rattle.std.specs.FinMap as map
use Rattle.std.specs.FinMap.{FinMap}
use Rattle.grain_id.specs.Names.{Grain, grain_cmp, coded_grain}
use Rattle.activation_directory.specs.declared.activation.Activation.{Activation}

-- The activation of each grain that has one; and those grains, each once, in the order in which `at` shows them.
pub record Register : Type 0 where
  pub activations : FinMap grain_cmp Activation
  pub order : List Grain

-- the grain stands at one of the places
abbrev pub StandsIn : List Grain → Grain → Type 0
StandsIn order id = (place : ℕ) × (slice_get order place ≡ Some id)

abbrev pub by_grain_code : {X : Type 0} → Coded X → Coded (FinMap grain_cmp X)
by_grain_code c = map.code coded_grain c
