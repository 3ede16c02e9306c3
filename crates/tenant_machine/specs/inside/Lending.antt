-- What a map of activations ends as after a write through `get_mut`.
use Rattle.std.specs.Prelude.{Option}
use Rattle.std.specs.Borrow.{MutBor, Fml, LendsIf}
use Rattle.std.specs.FinMap as map
use Rattle.std.specs.FinMap.{FinMap}
use Rattle.grain_id.specs.Names.{Grain, grain_cmp}
use Rattle.activation_directory.specs.declared.activation.Activation.{Activation}
use Rattle.activation_directory.specs.contracts.activation.Activation as activation
use Rattle.tenant_machine.specs.contracts.by_grain.ByGrain.{the_row}

-- the grain has another activation, and every other grain its own
abbrev pub LendsActivation : MutBor (FinMap grain_cmp Activation) → Grain → Option (MutBor Activation) → Fml
LendsActivation activations grain r = LendsIf the_row activation.the_row activations r (map.insert activations.now grain) activations.now
