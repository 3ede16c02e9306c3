-- What a directory ends as after a write through `get_mut`.
use Rattle.std.specs.Prelude.{Option}
use Rattle.std.specs.Borrow.{MutBor, Fml, LendsIf}
use Rattle.std.specs.FinMap as map
use Rattle.grain_id.specs.Names.{Grain}
use Rattle.activation_directory.specs.declared.activation.Activation.{Activation}
use Rattle.activation_directory.specs.Register.{Register}
use Rattle.activation_directory.specs.contracts.directory.Directory.{the_row}
use Rattle.activation_directory.specs.contracts.activation.Activation as activation

-- the grain has another activation, and the order stays
abbrev pub with_activation : Register → Grain → Activation → Register
with_activation register grain activation = record register { activations = map.insert register.activations grain activation }

abbrev pub LendsActivation : MutBor Register → Grain → Option (MutBor Activation) → Fml
LendsActivation register grain r = LendsIf the_row activation.the_row register r (with_activation register.now grain) register.now
