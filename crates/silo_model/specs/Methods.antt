-- What the sender of a request is told whose method has no value.
use Rattle.grain_logic.specs.declared.fault.MethodFault.{MethodFault}
use Rattle.grain_logic.specs.declared.fault.MethodFault.TheVariants as method
use Rattle.silo_event.specs.declared.fault.Fault.{Fault}
use Rattle.silo_event.specs.declared.fault.Fault.TheVariants.{UnknownMethod, Misfit, OutOfRange, TooLarge}

abbrev pub method_fault : MethodFault → Fault
method_fault method.UnknownMethod = UnknownMethod
method_fault method.Misfit = Misfit
method_fault method.OutOfRange = OutOfRange
method_fault method.TooLarge = TooLarge
