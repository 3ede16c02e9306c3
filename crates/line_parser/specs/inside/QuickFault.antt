-- Why the quick reader has no answer, by a fault of the codec.
use Rattle.request_codec.specs.declared.fault.CodecFault.{CodecFault}
use Rattle.request_codec.specs.declared.fault.CodecFault.TheVariants as fault
use Rattle.line_parser.specs.declared.quick_fault.QuickFault.{QuickFault}
use Rattle.line_parser.specs.declared.quick_fault.QuickFault.TheVariants.{LeftToTree, Memory}

abbrev pub quick_fault_of : CodecFault → QuickFault
quick_fault_of fault.Memory = Memory
quick_fault_of _ = LeftToTree
