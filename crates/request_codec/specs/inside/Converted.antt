-- What the parts of a conversion from JSON answer.
use Rattle.std.specs.Prelude.{◌≡◌, Option, Some, None, Result, Ok, Err}
use Rattle.serde_json.specs.Data.{Data}
use Rattle.request_codec.specs.Formed.{IsFormed}
use Rattle.request_codec.specs.Answers.{read_json}
use Rattle.request_codec.specs.Lenient.{lenient_value}
use Rattle.request_codec.specs.declared.json_test.JsonTest.{JsonTest}
use Rattle.request_codec.specs.declared.json_test.JsonTest.TheVariants.{Passed, NotHex, NotWhole, TooDeep}
use Rattle.request_codec.specs.declared.fault.CodecFault.{CodecFault}
use Rattle.request_codec.specs.declared.fault.CodecFault.TheVariants as faults

-- The answer of a test of JSON: it has a value, which is well formed; or why it has none.
abbrev pub TestsJson : JsonTest → Data → Type 0
TestsJson Passed d = (read_json d ≡ Ok (lenient_value d)) × IsFormed (lenient_value d)
TestsJson NotHex d = read_json d ≡ Err faults.NotHex
TestsJson NotWhole d = read_json d ≡ Err faults.NotWhole
TestsJson TooDeep d = read_json d ≡ Err faults.TooDeep

-- The answer, seen by view, is what is there; and NotWhole or NotHex exactly where nothing is.
abbrev pub Gives : {X A : Type 0} → (X → A) → Result X CodecFault → Option A → Type 0
Gives view (Ok x) found = found ≡ Some (view x)
Gives view (Err faults.NotWhole) found = found ≡ None
Gives view (Err faults.NotHex) found = found ≡ None
Gives view (Err faults.Memory) found = Unit {0}
Gives view (Err faults.NotAMessage) found = ⊥
Gives view (Err faults.TooDeep) found = ⊥
Gives view (Err faults.TooLong) found = ⊥
