use Rattle.std.proofs.Common.{subst}
use Rattle.serde_json.specs.View.{view}
use Rattle.request_codec.specs.Lenient.{lenient_value}
use Rattle.request_codec.specs.Seen.{value_of}
use Rattle.request_codec.specs.inside.Converted.{TestsJson}
use Rattle.request_codec.specs.declared.json_test.JsonTest.{JsonTest}
use Rattle.request_codec.proofs.JsonShown.{json_read}
use Rattle.request_codec.proofs.PartAnswers.{Converts-given}
use Rattle.request_codec.proofs.conversion.from_json.Goals as goal

pub returns-in-Passed : goal.returns-in-Passed
returns-in-Passed c =
    let d = view c.args.value.now in
    let tested = subst (λ (t : JsonTest). TestsJson t d) c.in-Passed.is c.test_json.ensures in
    Converts-given value_of c.datum_of_json.result d (lenient_value d) tested.0 (json_read d (lenient_value d) tested.0).found c.datum_of_json.ensures
