use Rattle.request_codec.proofs.DatumValue.{value_of-Map}
use Rattle.request_codec.proofs.datum_builder.DatumBuilderBuilder.map.Goals as goal

pub returns : goal.returns
returns c = value_of-Map c.args.fields
