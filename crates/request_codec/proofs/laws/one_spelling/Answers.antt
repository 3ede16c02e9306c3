use Rattle.request_codec.specs.Written.{spelling}
use Rattle.request_codec.proofs.OneSpelling.{one_value, spelled_once}
use Rattle.request_codec.proofs.Spelled.{spelled, formed_of, sized_of, length-spelled}
use Rattle.request_codec.proofs.laws.one_spelling.Goals as goal

pub returns-clause-one_value : goal.returns-clause-one_value
returns-clause-one_value c = one_value

pub returns-clause-at_most_one : goal.returns-clause-at_most_one
returns-clause-at_most_one c = spelled_once

pub returns-clause-one : goal.returns-clause-one
returns-clause-one c = λ v formed sized. (spelling v, spelled v formed sized)

pub returns-clause-no_other : goal.returns-clause-no_other
returns-clause-no_other c = λ v bytes h. (formed_of v bytes h, sized_of v bytes h)

pub returns-clause-as_long : goal.returns-clause-as_long
returns-clause-as_long c = length-spelled
