use Rattle.clap.specs.Words.{kind_of}
use Rattle.silo_words.specs.Words.{texts_of}
use Rattle.silo_words.proofs.WordLemmas.{IsWhy-fails}
use Rattle.silo_words.proofs.reading.read_words.Goals as goal

pub returns-in-Err-clause-fault : goal.returns-in-Err-clause-fault
returns-in-Err-clause-fault c = IsWhy-fails (texts_of c.args.words.now) (kind_of c.in-Err.error) c.fault_of.result c.in-Err.ensures.kind c.fault_of.ensures
