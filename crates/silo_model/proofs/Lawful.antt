-- A logic that keeps its laws is one that the laws of turns and requests are said of.
use Rattle.silo_model.proofs.Common.{Logic, ReadersAskNothing}
use Rattle.grain_logic.specs.Laws.{IsLawful}

pub lawful_readers : (logic : Logic) → IsLawful logic → ReadersAskNothing logic
lawful_readers logic laws kind method state argument reads = (laws.readers_change_nothing kind method state argument reads).nothing_asked
