use Rattle.grain_logic.specs.LawsOfCounters.{counters_lawful}
use Rattle.grain_logic.specs.LawsOfForms.{readers_ask_nothing}
use Rattle.grain_logic.proofs.laws.lawful.Goals as goal

pub returns-clause-counters : goal.returns-clause-counters
returns-clause-counters c = counters_lawful

pub returns-clause-readers : goal.returns-clause-readers
returns-clause-readers c = readers_ask_nothing
