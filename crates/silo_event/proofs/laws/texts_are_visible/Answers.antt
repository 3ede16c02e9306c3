use Rattle.silo_event.proofs.Texts as lemmas
use Rattle.silo_event.proofs.laws.texts_are_visible.Goals as goal

pub returns : goal.returns
returns c = lemmas.texts_are_visible
