use Rattle.command_parts.specs.Setups.{version_of}
use Rattle.command_parts.proofs.KeptLemmas.{made_again}
use Rattle.command_parts.proofs.journals.text_of.Goals as goal

pub returns-clause-is_journal : goal.returns-clause-is_journal
returns-clause-is_journal g c =
    made_again c.write_journal.result (version_of g.L.GrainLogic.logic c.args.kinds) c.args.silo.now c.write_journal.ensures.text c.write_journal.ensures.is_journal
