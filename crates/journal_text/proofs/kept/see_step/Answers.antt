use Rattle.journal_text.proofs.kept.see_step.Goals as goal

pub returns-in-Call : goal.returns-in-Call
returns-in-Call c = rw c.in-Call.is (λ number. (c.text.ensures.well_formed, number, c.text-in-Call.ensures.well_formed, c.see_message.ensures))
