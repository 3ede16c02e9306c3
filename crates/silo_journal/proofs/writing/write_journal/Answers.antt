use Rattle.silo_model.proofs.Common.{◌∙◌, ◌≡◌, subst, sym}
use Rattle.std.specs.Prelude.{IfOk}
use Rattle.journal_text.specs.JournalAnswers.{IsJournalText}
use Rattle.idle_collector.specs.Ages.{IsTable as AreAges}
use Rattle.journal_text.specs.Rules.{IsInRange, IsTable}
use Rattle.journal_text.specs.Text.{History, history_of}
use Rattle.audit_model.specs.Parts.{all_recorded}
use Rattle.silo_journal.specs.SiloJournal.{journal_of}
use Rattle.silo_journal.proofs.SiloJournal.{in_range, own_journal}
use Rattle.silo_journal.proofs.writing.write_journal.Goals as goal

pub returns-in_err-rows-clause-no_difference : goal.returns-in_err-rows-clause-no_difference
returns-in_err-rows-clause-no_difference g c = λ tenant. own_journal g.L.GrainLogic.logic c.args.kinds c.args.silo.now tenant c.requires c.journal-steps.ensures.leads

pub returns-clause-is_journal : goal.returns-clause-is_journal
returns-clause-is_journal g c =
    let h = c.args.silo.now in
    let same : history_of c.args.kinds c.age.result c.list.result.now c.list-2.result.now c.journal-steps.result.now (all_recorded c.replies.result.now) c.as_slice.result.now ≡ journal_of c.args.kinds h =
    λ i.
    history_of c.args.kinds (c.age.ensures.age i) ((c.list.ensures.list ∙ c.ages.ensures) i) ((c.list-2.ensures.list ∙ c.tenants.ensures) i)
    (c.journal-steps.ensures.steps i) (all_recorded (c.replies.ensures i)) ((c.as_slice.ensures.value ∙ c.in_ok-rows.ensures) i) in
    λ is asked.
    subst (λ (j : History). IfOk c.journal_of_parts.result (λ text. IsJournalText text.items j)) same
    (c.journal_of_parts.ensures.is_journal
    (subst IsInRange (sym same)
    (in_range g.L.GrainLogic.logic c.args.kinds h c.requires c.journal-steps.ensures.leads is c.age.ensures.in_range (subst AreAges c.ages.ensures c.list.ensures.is_table) (subst IsTable c.tenants.ensures c.list-2.ensures.is_table) asked)))

pub returns-clause-no_difference : goal.returns-clause-no_difference
returns-clause-no_difference g c = λ tenant. own_journal g.L.GrainLogic.logic c.args.kinds c.args.silo.now tenant c.requires c.journal-steps.ensures.leads
