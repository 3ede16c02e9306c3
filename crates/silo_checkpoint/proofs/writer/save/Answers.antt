use Rattle.std.proofs.Common.{ap, refl, subst, sym, ◌∙◌, true≢false}
use Rattle.std.specs.Prelude.{List, Ok, ℕ}
use Rattle.journal_text.specs.JournalAnswers.{IsJournalText}
use Rattle.checkpoint_text.specs.Answers.{checkpoint_by}
use Rattle.silo_checkpoint.specs.Saved.{opening_journal, saved_by}
use Rattle.silo_checkpoint.proofs.Spelled.{spelled}
use Rattle.silo_checkpoint.proofs.writer.save.Goals as goal

pub returns-in_default-clause-none : goal.returns-in_default-clause-none
returns-in_default-clause-none g c none bytes text = c.in_ok-journal.ensures.none (ap Ok c.in_default.is) text.checkpoint.journal text.journal

pub returns-then-not-may_stand-clause-none : goal.returns-then-not-may_stand-clause-none
returns-then-not-may_stand-clause-none g c none bytes text =
    let setup = c.args.silo.now.setup in
    let parts = checkpoint_by c.args.follows.now c.args.sends c.opening_kept.result.now c.as_slice.result.now in
    let journal = opening_journal c.args.kinds setup in
    true≢false
    (sym
    (c.may_stand.ensures.spelled
    ∙ spelled bytes (saved_by c.args.follows.now c.args.kinds c.args.sends setup) text parts refl c.opening_kept.ensures journal
    (subst (λ (bs : List ℕ). IsJournalText bs journal) (sym c.as_slice.ensures.value) (rw c.in-Some.is at c.in_ok-journal.ensures.text)))
    ∙ c.if-not-may_stand.true)
