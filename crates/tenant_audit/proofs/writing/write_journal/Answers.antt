use Rattle.std.proofs.Common.{subst, sym, ℕ, ◌≡◌}
use Rattle.std.specs.Prelude.{IfOk, None}
use Rattle.grain_logic.specs.Logic.{Logic}
use Rattle.journal_text.specs.JournalAnswers.{IsJournalText}
use Rattle.journal_text.specs.Rules.{IsKinds}
use Rattle.journal_text.specs.Text.{journal_text}
use Rattle.audit_model.specs.Report.{IsFirstDifference}
use Rattle.silo_journal.specs.SiloJournal.{journal_of}
use Rattle.tenant_audit.proofs.Versions.{may_stand}
use Rattle.tenant_audit.proofs.writing.write_journal.Goals as goal

pub returns-clause-text : goal.returns-clause-text
returns-clause-text g c =
    subst (λ (n : ℕ). IfOk c.write_journal.result (λ text. text.items ≡ journal_text (journal_of n c.args.silo.now))) c.number.ensures c.write_journal.ensures.text

pub returns-clause-is_journal : goal.returns-clause-is_journal
returns-clause-is_journal g c asked =
    subst (λ (n : ℕ). IfOk c.write_journal.result (λ text. IsJournalText text.items (journal_of n c.args.silo.now))) c.number.ensures
    (c.write_journal.ensures.is_journal (subst IsKinds (sym c.number.ensures) (may_stand g.L.Version.number g.met.L.Version.may_be_named)) asked)

pub returns-clause-no_difference : goal.returns-clause-no_difference
returns-clause-no_difference g c tenant =
    subst (λ (l : Logic). IsFirstDifference l (journal_of g.L.Version.number c.args.silo.now) tenant None) (sym g.met.L.Version.named)
    (subst (λ (n : ℕ). IsFirstDifference g.L.GrainLogic.logic (journal_of n c.args.silo.now) tenant None) c.number.ensures (c.write_journal.ensures.no_difference tenant))
