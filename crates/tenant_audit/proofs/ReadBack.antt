-- What was written as a journal's text is read as that journal, and a journal without difference has no report of one.
use Rattle.silo_model.proofs.Common.{◌≡◌, List, Logic, None, start_of, ℕ}
use Rattle.std.specs.Prelude.{Ok, Err}
use Rattle.std.proofs.Common.{arith, ⊎_elim}
use Rattle.std.proofs.lemmas.List.Elements.{All-weaker}
use Rattle.grain_storage.specs.Memory.{rows_of}
use Rattle.journal_text.specs.JournalAnswers.{IsJournalText}
use Rattle.journal_text.specs.Text.{History}
use Rattle.journal_text.specs.declared.fault.JournalFault.TheVariants as faults
use Rattle.journal_text.proofs.Named.{names_own}
use Rattle.journal_text.proofs.OneText.{one_text_of}
use Rattle.grain_kinds.specs.Versions.{IsVersion}
use Rattle.audit_model.specs.Parts.{replies_for, rows_for, setup_of, steps_for}
use Rattle.audit_model.specs.Report.{IsFirstDifference, IsTenantReport, TenantReport}
use Rattle.audit_model.proofs.Differences.{one_difference}
use Rattle.tenant_audit.specs.ReadBack.{ReadsBack, ReportsNone}
use Rattle.tenant_audit.specs.Reading.{NamesNewer}

is_older : (text : List ℕ) (j : History) → IsJournalText text j → IsVersion j.kinds → NamesNewer text → ⊥
is_older text j written is newer = omega (arith, newer.newer, is.1, names_own text j written newer.kinds newer.names)

pub reads_back : ReadsBack
reads_back text j (Ok read) written is reads = one_text_of text read j reads.0 written
reads_back text j (Err (faults.At number)) written is reads =
    ⊎_elim (λ newer. is_older text j written is newer.0) (λ refused. refused.1.no_journal written.form j written.keeps written.text) reads
reads_back text j (Err faults.Memory) written is reads = tt

none_found : (logic : Logic) (j : History) → ((tenant : List ℕ) → IsFirstDifference logic j tenant None)
    → (r : TenantReport) → IsTenantReport logic j r → r.difference ≡ None
none_found logic j none r is =
    one_difference logic (start_of (setup_of j) r.tenant) (steps_for r.tenant j) (replies_for r.tenant j) (rows_of (rows_for r.tenant j)) r.difference None
    is.difference (none r.tenant)

pub reports_none : ReportsNone
reports_none logic j reports none is = All-weaker (IsTenantReport logic j) (λ r. r.difference ≡ None) (none_found logic j none) reports is.each
