-- The journal in a checkpoint, as it is read.
use Rattle.std.proofs.Common.{◌≡◌, ℕ, List, ap, subst, sym, ◌∙◌}
use Rattle.std.specs.Prelude.{Err, IsErrAnd, Option, Result, String}
use Rattle.std.specs.declared.alloc.Global.{Global}
use Rattle.std.proofs.lemmas.Result.{err_from_is_err_and}
use Rattle.journal_text.specs.FirstFault.{IsFirstFault}
use Rattle.journal_text.specs.JournalAnswers.{IsJournalText}
use Rattle.journal_text.specs.Text.{History}
use Rattle.journal_text.proofs.OneText.{one_text_of}
use Rattle.checkpoint_text.specs.Rules.{IsCheckpoint}
use Rattle.checkpoint_text.specs.Text.{Checkpoint, checkpoint_text}
use Rattle.checkpoint_text.specs.declared.fault.CheckpointFault.{CheckpointFault}
use Rattle.checkpoint_text.specs.declared.fault.CheckpointFault.TheVariants as faults
use Rattle.rows_command.specs.Rows.{IsOpening}
use Rattle.rows_command.specs.inside.Reading.{FindsOpening, ReadsListing}

-- the bytes are the text of no journal
pub none_found : (bytes : List ℕ) (number : ℕ) → IsFirstFault bytes number → (j : History) → IsJournalText bytes j → IsOpening j → ⊥
none_found bytes number fault j is opening = fault.no_journal is.form j is.keeps is.text

-- or of one that isn't such
pub none_such : (bytes : List ℕ) (j : History) → IsJournalText bytes j → (IsOpening j → ⊥) → (k : History) → IsJournalText bytes k → IsOpening k → ⊥
none_such bytes j is never k also opening = never (subst IsOpening (sym (one_text_of bytes j k is also)) opening)

-- a checkpoint whose journal isn't read is refused
no_point : (bytes : List ℕ) (tenant : Option (List ℕ)) (c : Checkpoint) (why : CheckpointFault)
    → ((d : Checkpoint) → IsCheckpoint d → bytes ≡ checkpoint_text d → c ≡ d) → FindsOpening c.journal (Err why) → ReadsListing bytes tenant (Err why)
no_point bytes tenant c faults.NoCheckpoint only none = λ d j point.
    none j (subst (λ (e : Checkpoint). IsJournalText e.journal j) (sym (only d point.is point.text)) point.holds) point.opening
no_point bytes tenant c faults.Memory only none = tt

pub opening_none : (bytes told : List ℕ) (tenant : Option (List ℕ)) (c : Checkpoint) (r : Result (String Global) CheckpointFault) (why : CheckpointFault)
    → ((d : Checkpoint) → IsCheckpoint d → bytes ≡ checkpoint_text d → c ≡ d) → IsErrAnd r (λ y. y ≡ why) → told ≡ c.journal → FindsOpening told (Err why)
    → ReadsListing bytes tenant r
opening_none bytes told tenant c r why only is same none =
    let p = err_from_is_err_and r is in
    subst (ReadsListing bytes tenant) (sym (p.1 ∙ ap Err p.2)) (no_point bytes tenant c why only (subst (λ (bs : List ℕ). FindsOpening bs (Err why)) same none))
