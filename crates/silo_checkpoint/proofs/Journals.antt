-- The journal in a checkpoint, as it is read and as it is written.
use Rattle.std.proofs.Common.{◌≡◌, ◌≤◌, ℕ, List, [], ◌∷◌, ◌++◌, length, map, ap, refl, subst, sym, ◌∙◌}
use Rattle.std.specs.Prelude.{All, Err, IsErrAnd, Result}
use Rattle.std.specs.FinMap.{entries}
use Rattle.std.proofs.lemmas.Result.{err_from_is_err_and}
use Rattle.std.proofs.lemmas.List.Elements.{All-cons, All-head, All-nil, All-tail}
use Rattle.grain_id.specs.Names.{Grain}
use Rattle.grain_storage.specs.declared.row.Row.{Row}
use Rattle.tenant_gate.specs.Age.{IsAge}
use Rattle.idle_collector.specs.Ages.{IsTable as AreAges}
use Rattle.journal_text.specs.FirstFault.{IsFirstFault}
use Rattle.journal_text.specs.JournalAnswers.{IsJournalText}
use Rattle.journal_text.specs.Rules.{IsInRange, IsKinds, IsLine, IsTable}
unfoldable use Rattle.journal_text.specs.Text.{journal_lines}
use Rattle.journal_text.specs.Text.{History, body, row_line, start_lines}
use Rattle.journal_text.specs.declared.form.Form.{Form}
use Rattle.journal_text.specs.declared.line.Line.TheVariants as line
use Rattle.journal_text.proofs.DraftJournals.{All-back, All-front}
use Rattle.journal_text.proofs.OneText.{one_text_of}
use Rattle.silo_model.specs.Opening.{Setup}
use Rattle.checkpoint_text.specs.Rules.{IsCheckpoint}
use Rattle.checkpoint_text.specs.Text.{Checkpoint, checkpoint_text}
use Rattle.checkpoint_text.specs.declared.fault.CheckpointFault.{CheckpointFault}
use Rattle.checkpoint_text.specs.declared.fault.CheckpointFault.TheVariants as faults
use Rattle.silo_checkpoint.specs.Answers.{ReadsSaved}
use Rattle.silo_checkpoint.specs.Saved.{opening_journal}
use Rattle.silo_checkpoint.specs.declared.saved.Saved.{Saved as Read}
use Rattle.silo_checkpoint.specs.declared.told.Told.{Told}
use Rattle.silo_checkpoint.specs.inside.Told.{AreCounted, FindsJournal, ReadsTold, rows_in}
use Rattle.silo_checkpoint.proofs.Listed.{entries_ascend, listed}

-- ---- read

pub none_found : (bytes : List ℕ) (number : ℕ) → IsFirstFault bytes number → (j : History) → IsJournalText bytes j → ⊥
none_found bytes number fault j is = fault.no_journal is.form j is.keeps is.text

-- the journal without its steps and replies
abbrev pub at_opening : History → History
at_opening j = record j { steps = []; replies = [] }

-- it is the journal, if that has none
pub told_so : (bytes : List ℕ) (j k : History) → IsJournalText bytes j → k ≡ at_opening j → (j.steps ≡ []) × (j.replies ≡ []) → IsJournalText bytes k × (entries (rows_in k.rows) ≡ k.rows)
told_so bytes j k is same none =
    let text : IsJournalText bytes k = subst (IsJournalText bytes) (sym (same ∙ (λ i. record j { steps = sym none.0 i; replies = sym none.1 i }))) is in
    (text, listed k.rows text.keeps.ascending)

-- else the bytes are the text of none that has none
pub told_not : (bytes : List ℕ) (j : History) → IsJournalText bytes j → ((j.steps ≡ []) × (j.replies ≡ []) → ⊥) → (k : History) → k.steps ≡ [] → k.replies ≡ [] → IsJournalText bytes k → ⊥
told_not bytes j is has k no_steps no_replies also =
    let same : j ≡ k = one_text_of bytes j k is also in
    has (ap (λ (h : History). h.steps) same ∙ no_steps, ap (λ (h : History). h.replies) same ∙ no_replies)

-- ---- written

pub in_range : (kinds : ℕ) (setup : Setup) → IsKinds kinds → IsAge setup.age → AreAges setup.ages → IsTable setup.tenants → AreCounted (entries setup.rows) → IsInRange (opening_journal kinds setup)
in_range kinds setup named aged ages table counted = record {
  kinds = named;
  age = aged;
  ages = ages;
  is_table = table;
  numbers = record { steps = All-nil _; replies = All-nil _; versions = counted };
  ascending = entries_ascend setup.rows;
}

rows_counted : (form : Form) (rows : List (Grain × Row)) → All (IsLine form) (map row_line rows) → AreCounted rows
rows_counted form [] all = All-nil _
rows_counted form (row ∷ rows) all =
    All-cons (λ (r : Grain × Row). 1 ≤ r.1.version) row rows (All-head (IsLine form) (row_line row) (map row_line rows) all).1.0
    (rows_counted form rows (All-tail (IsLine form) (row_line row) (map row_line rows) all))

-- the versions of a journal's rows are above 0
pub counted_so : (bytes : List ℕ) (j : History) → IsJournalText bytes j → AreCounted j.rows
unfolding journal_lines
counted_so bytes j is =
    let lines = All-front (IsLine is.form) (start_lines is.form j.kinds j.age ++ body j) (line.Close (length j.steps) ∷ []) is.keeps.lines in
    rows_counted is.form j.rows (All-back (IsLine is.form) _ (map row_line j.rows) (All-back (IsLine is.form) (start_lines is.form j.kinds j.age) (body j) lines))

-- ---- faults that are handed on

no_journal : (bytes : List ℕ) (why : CheckpointFault) → FindsJournal bytes (Err why) → ReadsTold bytes (Err why)
no_journal bytes faults.NoCheckpoint none = λ j no_steps no_replies is. none j is
no_journal bytes faults.Memory none = tt

pub handed : (bytes : List ℕ) (r : Result Told CheckpointFault) (why : CheckpointFault) → IsErrAnd r (λ y. y ≡ why) → FindsJournal bytes (Err why) → ReadsTold bytes r
handed bytes r why is none =
    let p = err_from_is_err_and r is in
    subst (ReadsTold bytes) (sym (p.1 ∙ ap Err p.2)) (no_journal bytes why none)

-- a checkpoint whose journal isn't read says nothing
says_none : (bytes : List ℕ) (c : Checkpoint) (why : CheckpointFault) → ((d : Checkpoint) → IsCheckpoint d → bytes ≡ checkpoint_text d → c ≡ d) → ReadsTold c.journal (Err why) → ReadsSaved bytes (Err why)
says_none bytes c faults.NoCheckpoint only none = λ saved text.
    let journal = opening_journal saved.kinds saved.setup in
    none journal refl refl (subst (λ (d : Checkpoint). IsJournalText d.journal journal) (sym (only text.checkpoint text.is text.text)) text.journal)
says_none bytes c faults.Memory only none = tt

pub told_none : (bytes told : List ℕ) (c : Checkpoint) (r : Result Read CheckpointFault) (why : CheckpointFault) → ((d : Checkpoint) → IsCheckpoint d → bytes ≡ checkpoint_text d → c ≡ d) → IsErrAnd r (λ y. y ≡ why) → told ≡ c.journal → ReadsTold told (Err why) → ReadsSaved bytes r
told_none bytes told c r why only is same none =
    let p = err_from_is_err_and r is in
    subst (ReadsSaved bytes) (sym (p.1 ∙ ap Err p.2)) (says_none bytes c why only (subst (λ (bs : List ℕ). ReadsTold bs (Err why)) same none))
