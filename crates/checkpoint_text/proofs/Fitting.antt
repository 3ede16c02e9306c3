-- What a reader answers, by what it read.
use Rattle.std.proofs.Common.{◌≡◌, ℕ, Bool, List, Some, Err, ap, subst, sym, ◌∙◌}
use Rattle.std.specs.Prelude.{◌↔◌, IsErrAnd, IsTrue, Result}
use Rattle.std.specs.Str.{IsUtf8}
use Rattle.std.proofs.lemmas.Option.{none-some, same_Some}
use Rattle.std.proofs.lemmas.Result.{err_from_is_err_and}
use Rattle.grain_id.specs.Names.{same_text}
use Rattle.grain_id.specs.Order.{same_text_decides}
use Rattle.journal_text.specs.declared.fault.LineFault.{LineFault}
use Rattle.journal_text.specs.declared.fault.LineFault.TheVariants as faults
use Rattle.journal_text.specs.inside.Answers.{Misses}
use Rattle.checkpoint_text.specs.declared.checkpoint.Checkpoint.{Checkpoint as Read}
use Rattle.checkpoint_text.specs.declared.fault.CheckpointFault.{CheckpointFault}
use Rattle.checkpoint_text.specs.Answers.{ReadsCheckpoint}
use Rattle.checkpoint_text.specs.Rules.{IsCheckpoint}
use Rattle.checkpoint_text.specs.Text.{Checkpoint, checkpoint_text}
use Rattle.checkpoint_text.specs.inside.Reading.{body_at, body_of, fault_of_line}
use Rattle.checkpoint_text.proofs.Ascii.{body_utf8}
use Rattle.checkpoint_text.proofs.Whole.{body_is, read_back}

pub utf8_body : (bytes : List ℕ) (c : Checkpoint) → IsCheckpoint c → bytes ≡ checkpoint_text c → IsUtf8 (body_of bytes)
utf8_body bytes c is same = subst IsUtf8 (sym (ap body_of same ∙ body_is c)) (body_utf8 c is)

found : (bytes : List ℕ) (c : Checkpoint) → IsCheckpoint c → bytes ≡ checkpoint_text c → body_at (body_of bytes) ≡ Some c
found bytes c is same = ap (λ b. body_at (body_of b)) same ∙ read_back c is

fails : (bytes : List ℕ) (why : LineFault) → Misses why (body_at (body_of bytes)) → ReadsCheckpoint bytes (Err (fault_of_line why))
fails bytes faults.NoForm none = λ c is same. none-some c (sym none ∙ found bytes c is same)
fails bytes faults.Memory none = tt

pub fails_too : (bytes : List ℕ) (r : Result Read CheckpointFault) (why : LineFault) → IsErrAnd r (λ y. y ≡ fault_of_line why) → Misses why (body_at (body_of bytes)) → ReadsCheckpoint bytes r
fails_too bytes r why is none =
    let p = err_from_is_err_and r is in
    subst (ReadsCheckpoint bytes) (sym (p.1 ∙ ap Err p.2)) (fails bytes why none)

-- what was read is the checkpoint whose text the bytes are
same_one : (bytes : List ℕ) (d : Checkpoint) → body_at (body_of bytes) ≡ Some d → (c : Checkpoint) → IsCheckpoint c → bytes ≡ checkpoint_text c → d ≡ c
same_one bytes d read c keeps same = same_Some d c (sym read ∙ found bytes c keeps same)

-- whether that is the bytes' text, by a comparison
pub text_of : (bytes text : List ℕ) (d : Checkpoint) (b : Bool) → IsCheckpoint d → text ≡ checkpoint_text d → b ≡ same_text text bytes
    → IsTrue b ↔ (IsCheckpoint d × (bytes ≡ checkpoint_text d))
text_of bytes text d b may is test = (
  λ same. (may, sym ((same_text_decides text bytes).0 (sym test ∙ same)) ∙ is),
  λ both. test ∙ (same_text_decides text bytes).1 (is ∙ sym both.1),
)

-- it is, if it may stand in a checkpoint and the bytes are its text
pub fits : (bytes : List ℕ) (d : Checkpoint) → body_at (body_of bytes) ≡ Some d → IsCheckpoint d × (bytes ≡ checkpoint_text d)
    → IsCheckpoint d × (bytes ≡ checkpoint_text d) × ((c : Checkpoint) → IsCheckpoint c → bytes ≡ checkpoint_text c → d ≡ c)
fits bytes d read is = (is.0, is.1, same_one bytes d read)

-- else the bytes are the text of nothing
pub fits_none : (bytes : List ℕ) (d : Checkpoint) → body_at (body_of bytes) ≡ Some d → (IsCheckpoint d × (bytes ≡ checkpoint_text d) → ⊥) → (c : Checkpoint) → IsCheckpoint c → bytes ≡ checkpoint_text c → ⊥
fits_none bytes d read is_not c keeps same =
    let one : d ≡ c = same_one bytes d read c keeps same in
    is_not (subst IsCheckpoint (sym one) keeps, same ∙ ap checkpoint_text (sym one))
