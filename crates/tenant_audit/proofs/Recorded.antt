-- What is recorded of a reply.
use Rattle.silo_model.proofs.Common.{◌∙◌, ◌≡◌, Bool, Ok, Reply, Result, Tree, ap, sym}
use Rattle.std.proofs.Common.{◌↔◌, IsTrue}
use Rattle.journal_text.specs.RecordedReply.{recorded_of, recorded_outcome}
use Rattle.journal_text.specs.RecordedFault.{CodeAndText}
use Rattle.journal_text.specs.declared.recorded.RecordedReply.{RecordedReply}

-- a recorded value is what is recorded of a reply, if both say the same
pub same_ok : (recorded : RecordedReply) (reply : Reply) (told value : Tree) (b : Bool) → recorded.recipient ≡ reply.recipient → recorded.outcome ≡ Ok told → reply.outcome ≡ Ok value → IsTrue b ↔ (told ≡ value) → IsTrue b ↔ (recorded ≡ recorded_of reply)
same_ok recorded reply told value b same is_told_so is_value iff = (
  λ t. λ j. record { recipient = same j; outcome = (is_told_so ∙ ap Ok (iff.0 t) ∙ sym (ap recorded_outcome is_value)) j },
  λ e. iff.1
      (let alike : ◌≡◌ {A = Result Tree CodeAndText} (Ok told) (Ok value) = sym is_told_so ∙ ap (λ (r : RecordedReply). r.outcome) e ∙ ap recorded_outcome is_value in
      cc),
)
