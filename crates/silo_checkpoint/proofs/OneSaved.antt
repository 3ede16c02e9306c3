-- A checkpoint says one thing.
use Rattle.std.proofs.Common.{◌≡◌, ℕ, List, ap, subst, sym, ◌∙◌}
use Rattle.silo_model.specs.Opening.{Setup}
use Rattle.journal_text.specs.JournalAnswers.{IsJournalText}
use Rattle.journal_text.specs.Text.{History}
use Rattle.journal_text.proofs.OneText.{one_text_of}
use Rattle.checkpoint_text.specs.Text.{Checkpoint}
use Rattle.checkpoint_text.proofs.Whole.{one_text}
use Rattle.silo_checkpoint.specs.Saved.{HasText, Saved, kept_of, opening_journal}
use Rattle.silo_checkpoint.specs.inside.Told.{rows_in}
use Rattle.silo_checkpoint.proofs.Listed.{rows_again}

-- setups that are kept alike and have one journal are one
same_setup : (k l : ℕ) (s t : Setup) → s.kept ≡ t.kept → opening_journal k s ≡ opening_journal l t → s ≡ t
same_setup k l s t kept same = λ i. record {
  tenants = (ap (λ (h : History). h.tenants) same) i;
  age = (ap (λ (h : History). h.age) same) i;
  ages = (ap (λ (h : History). h.ages) same) i;
  rows = (sym (rows_again s.rows) ∙ ap (λ (h : History). rows_in h.rows) same ∙ rows_again t.rows) i;
  kept = kept i;
}

pub one_saved : (bytes : List ℕ) (a b : Saved) → HasText bytes a → HasText bytes b → a ≡ b
one_saved bytes a b is also =
    let one : is.checkpoint ≡ also.checkpoint = one_text is.checkpoint also.checkpoint is.is also.is (sym is.text ∙ also.text) in
    let journal : opening_journal a.kinds a.setup ≡ opening_journal b.kinds b.setup =
    one_text_of is.checkpoint.journal (opening_journal a.kinds a.setup) (opening_journal b.kinds b.setup) is.journal
    (subst (λ (c : Checkpoint). IsJournalText c.journal (opening_journal b.kinds b.setup)) (sym one) also.journal) in
    let kept : a.setup.kept ≡ b.setup.kept = is.kept ∙ ap kept_of one ∙ sym also.kept in
    λ i. record {
      follows = (sym is.follows ∙ ap (λ (c : Checkpoint). c.follows) one ∙ also.follows) i;
      kinds = (ap (λ (h : History). h.kinds) journal) i;
      sends = (sym is.sends ∙ ap (λ (c : Checkpoint). c.sends) one ∙ also.sends) i;
      setup = (same_setup a.kinds b.kinds a.setup b.setup kept journal) i;
    }
