use Rattle.std.proofs.Common.{length, true≢false, ap, sym, ◌∙◌}
use Rattle.std.proofs.lemmas.Bool.{eq-eqb, eqb-true}
use Rattle.silo_state.proofs.NothingKept.{no_accounts, no_grains, nothing_from}
use Rattle.silo_state.proofs.parts.KeptParts.is_nothing.Goals as goal

pub returns-then-not-is_empty : goal.returns-then-not-is_empty
returns-then-not-is_empty c = (
  (λ told. absurd (true≢false (sym told))),
  (λ is. c.if-not-is_empty.ensures ∙ eq-eqb (length c.as_slice.result.now) 0 (ap length c.as_slice.ensures.value ∙ no_accounts c.args.self.now is)),
)

pub returns : goal.returns
returns c = (
  (λ told. nothing_from c.args.self.now (sym c.get.ensures.value ∙ c.if-get-ne0.false)
      (sym (ap length c.as_slice.ensures.value) ∙ eqb-true (length c.as_slice.result.now) 0 (sym c.if-not-is_empty.ensures)) (sym (ap length c.as_slice-2.ensures.value) ∙ eqb-true (length c.as_slice-2.result.now) 0 (sym c.is_empty-2.ensures ∙ told))),
  (λ is. c.is_empty-2.ensures ∙ eq-eqb (length c.as_slice-2.result.now) 0 (ap length c.as_slice-2.ensures.value ∙ no_grains c.args.self.now is)),
)
