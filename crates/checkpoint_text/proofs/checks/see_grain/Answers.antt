use Rattle.std.proofs.Common.{arith, refl, subst, sym}
use Rattle.std.specs.Prelude.{◌<◌, ◌^◌, ℕ}
use Rattle.journal_text.specs.Form.{written}
use Rattle.journal_text.proofs.Forms.{has_state}
use Rattle.checkpoint_text.proofs.checks.see_grain.Goals as goal

pub returns : goal.returns
returns c =
    let bytes = c.bytes.result.now in
    (c.text.ensures.well_formed, c.see_version.ensures, subst (λ (n : ℕ). n < 2 ^ 63) c.get.ensures.value c.get.ensures.in_range, omega arith, has_state written c.args.parts.now.state bytes bytes refl c.see_bytes.ensures c.bytes.ensures.reads (sym c.bytes.ensures.exact))
