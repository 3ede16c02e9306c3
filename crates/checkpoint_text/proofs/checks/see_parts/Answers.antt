use Rattle.std.proofs.Common.{◌<◌, ◌^◌, ℕ, List, arith, map, subst}
use Rattle.std.specs.Prelude.{All}
use Rattle.std.proofs.lemmas.List.{length-map}
use Rattle.tenant_accounts.specs.Parts.{kept_in}
use Rattle.checkpoint_text.specs.Answers.{grain_in}
use Rattle.checkpoint_text.specs.Rules.{IsGrain}
use Rattle.checkpoint_text.specs.inside.Kept.{KeepsAccount}
use Rattle.checkpoint_text.proofs.checks.see_parts.Goals as goal

pub returns : goal.returns
returns c =
    let kept = c.args.parts.now.kept.now in
    record {
      sends = omega arith;
      clock = subst (λ (n : ℕ). n < 2 ^ 63) c.get.ensures.value c.get.ensures.in_range;
      fewer = (omega (arith, length-map kept.accounts.items kept_in, c.len-accounts.ensures), omega (arith, length-map kept.grains.items grain_in, c.len-grains.ensures));
      accounts = subst (λ (l : List _). All KeepsAccount (map kept_in l)) c.as_slice.ensures.value c.see_accounts.ensures;
      grains = subst (λ (l : List _). All IsGrain (map grain_in l)) c.as_slice-2.ensures.value c.see_grains.ensures;
    }
