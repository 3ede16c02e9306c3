use Rattle.std.proofs.Common.{ap, ◌∙◌, subst}
use Rattle.std.specs.Prelude.{IsTrue}
use Rattle.grain_id.specs.Words.{is_word}
use Rattle.grain_id.specs.Names.{is_grain}
use Rattle.grain_id.proofs.Reading.{grain_parts}
use Rattle.grain_id.proofs.grain.GrainId.to_tenant.Goals as goal

pub of_word-requires : goal.of_word-requires
of_word-requires c = ap is_word c.tenant.ensures ∙ (grain_parts c.args.self.now (subst (λ grain. IsTrue (is_grain grain)) c.self.view_is c.self.invariant.well_formed)).1
