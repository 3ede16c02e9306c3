use Rattle.std.proofs.Common.{ap, ◌∙◌, subst}
use Rattle.std.specs.Prelude.{IsTrue}
use Rattle.grain_id.specs.Words.{is_word}
use Rattle.grain_id.specs.Names.{is_client}
use Rattle.grain_id.proofs.Reading.{client_parts}
use Rattle.grain_id.proofs.caller.Caller.to_tenant.Goals as goal

pub of_word-requires : goal.of_word-requires
of_word-requires c = ap is_word c.tenant.ensures ∙ (client_parts c.args.self.now (subst (λ caller. IsTrue (is_client caller)) c.self.view_is c.self.invariant.well_formed)).0
