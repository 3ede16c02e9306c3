use Rattle.std.proofs.Common.{◌∙◌}
use Rattle.grain_id.specs.Names.{same_text}
use Rattle.grain_id.proofs.Reading.{same_text-client_text}
use Rattle.grain_id.proofs.caller.CallerPartialEq.eq.Goals as goal

pub returns : goal.returns
returns c =
    c.eq.ensures ∙ (λ i. same_text (c.text.ensures.text i) (c.text-2.ensures.text i))
    ∙ same_text-client_text c.args.self.now c.args.other.now c.text.ensures.well_formed c.text-2.ensures.well_formed
