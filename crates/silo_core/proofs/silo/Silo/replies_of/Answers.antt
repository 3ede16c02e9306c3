use Rattle.std.proofs.Common.{ap, ◌∙◌}
use Rattle.std.specs.Prelude.{filter}
use Rattle.std.proofs.lemmas.Result.{IfOk-weaker}
use Rattle.silo_model.specs.Whole.{is_to, shown_to}
use Rattle.silo_core.specs.History.{History}
use Rattle.silo_core.proofs.silo.Silo.replies_of.Goals as goal

pub returns : goal.returns
unfolding shown_to
returns g c =
    IfOk-weaker c.sent_to.result _ _
    (λ found h. h ∙ ap (filter (is_to c.args.tenant.now)) (c.replies.ensures ∙ ap (λ (k : History). k.whole.replies) c.self.view_is))
    c.sent_to.ensures
