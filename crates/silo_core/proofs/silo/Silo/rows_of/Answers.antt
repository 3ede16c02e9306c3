use Rattle.std.proofs.Common.{ap, sym, ◌∙◌}
use Rattle.std.specs.Prelude.{filter}
use Rattle.std.specs.FinMap as map
use Rattle.std.proofs.lemmas.Result.{IfOk-weaker}
use Rattle.silo_model.specs.Whole.{is_of, shown_to}
use Rattle.silo_core.specs.History.{History}
use Rattle.silo_core.proofs.Opened.{entries-retained}
use Rattle.silo_core.proofs.silo.Silo.rows_of.Goals as goal

pub returns : goal.returns
unfolding shown_to
returns g c =
    let tenant = c.args.tenant.now in
    IfOk-weaker c.stored_of.result _ _
    (λ found h.
    h
    ∙ ap (filter (λ entry. is_of tenant entry.0)) (c.in_ok-all.ensures ∙ ap map.entries (c.storage.ensures.rows ∙ ap (λ (k : History). k.whole.rows) c.self.view_is))
    ∙ sym (entries-retained c.args.self.now.whole.rows (is_of tenant)))
    c.stored_of.ensures
