use Rattle.std.proofs.Common.{IfOk, [], rules, ◌∙◌, ◌≡◌}
use Rattle.std.proofs.lemmas.Result.{IfOk-weaker}
use Rattle.journal_text.specs.Text.{history_of, journal_text}
use Rattle.command_parts.specs.Setups.{version_of}
use Rattle.command_parts.proofs.KeptLemmas.{no_step}
use Rattle.command_parts.proofs.first_journal.empty_text.Goals as goal

pub returns : goal.returns
returns g c =
    let start = c.args.start.now in
    let parts : IfOk c.journal_of_parts.result (λ text. text.items ≡ journal_text (history_of start.kinds start.age start.ages start.tenants [] [] [])) = search rules in
    IfOk-weaker c.journal_of_parts.result _ _ (λ text is. is ∙ no_step (version_of g.L.GrainLogic.logic start.kinds) start.tenants start.age start.ages) parts
