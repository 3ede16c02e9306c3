use Rattle.std.proofs.Common.{ap, sym, ◌∙◌, subst}
use Rattle.std.specs.Option.{option_copied}
use Rattle.std.specs.FinMap as map
use Rattle.std.proofs.lemmas.Option.{none-some, same_Some}
use Rattle.std.proofs.lemmas.Result.{IfOk-weaker}
use Rattle.silo_model.specs.Pending.{sends_of}
use Rattle.tenant_accounts.specs.Sends.{first_source}
use Rattle.line_answer.specs.Delivering.{HasDelivered}
use Rattle.line_answer.proofs.Delivering.{goes_nowhere}
use Rattle.line_answer.proofs.bringing.deliver_behind.Goals as goal

pub returns-in_default : goal.returns-in_default
returns-in_default g c = λ call caller ends asks.
    absurd (none-some caller (ap option_copied (sym c.in_default.is) ∙ c.last_caller.ensures call ends ∙ asks))

pub returns-in_default-oldest_sender : goal.returns-in_default-oldest_sender
returns-in_default-oldest_sender g c = λ call caller ends asks.
    let old = c.args.silo.now in
    let found = same_Some _ caller (ap option_copied (sym c.in-Some.is) ∙ c.last_caller.ensures call ends ∙ asks) in
    let tenant = c.tenant.ensures ∙ ap (λ x. x.tenant) found in
    goes_nowhere g.L.GrainLogic.logic c.args.most caller.tenant old
    (ap (λ t. first_source (sends_of (map.get old.whole.accounts t))) (sym tenant) ∙ sym c.oldest_sender.ensures ∙ ap option_copied c.in_default-oldest_sender.is)

pub returns : goal.returns
returns g c =
    let logic = g.L.GrainLogic.logic in
    let old = c.args.silo.now in
    IfOk-weaker c.deliver-delivered.result _ _ (λ memory delivered call caller ends asks.
    let found = same_Some _ caller (ap option_copied (sym c.in-Some.is) ∙ c.last_caller.ensures call ends ∙ asks) in
    let tenant = c.tenant-2.ensures ∙ ap (λ x. x.tenant) (c.in_ok-caller.ensures.cases ∙ found) in
    subst (λ t. HasDelivered logic c.args.most t old memory c.deliver-delivered.new.silo) tenant delivered)
    c.deliver-delivered.ensures
