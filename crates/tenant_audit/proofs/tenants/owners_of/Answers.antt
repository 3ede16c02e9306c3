use Rattle.silo_model.proofs.Common.{[], ◌∙◌, Grain, List, Row, Step, subst, ℕ}
use Rattle.std.proofs.lemmas.Result.{IfOk-weaker}
use Rattle.journal_text.specs.declared.recorded.RecordedReply.{RecordedReply}
use Rattle.tenant_audit.specs.inside.Owners.{Gains, step_owners, reply_owners, row_owners}
use Rattle.tenant_audit.proofs.Owners.{owners_found}
use Rattle.tenant_audit.proofs.tenants.owners_of.Goals as goal

pub returns : goal.returns
returns c =
    let j = c.args.journal.now in
    let one : Gains [] (step_owners j.steps) c.add_steps.new.owners.keys =
    subst (λ (old : List (List ℕ)). Gains old (step_owners j.steps) c.add_steps.new.owners.keys) c.new-owners.ensures.empty
    (subst (λ (steps : List Step). Gains c.new-owners.result.keys (step_owners steps) c.add_steps.new.owners.keys) c.steps.ensures c.in_ok-add_steps.ensures) in
    IfOk-weaker c.names_in.result _ _
    (λ names h. h ∙ owners_found (step_owners j.steps) (reply_owners j.replies) (row_owners j.rows) c.add_steps.new.owners.keys c.add_replies.new.owners.keys c.add_rows.new.owners.keys one (subst (λ (rs : List RecordedReply). Gains c.add_steps.new.owners.keys (reply_owners rs) c.add_replies.new.owners.keys) c.replies.ensures c.in_ok-add_replies.ensures) (subst (λ (rs : List (Grain × Row)). Gains c.add_replies.new.owners.keys (row_owners rs) c.add_rows.new.owners.keys) c.rows.ensures.rows c.in_ok-add_rows.ensures) c.names_in.ensures.ordered)
    c.names_in.ensures.names
