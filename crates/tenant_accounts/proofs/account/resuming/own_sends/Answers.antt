use Rattle.std.proofs.Common.{◌≡◌, false, true, ◌∷◌, [], ◌++◌, ◌+◌, map, take, ap, sym, ◌∙◌}
use Rattle.std.proofs.lemmas.List.{append-nil, map-append, take_more}
use Rattle.grain_id.specs.Names.{same_text}
use Rattle.tenant_accounts.specs.Kept.{own_sends}
use Rattle.tenant_accounts.specs.Sends.{send_of}
use Rattle.tenant_accounts.proofs.KeptAccounts.{own_push}
use Rattle.tenant_accounts.proofs.account.resuming.own_sends.Goals as goal
use Rattle.tenant_accounts.proofs.account.resuming.own_sends.Goals.{then-eq+in_ok-copied+in_ok-push_back, else-eq}

pub loop-sent-preserved : goal.loop-sent-preserved
loop-sent-preserved c =
    let tenant = c.args.tenant.now in
    let list = c.args.sends.now in
    let i = c.loop-sent.sent-index in
    let sent = c.sent-item.result in
    let before = map send_of (take i list) in
    let longer : before ++ send_of sent ∷ [] ≡ map send_of (take (i + 1) list) =
    sym (map-append send_of (take i list) (sent ∷ []))
    ∙ ap (map send_of) (ap (λ e. take i list ++ e ∷ []) c.sent-item.is ∙ sym (take_more list i sent c.loop-sent-test.true)) in
    let own = ap (λ name. same_text name tenant) (sym c.tenant.ensures) ∙ sym c.eq.ensures in
    elim c.if-eq.branch [
      | then-eq+in_ok-copied+in_ok-push_back w ↦
          ap (λ q. map send_of q.items) w.own-is
          ∙ ap (map send_of) w.in_ok-push_back.ensures.items
          ∙ map-append send_of c.loop-sent.own.items (w.in_ok-copied.field-0 ∷ [])
          ∙ (λ j. c.loop-sent.invariant j ++ w.in_ok-copied.ensures j ∷ [])
          ∙ sym (own_push tenant before (send_of sent) true (own ∙ w.if-eq.true))
          ∙ ap (own_sends tenant) longer
      | else-eq w ↦
          ap (λ q. map send_of q.items) w.own-is
          ∙ c.loop-sent.invariant
          ∙ sym (append-nil (own_sends tenant before))
          ∙ sym (own_push tenant before (send_of sent) false (own ∙ w.if-eq.false))
          ∙ ap (own_sends tenant) longer
    ]
