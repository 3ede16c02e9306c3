use Rattle.std.proofs.Common.{◌≡◌, ℕ, ◌+◌, ◌<◌, Bool, true, false, cond, List, [], ◌∷◌, ◌++◌, length, take, get_or, ap, sym, ◌∙◌}
use Rattle.std.specs.Prelude.{filter}
use Rattle.std.proofs.lemmas.List.{append-nil}
use Rattle.std.proofs.lemmas.List.Elements.{filter_more}
use Rattle.grain_id.specs.Names.{same_text}
use Rattle.silo_event.specs.declared.reply.Reply.{Reply}
use Rattle.silo_model.specs.Whole.{is_to}
use Rattle.silo_core.proofs.replies.sent_to.Goals as goal
use Rattle.silo_core.proofs.replies.sent_to.Goals.{then-eq+in_ok-copy_of+in_ok-push, else-eq}

-- the next reply is kept where the test passes
kept : (p : Reply → Bool) (all before after : List Reply) (n : ℕ) (reply : Reply) (b : Bool) → n < length all → reply ≡ get_or all n reply → before ≡ filter p (take n all) → p reply ≡ b → after ≡ before ++ cond b (reply ∷ []) [] → after ≡ filter p (take (n + 1) all)
kept p all before after n reply b within at had test is =
    is
    ∙ (λ i. had i ++ cond (sym test i) (reply ∷ []) [])
    ∙ ap (λ (r : Reply). filter p (take n all) ++ cond (p r) (r ∷ []) []) at
    ∙ sym (filter_more p all n reply within)

pub loop-reply-preserved : goal.loop-reply-preserved
loop-reply-preserved c =
    let tenant = c.args.tenant.now in
    let reply = c.reply-item.result in
    let test = λ (b : Bool) (e : b ≡ same_text c.tenant.result.now c.text.result.now). (λ i. same_text (sym c.tenant.ensures i) (sym c.text.ensures.text i)) ∙ sym e in
    elim c.if-eq.branch [
      | then-eq+in_ok-copy_of+in_ok-push w ↦
          kept (is_to tenant) c.args.replies.now c.loop-reply.found.items c.if-eq.found.items c.loop-reply.reply-index reply true c.loop-reply-test.true c.reply-item.is c.loop-reply.invariant (test true w.if-eq.ensures)
          (ap (λ v. v.items) w.found-is ∙ w.in_ok-push.ensures.items ∙ ap (λ (r : Reply). c.loop-reply.found.items ++ r ∷ []) w.in_ok-copy_of.ensures)
      | else-eq w ↦
          kept (is_to tenant) c.args.replies.now c.loop-reply.found.items c.if-eq.found.items c.loop-reply.reply-index reply false c.loop-reply-test.true c.reply-item.is c.loop-reply.invariant (test false w.if-eq.ensures)
          (ap (λ v. v.items) w.found-is ∙ sym (append-nil _))
    ]
