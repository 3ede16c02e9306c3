use Rattle.std.proofs.Common.{ap, ◌∙◌}
use Rattle.line_service.specs.inside.Told.{told_at}
use Rattle.line_service.proofs.Collected.{told_more, passed_over}
use Rattle.line_service.proofs.told.told_by_grain.Goals as goal
use Rattle.line_service.proofs.told.told_by_grain.Goals.{in-Grain+in_ok-add_reply-in-Grain, in-Client}

pub replies-preserved : goal.replies-preserved
replies-preserved c = λ grain.
    let rs = c.args.replies.now in
    let i = c.replies.reply-index in
    let r = c.reply-item.result in
    elim c.match-reply.branch [
      | in-Client w ↦ ap (λ told. told_at told grain) w.told-is ∙ passed_over rs i r c.replies-test.true c.reply-item.is grain _ _ w.in-Client.is (told_at c.replies.told grain) (c.replies.invariant grain)
      | in-Grain+in_ok-add_reply-in-Grain w ↦
          ap (λ told. told_at told grain) w.told-is
          ∙ told_more rs i r c.replies-test.true c.reply-item.is grain w.in-Grain.grain w.in-Grain.is (told_at c.replies.told grain) (told_at w.add_reply.new.told grain) (c.replies.invariant grain)
          (w.in_ok-add_reply-in-Grain.ensures grain)
    ]
