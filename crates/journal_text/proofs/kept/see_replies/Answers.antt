use Rattle.journal_text.proofs.Common.{arith, subst}
use Rattle.journal_text.specs.inside.Kept.{KeepsReply}
use Rattle.std.proofs.lemmas.List.Elements.{All-more}
use Rattle.journal_text.proofs.KeptRules.{all_taken}
use Rattle.journal_text.proofs.kept.see_replies.Goals as goal

pub replies-preserved : goal.replies-preserved
replies-preserved c =
    All-more KeepsReply c.args.replies.now c.replies.reply-index c.reply-item.result (omega (arith, c.replies-test.true, c.replies.auto.reply-index-end)) c.replies.invariant
    (subst KeepsReply c.reply-item.is c.see_reply.ensures)

pub returns : goal.returns
returns c = all_taken KeepsReply c.args.replies.now c.replies.reply-index (omega (arith, c.replies-test.false, c.replies.auto.reply-index-end)) c.replies.invariant
