use Rattle.std.proofs.Common.{string_bytes}
use Rattle.line_text.proofs.ReplyTexts.{push_more}
use Rattle.line_text.proofs.replies.push_replies.Goals as goal

pub loop-reply-preserved : goal.loop-reply-preserved
loop-reply-preserved c =
    push_more (string_bytes c.args.text.now) _ _ _ c.args.replies.now c.loop-reply.reply-index c.reply-item.result c.loop-reply-test.true c.reply-item.is c.loop-reply.invariant c.in_ok-push_reply.ensures c.in_ok-push_str.ensures.bytes
