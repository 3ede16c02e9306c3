use Rattle.journal_text.proofs.Common.{All, take}
use Rattle.journal_text.specs.inside.Kept.{KeepsReply}
use Rattle.journal_text.proofs.kept.see_replies.Given as goal

abbrev pub invariant-replies : goal.invariant-replies
invariant-replies l = All KeepsReply (take l.reply-index l.replies)
