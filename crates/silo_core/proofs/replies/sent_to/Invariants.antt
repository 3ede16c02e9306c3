use Rattle.std.proofs.Common.{◌≡◌, take}
use Rattle.std.specs.Prelude.{filter}
use Rattle.silo_model.specs.Whole.{is_to}
use Rattle.silo_core.proofs.replies.sent_to.Given as goal

abbrev pub invariant-loop-reply : goal.invariant-loop-reply
invariant-loop-reply l = l.found.items ≡ filter (is_to l.tenant) (take l.reply-index l.replies)
