use Rattle.std.proofs.Common.{take}
use Rattle.line_service.specs.inside.Told.{HoldTold}
use Rattle.line_service.proofs.told.told_by_grain.Given as goal

-- the replies so far
abbrev pub invariant-replies : goal.invariant-replies
invariant-replies l = HoldTold l.told (take l.reply-index l.replies)
