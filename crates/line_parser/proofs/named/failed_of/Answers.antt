use Rattle.std.proofs.Common.{◌≡◌, suc, refl, arith}
use Rattle.line_parser.proofs.Steps.{counted, not_counted}
use Rattle.line_parser.proofs.named.failed_of.Goals as goal

pub returns-then-members-count-2 : goal.returns-then-members-count-2
returns-then-members-count-2 c l d h =
    let n = c.args.count in
    let more : c.args.members.now.count ≡ suc n = omega arith in
    rw (not_counted _ n (h.count n) c.if-members-count.false, counted _ (suc n) (h.count (suc n)) more, h.failed) refl
