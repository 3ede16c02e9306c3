use Rattle.std.proofs.Common.{rules, ◌≤◌, ap, sym, subst, ◌∙◌}
use Rattle.std.specs.Prelude.{nat_lt}
use Rattle.std.proofs.lemmas.Fn.{filter_same}
use Rattle.request_receipts.specs.Receipts.{bytes_in}
use Rattle.request_receipts.specs.Parts.{all_of}
use Rattle.request_receipts.specs.declared.caller.Receipt.{Receipt}
use Rattle.request_receipts.proofs.Lists.{all_of-unseen, lighter}
use Rattle.request_receipts.proofs.caller.retain_unseen.Goals as goal

pub returns-clause-left : goal.returns-clause-left
returns-clause-left c =
    ap all_of (filter_same _ (λ (r : Receipt). nat_lt c.args.number r.number) _ (λ x b f t. search rules) c.args.receipts.now.items _ c.retain.ensures.filtered)
    ∙ all_of-unseen c.args.number c.args.receipts.now.items

pub returns-clause-lighter : goal.returns-clause-lighter
returns-clause-lighter c =
    subst (λ rs. bytes_in rs ≤ bytes_in (all_of c.args.receipts.now.items)) (sym (returns-clause-left c)) (lighter c.args.number (all_of c.args.receipts.now.items))
