use Rattle.std.proofs.Common.{◌-◌, cond, refl, ap, sym, ◌∙◌}
use Rattle.std.specs.Prelude.{bytes_eq}
use Rattle.activation_directory.specs.inside.Counts.{kept}
use Rattle.activation_directory.proofs.Numbers.{NumbersTo-from_updates, kept-some}
use Rattle.activation_directory.proofs.counts.take_one.Goals as goal

pub returns-in-Some : goal.returns-in-Some
returns-in-Some c other =
    NumbersTo-from_updates c.args.numbers.now (c.get_mut.follows.lender (c.in-Some.number.now - 1)) c.args.tenant.now (c.in-Some.number.now - 1) ((c.get_mut.follows.holds (c.in-Some.number.now - 1)).3 (rw (sym c.in-Some.ensures.value) refl)) other
    ∙ ap (λ n. cond (bytes_eq c.args.tenant.now other) (n - 1) (kept c.args.numbers.now other)) (kept-some c.args.numbers.now c.args.tenant.now c.in-Some.number.now c.in-Some.ensures.value)
