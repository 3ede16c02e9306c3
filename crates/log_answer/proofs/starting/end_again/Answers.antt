use Rattle.std.proofs.Common.{arith, sym}
use Rattle.log_answer.proofs.Passed.{fault_few}
use Rattle.log_answer.proofs.starting.end_again.Goals as goal

pub overflow_add-result-in-Some : goal.overflow_add-result-in-Some
overflow_add-result-in-Some c = omega (arith, c.requires, fault_few c.args.place.name c.args.rest.now c.in-Some.found (sym c.in-Some.ensures))
