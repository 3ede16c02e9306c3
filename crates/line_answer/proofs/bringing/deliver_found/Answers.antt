use Rattle.line_answer.proofs.Delivering.{delivered}
use Rattle.line_answer.proofs.bringing.deliver_found.Goals as goal

pub returns : goal.returns
returns g c =
    delivered g.L.GrainLogic.logic c.args.silo.now c.bring.new.silo c.args.tenant.now c.args.found c.in_ok-taken.taken.done c.in_ok-taken.taken.memory c.requires
    c.in_ok-taken.ensures
