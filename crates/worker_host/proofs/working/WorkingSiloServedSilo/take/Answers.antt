use Rattle.std.proofs.Common.{◌+◌, refl, ap, sym, ◌∙◌, true≢false}
use Rattle.silo_model.proofs.Lawful.{lawful_readers}
use Rattle.lane_model.specs.Asking.{asker_of}
use Rattle.lane_workers.specs.Owing.{asks_if, owing_to}
use Rattle.worker_host.specs.inside.Working.{may_ask_in}
use Rattle.worker_host.proofs.Answered.{answered_at, fault_stays}
use Rattle.worker_host.proofs.AtWork.{told_is, working_settled}
use Rattle.worker_host.proofs.working.WorkingSiloServedSilo.take.Goals as goal

pub returns-then-not-asked-clause-taken : goal.returns-then-not-asked-clause-taken
returns-then-not-asked-clause-taken g c = λ may.
    let a = c.self.inside in
    let logic = g.L.GrainLogic.logic in
    let told = told_is logic (lawful_readers logic g.met.L.GrainLogic.lawful) a.silo a.owing a.seen c.self.invariant c.args.self.now c.self.view_is c.replies.result.now c.replies.ensures (asker_of c.args.step) in
    absurd (true≢false (sym may ∙ sym told ∙ sym c.in-Ok.ensures.may ∙ c.if-not-asked.true))

pub returns-then-not-asked-clause-unasked : goal.returns-then-not-asked-clause-unasked
returns-then-not-asked-clause-unasked g c = λ none. returns-then-not-asked-clause-taken g c (ap (may_ask_in c.args.self.now.whole) none)

pub returns-in-Err-clause-refused : goal.returns-in-Err-clause-refused
returns-in-Err-clause-refused g c = λ may_not.
    let a = c.self.inside in
    let logic = g.L.GrainLogic.logic in
    let told = told_is logic (lawful_readers logic g.met.L.GrainLogic.lawful) a.silo a.owing a.seen c.self.invariant c.args.self.now c.self.view_is c.replies.result.now c.replies.ensures (asker_of c.args.step) in
    absurd (true≢false (sym c.in-Err.ensures.refused ∙ told ∙ may_not))

pub invariant_of-self-2 : goal.invariant_of-self-2
invariant_of-self-2 g c =
    let a = c.self.inside in
    let logic = g.L.GrainLogic.logic in
    let asker = asker_of c.args.step in
    let told = told_is logic (lawful_readers logic g.met.L.GrainLogic.lawful) a.silo a.owing a.seen c.self.invariant a.silo refl c.replies.result.now c.replies.ensures asker in
    working_settled logic a.silo c.apply_asked.new.silo a.owing a.seen c.self.invariant c.args.step (sym told ∙ sym c.in-Ok.ensures.may ∙ c.if-not-asked.false)
    c.apply_asked.result c.apply_asked.ensures.answered c.ask.new.owing c.apply_asked.new.owing
    (λ client. c.in-Ok.ensures.asked client ∙ ap (λ asked. owing_to a.owing client + asks_if asked asker client) c.if-not-asked.false)
    c.apply_asked.ensures.done
    c.apply_asked.ensures.not_done

pub returns-clause-refused : goal.returns-clause-refused
returns-clause-refused g c = λ may_not.
    let a = c.self.inside in
    let logic = g.L.GrainLogic.logic in
    let told = told_is logic (lawful_readers logic g.met.L.GrainLogic.lawful) a.silo a.owing a.seen c.self.invariant c.args.self.now c.self.view_is c.replies.result.now c.replies.ensures (asker_of c.args.step) in
    absurd (true≢false (sym (sym c.in-Ok.ensures.may ∙ c.if-not-asked.false) ∙ told ∙ may_not))

pub returns-clause-unchanged : goal.returns-clause-unchanged
returns-clause-unchanged g c = λ may_not.
    let a = c.self.inside in
    let logic = g.L.GrainLogic.logic in
    let told = told_is logic (lawful_readers logic g.met.L.GrainLogic.lawful) a.silo a.owing a.seen c.self.invariant c.args.self.now c.self.view_is c.replies.result.now c.replies.ensures (asker_of c.args.step) in
    absurd (true≢false (sym (sym c.in-Ok.ensures.may ∙ c.if-not-asked.false) ∙ told ∙ may_not))

pub returns-clause-unasked : goal.returns-clause-unasked
returns-clause-unasked g c = λ none.
    answered_at g.L.GrainLogic.logic c.self.inside.silo c.apply_asked.new.silo c.args.step c.args.self.now c.self.view_is c.apply_asked.result c.apply_asked.ensures.answered

pub returns-clause-fault : goal.returns-clause-fault
returns-clause-fault g c =
    fault_stays g.L.GrainLogic.logic c.self.inside.silo c.apply_asked.new.silo c.args.step c.args.self.now c.self.view_is c.apply_asked.result c.apply_asked.ensures.answered
