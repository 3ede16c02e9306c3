use Rattle.std.proofs.Common.{◌≡◌, suc, List, [], ◌∷◌, ◌++◌, length, take, drop, ap, sym, ◌∙◌, subst, arith, length-append}
use Rattle.silo_event.specs.declared.step.Step.{Step}
use Rattle.silo_event.specs.declared.step.Answer.{Answer}
use Rattle.silo_core.specs.Runs.{Takes}
use Rattle.silo_core.proofs.Runs.{taken_one, taken_on, next_of}
use Rattle.silo_core.proofs.silo.Silo.take_each.Goals as goal

pub each-preserved : goal.each-preserved
each-preserved g c =
    let logic = g.L.GrainLogic.logic in
    let all = c.args.steps.items in
    let had = c.each.answers.items in
    let now = c.push_reserved.new.self.items in
    let left = c.pop_front.new.self.items in
    let s = c.in-Some.step in
    let a = c.in-Ok.answer in
    let old = c.args.self.now in
    let new = c.apply.new.self in
    let front : c.each.left.items ≡ s ∷ left = c.in-Some.ensures.items in
    let grown : now ≡ had ++ a ∷ [] = c.push_reserved.ensures.items in
    let more : length now ≡ suc (length had) = omega (arith, ap length grown, length-append had (a ∷ [])) in
    let next = next_of (length had) all s left (c.each.invariant.rest ∙ front) in
    let taken = taken_on logic old c.each.self new (take (length had) all) had (s ∷ []) (a ∷ []) c.each.invariant.taken (taken_one logic c.each.self new s a c.in-Ok.ensures.answered) in
    record {
      taken = subst (λ (answers : List Answer). Takes logic old (take (length now) all) answers new) (sym grown)
          (subst (λ (steps : List Step). Takes logic old steps (had ++ a ∷ []) new) (sym (ap (λ n. take n all) more ∙ next.0)) taken);
      rest = ap (λ n. drop n all) more ∙ next.1;
      room = omega (arith, ap length grown, length-append had (a ∷ []), ap length front, c.each.invariant.room, c.push_reserved.ensures.capacity);
    }
