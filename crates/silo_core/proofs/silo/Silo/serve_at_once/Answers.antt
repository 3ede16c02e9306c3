use Rattle.std.proofs.Common.{◌≡◌, List, [], ◌∷◌, ◌++◌, Some, ap, ◌∙◌, subst}
use Rattle.std.specs.Prelude.{Ok, IfOk}
use Rattle.silo_event.specs.declared.step.Step.{Step}
use Rattle.silo_event.specs.declared.step.Step.TheVariants.{Begin, End}
use Rattle.silo_core.specs.inside.AtOnce.{Served}
use Rattle.silo_core.specs.inside.Shown.{setup_of}
use Rattle.silo_core.proofs.AtOnce.{serves, serves_lead}
use Rattle.silo_core.proofs.silo.Silo.serve_at_once.Goals as goal

pub invariant_of-self-in-Ok-Some : goal.invariant_of-self-in-Ok-Some
invariant_of-self-in-Ok-Some g c =
    let logic = g.L.GrainLogic.logic in
    let a = c.self.inside in
    let setup = setup_of a.tenants a.age a.ages a.opening.items a.kept in
    let turn = c.in-Ok-Some.turn in
    let is : c.serve.result ≡ Ok (Some turn) = cc (c.in-Ok-Some.is, c.in-Ok-Some.field-0-is, c.in-Ok-Some.turn-is) in
    let d : Served logic a.state c.args.step (Some turn) c.serve.new.state = subst (λ r. IfOk r (λ o. Served logic a.state c.args.step o c.serve.new.state)) is c.serve.ensures.served in
    let grown : c.push_reserved-in-Ok-Some-2.new.self.items ≡ ((a.journal.items ++ c.args.step ∷ []) ++ Begin d.0 ∷ []) ++ End d.0 d.1 ∷ [] =
    c.push_reserved-in-Ok-Some-2.ensures.items
    ∙ ap (λ (j : List Step). j ++ turn.1 ∷ []) c.push_reserved-in-Ok-Some.ensures.items
    ∙ ap (λ (j : List Step). (j ++ turn.0 ∷ []) ++ turn.1 ∷ []) c.push_reserved.ensures.items
    ∙ ap (λ (j : List Step). ((j ++ c.args.step ∷ []) ++ turn.0 ∷ []) ++ turn.1 ∷ []) c.in-Ok.ensures.items
    ∙ ap (λ (t : Step × Step). ((a.journal.items ++ c.args.step ∷ []) ++ t.0 ∷ []) ++ t.1 ∷ []) d.3 in
    (serves_lead logic setup a.opening_failures a.journal.items c.push_reserved-in-Ok-Some-2.new.self.items a.state c.serve.new.state c.args.step d.0 d.1 d.4 grown c.self.invariant.0, c.self.invariant.1)

pub returns-in-Ok-Some : goal.returns-in-Ok-Some
returns-in-Ok-Some g c =
    let logic = g.L.GrainLogic.logic in
    let a = c.self.inside in
    let setup = setup_of a.tenants a.age a.ages a.opening.items a.kept in
    let turn = c.in-Ok-Some.turn in
    let is : c.serve.result ≡ Ok (Some turn) = cc (c.in-Ok-Some.is, c.in-Ok-Some.field-0-is, c.in-Ok-Some.turn-is) in
    let d : Served logic a.state c.args.step (Some turn) c.serve.new.state = subst (λ r. IfOk r (λ o. Served logic a.state c.args.step o c.serve.new.state)) is c.serve.ensures.served in
    let grown : c.push_reserved-in-Ok-Some-2.new.self.items ≡ ((a.journal.items ++ c.args.step ∷ []) ++ Begin d.0 ∷ []) ++ End d.0 d.1 ∷ [] =
    c.push_reserved-in-Ok-Some-2.ensures.items
    ∙ ap (λ (j : List Step). j ++ turn.1 ∷ []) c.push_reserved-in-Ok-Some.ensures.items
    ∙ ap (λ (j : List Step). (j ++ turn.0 ∷ []) ++ turn.1 ∷ []) c.push_reserved.ensures.items
    ∙ ap (λ (j : List Step). ((j ++ c.args.step ∷ []) ++ turn.0 ∷ []) ++ turn.1 ∷ []) c.in-Ok.ensures.items
    ∙ ap (λ (t : Step × Step). ((a.journal.items ++ c.args.step ∷ []) ++ t.0 ∷ []) ++ t.1 ∷ []) d.3 in
    rw (← c.self.view_is) (serves logic setup a.opening_failures a.journal.items c.push_reserved-in-Ok-Some-2.new.self.items a.state c.serve.new.state c.args.step d.0 d.1 d.4 grown d.2)
