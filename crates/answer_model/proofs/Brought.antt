-- What a step does that may bring a request: its party is told something at once, or the request waits.
use Rattle.silo_model.proofs.Common.{◌++◌, ◌+◌, ◌∙◌, ◌∷◌, ◌≡◌, Effect, Fault, Grain, List, Logic, None, Option, Party, Reply, Request}
use Rattle.silo_model.proofs.Common.{Result, Some, Step, Tree, Whole, [], ap, append-nil, arith, context_at, eqb-true, length}
use Rattle.silo_model.proofs.Common.{length-append, owner_of, refl, shown_to, spread, subst, sym, told, true, whole_step, with_request, ℕ}
use Rattle.std.specs.FinMap as map
use Rattle.silo_model.proofs.Contexts.{get-own}
use Rattle.silo_model.proofs.EffectKinds.{Does, Role, accepts, asks, pokes, role_of, tells}
use Rattle.silo_model.proofs.Isolation.{did, did_does, place_in}
use Rattle.answer_model.specs.Answering.{is_accepted, whole_stepper}

pub data Brings (w after : Whole) (owner : List ℕ) (p : Party) : Option Grain → Type 0 where
  is_told : (grain : Option Grain) (outcome : Result Tree Fault) → after.entries ≡ w.entries → after.replies ≡ w.replies ++ told p outcome
      → Brings w after owner p grain
  waits : (g : Grain) (q : Request) → g.tenant ≡ owner → q.sender ≡ p
      → after.entries ≡ map.insert w.entries g (with_request w.clock q (map.get w.entries g)) → after.replies ≡ w.replies
      → Brings w after owner p (Some g)

abbrev BroughtBy : Whole → Whole → List ℕ → Option Grain → Role → Type 0
BroughtBy w after owner grain (asks p) = Brings w after owner p grain
BroughtBy w after owner grain _ = Unit {0}

module _ (logic : Logic) (w after : Whole) (s : Step) (owner : List ℕ) where
  brought_by : {role : Role} {grain : Option Grain} {e : Effect} → spread w owner grain e ≡ after
      → Does logic (context_at (shown_to owner w) grain) s role grain e → BroughtBy w after owner grain role
  unfolding context_at shown_to spread
  brought_by leaves (tells p None left outcome remains) =
      is_told None outcome (sym (ap (λ (x : Whole). x.entries) leaves)) (sym (ap (λ (x : Whole). x.replies) leaves))
  brought_by leaves (tells p (Some g) left outcome remains) =
      is_told (Some g) outcome (sym (ap (λ (x : Whole). x.entries) leaves)) (sym (ap (λ (x : Whole). x.replies) leaves))
  brought_by leaves (pokes p g row outcome own touches) =
      is_told (Some g) outcome (sym (ap (λ (x : Whole). x.entries) leaves)) (sym (ap (λ (x : Whole). x.replies) leaves))
  brought_by leaves (accepts p g call left a own remains known) =
      let q : Request = record { number = a.count + 1; sender = p; call = call } in
      waits g q own refl
      (sym (ap (λ (x : Whole). x.entries) leaves) ∙ ap (λ o. map.insert w.entries g (with_request w.clock q o)) (get-own w.entries owner g own))
      (sym (ap (λ (x : Whole). x.replies) leaves) ∙ append-nil w.replies)
  brought_by leaves _ = tt

  -- what a step that asks brings
  pub brings : (p : Party) → owner_of s ≡ Some owner → role_of s ≡ asks p → whole_step logic w s ≡ Some after → Brings w after owner p (place_in w owner s)
  brings p is role step =
      let d = did logic w after s owner is step in
      subst (BroughtBy w after owner (place_in w owner s)) role (brought_by d.leaves (did_does logic w after s owner d))

pub more_than_none : (xs : List Reply) (r : Reply) → length (xs ++ r ∷ []) ≡ length xs → ⊥
more_than_none xs r same = omega (arith, length-append xs (r ∷ []))

-- a request that isn't told anything waits
pub data Waits (w after : Whole) (owner : List ℕ) (p : Party) : Option Grain → Type 0 where
  it_waits : (g : Grain) (q : Request) → g.tenant ≡ owner → q.sender ≡ p
      → after.entries ≡ map.insert w.entries g (with_request w.clock q (map.get w.entries g)) → after.replies ≡ w.replies
      → Waits w after owner p (Some g)

pub accepted_waits : (logic : Logic) (w after : Whole) (owner : List ℕ) (p : Party) (grain : Option Grain) → Brings w after owner p grain
    → is_accepted (whole_stepper logic) w after ≡ true → Waits w after owner p grain
accepted_waits logic w after owner p grain (is_told _ outcome entries replies) accepted =
    absurd (more_than_none w.replies (record { recipient = p; outcome = outcome })
    (sym (ap length replies) ∙ eqb-true (length after.replies) (length w.replies) accepted))
accepted_waits logic w after owner p grain (waits g q own sender entries replies) accepted = it_waits g q own sender entries replies
