-- Which ticks and sweeps a machine does.
use Rattle.silo_model.proofs.Common.{◌++◌, ◌∙◌, ◌∷◌, ◌≡◌, Bool, List, Logic, Machine, None, Option, Some, Step, Sweep, Tick, [], and_parts}
use Rattle.silo_model.proofs.Common.{ap, cond, done_by, false, if_possible, list_all, lt-ltb, machine_step, nat_le, nat_lt, refl, sym, true}
use Rattle.silo_model.proofs.Common.{true≢false, unwrap_or, ℕ}
use Rattle.std.proofs.lemmas.Bool.{le-ltb, leb-false, leb-true}
use Rattle.std.proofs.lemmas.List.Sums.{list_all-from_AllPass}
use Rattle.silo_model.specs.Step.{swept}
use Rattle.lane_model.specs.Lanes.{TicksAreDone, may_give, without_ticks_below}
use Rattle.silo_model.proofs.Tests.{on_test}

-- a tick is below the clock, or it isn't
below : (clock now : ℕ) → (b : Bool) → nat_le clock now ≡ b → nat_lt now clock ≡ cond b false true
below clock now true is = le-ltb now clock (leb-true clock now is)
below clock now false is = lt-ltb now clock (leb-false clock now is)

module _ (logic : Logic) where
  abbrev done : Machine → List Step → List Step
  done m steps = done_by (machine_step logic) m steps

  tick_done : (m : Machine) (now : ℕ) (steps : List Step) → ((x : Machine) → done x steps ≡ without_ticks_below x.clock steps) → done m (Tick now ∷ steps) ≡ without_ticks_below m.clock (Tick now ∷ steps)
  unfolding machine_step
  tick_done m now steps rest =
      let left : Bool → List Step = λ c. cond c (without_ticks_below m.clock steps) (Tick now ∷ without_ticks_below now steps) in
      let after : Bool → Option Machine = λ b. cond b (Some (record m { clock = now })) None in
      on_test (λ b. if_possible (Tick now) (after b) ++ done (unwrap_or (after b) m) steps ≡ left (nat_lt now m.clock)) (nat_le m.clock now)
      (λ is. ap (λ xs. Tick now ∷ xs) (rest (record m { clock = now })) ∙ ap left (sym (below m.clock now true is)))
      (λ is. rest m ∙ ap left (sym (below m.clock now false is)))

  sweep_done : (m : Machine) (steps : List Step) → ((x : Machine) → done x steps ≡ without_ticks_below x.clock steps) → done m (Sweep ∷ steps) ≡ without_ticks_below m.clock (Sweep ∷ steps)
  unfolding machine_step
  sweep_done m steps rest = ap (λ xs. Sweep ∷ xs) (rest (swept m))

  one_done : (m : Machine) (s : Step) (steps : List Step) → may_give None s ≡ true → ((x : Machine) → done x steps ≡ without_ticks_below x.clock steps) → done m (s ∷ steps) ≡ without_ticks_below m.clock (s ∷ steps)
  one_done m (Tick now) steps own rest = tick_done m now steps rest
  one_done m Sweep steps own rest = sweep_done m steps rest
  one_done m _ steps own rest = absurd (true≢false (sym own))

  each_done : (steps : List Step) → list_all (may_give None) steps ≡ true → (m : Machine) → done m steps ≡ without_ticks_below m.clock steps
  each_done [] own m = refl
  each_done (s ∷ steps) own m = let parts = and_parts (may_give None s) (list_all (may_give None) steps) own in one_done m s steps parts.0 (each_done steps parts.1)

pub ticks_are_done : TicksAreDone
ticks_are_done logic m steps own = each_done logic steps (list_all-from_AllPass (may_give None) steps own) m
