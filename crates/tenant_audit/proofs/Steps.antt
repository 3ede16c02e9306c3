-- Steps that a machine takes one after another.
use Rattle.silo_model.proofs.Common.{[], ◌++◌, ◌∙◌, ◌∷◌, ◌≡◌, Bool, List, Logic, Machine, None, Ok, Some, Step, ap, append_assoc, arith, false, length, length-append, machine_all_done, machine_step, option_and_then, refl, subst, sym, true, ℕ}
use Rattle.std.proofs.Common.{◌-◌}
use Rattle.audit_model.specs.Difference.{StopsAt}
use Rattle.audit_model.proofs.Differences.{done_then}
use Rattle.tenant_machine.specs.Machines.{StepAnswers}

-- The steps before those that are left were done, and led to this machine.
pub record Taken (logic : Logic) (m : Machine) (steps : List Step) (reached : Machine) (left : List Step) : Type 0 where
  pub before : List Step
  pub parts : steps ≡ before ++ left
  pub done : machine_all_done logic m before ≡ Some reached

pub none_taken : (logic : Logic) (m : Machine) (steps : List Step) → Taken logic m steps m steps
none_taken logic m steps = record { before = []; parts = refl; done = refl }

module _ (logic : Logic) (m : Machine) (steps : List Step) (reached : Machine) (left : List Step) (taken : Taken logic m steps reached left) where
  module _ (s : Step) (later : List Step) (first : left ≡ s ∷ later) where
    parted : steps ≡ taken.before ++ s ∷ later
    parted = taken.parts ∙ ap (λ ss. taken.before ++ ss) first

    -- one step more was done
    pub one_taken : (next : Machine) → machine_step logic reached s ≡ Some next → Taken logic m steps next later
    one_taken next step = record {
      before = taken.before ++ s ∷ [];
      parts = parted ∙ sym (append_assoc taken.before (s ∷ []) later);
      done = done_then logic m reached taken.before (s ∷ []) taken.done ∙ ap (option_and_then (λ x. Some x)) step;
    }

    -- the next one isn't done
    pub stops_here : (all behind : ℕ) → all ≡ length steps → behind ≡ length later → machine_step logic reached s ≡ None → StopsAt logic m steps (all - behind)
    stops_here all behind counted as_many none = record {
      before = taken.before;
      step = s;
      after = later;
      reached = reached;
      parts = parted;
      place = omega (arith, counted, as_many, ap length parted, length-append taken.before (s ∷ later));
      done = taken.done;
      stops = none;
    }

  -- there is no next one
  pub all_taken : left ≡ [] → machine_all_done logic m steps ≡ Some reached
  all_taken none = ap (machine_all_done logic m) (taken.parts ∙ ap (λ ss. taken.before ++ ss) none) ∙ done_then logic m reached taken.before [] taken.done

-- what an answer says, when it is known
pub not_done : (E : Type 0) (logic : Logic) (m new : Machine) (s : Step) (b : Bool) → b ≡ false → StepAnswers {E = E} logic m s (Ok b) new → machine_step logic m s ≡ None
not_done E logic m new s b e h = (subst (λ (x : Bool). StepAnswers {E = E} logic m s (Ok x) new) e h).0

pub is_done : (E : Type 0) (logic : Logic) (m new : Machine) (s : Step) (b : Bool) → b ≡ true → StepAnswers {E = E} logic m s (Ok b) new → machine_step logic m s ≡ Some new
is_done E logic m new s b e h = subst (λ (x : Bool). StepAnswers {E = E} logic m s (Ok x) new) e h
