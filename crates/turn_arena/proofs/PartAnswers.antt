-- What was answered, by what a part answered.
use Rattle.std.proofs.Common.{◌≡◌, Option, Some, None, Result, Ok, Err, IfOk, subst}
use Rattle.turn_arena.specs.inside.Answers.{ReadsIn}
use Rattle.turn_arena.specs.declared.fault.ArenaFault.{ArenaFault}
use Rattle.turn_arena.specs.declared.fault.ArenaFault.TheVariants as faults

-- what was read, and that there was nothing to read
pub ReadsIn-ok : {X A : Type 0} (view : X → A) (r : Result X ArenaFault) (found : Option A) → ReadsIn view r found → IfOk r (λ x. found ≡ Some (view x))
ReadsIn-ok view (Ok x) found h = h
ReadsIn-ok view (Err e) found h = tt

pub ReadsIn-none : {X A : Type 0} (view : X → A) (r : Result X ArenaFault) (found : Option A) → ReadsIn view r found → r ≡ Err faults.NotAMessage → found ≡ None
ReadsIn-none {X} view r found h is = subst (λ (s : Result X ArenaFault). ReadsIn view s found) is h
