use Rattle.std.proofs.Common.{refl}
use Rattle.journal_text.proofs.Words.{differ}
use Rattle.journal_text.proofs.step_reader.parse_step.Goals as goal

pub returns-in_default-clause-gives : goal.returns-in_default-clause-gives
returns-in_default-clause-gives c =
    let none = c.in_default in
    rw (differ _ _ none.not-refuse, differ _ _ none.not-call, differ _ _ none.not-poke, differ _ _ none.not-status, differ _ _ none.not-deliver, differ _ _ none.not-activate, differ _ _ none.not-load, differ _ _ none.not-begin, differ _ _ none.not-store, differ _ _ none.not-end, differ _ _ none.not-abandon, differ _ _ none.not-tick) refl
