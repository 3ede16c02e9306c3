use Rattle.journal_text.proofs.Words.{differ}
use Rattle.journal_text.proofs.line_reader.parse_named.Goals as goal

pub returns-in_default-clause-gives : goal.returns-in_default-clause-gives
returns-in_default-clause-gives c =
    let none = c.in_default in
    rw (differ _ _ none.not-text, differ _ _ none.not-kinds, differ _ _ none.not-age, differ _ _ none.not-kind, differ _ _ none.not-tenant, differ _ _ none.not-reply, differ _ _ none.not-row, differ _ _ none.not-close) c.parse_step_line.ensures.gives
