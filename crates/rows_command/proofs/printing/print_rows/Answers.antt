use Rattle.rows_command.proofs.Prints.{breaks_off, prints}
use Rattle.rows_command.proofs.printing.print_rows.Goals as goal

pub returns-clause-printed : goal.returns-clause-printed
returns-clause-printed g c = prints _ _ _ c.in_ok-text.ensures.lists _ _ _ c.as_str.ensures.value c.put.result c.put.ensures.whole

pub returns-clause-fault : goal.returns-clause-fault
returns-clause-fault g c = breaks_off _ _ _ c.in_ok-text.ensures.lists _ _ _ c.as_str.ensures.value _ _ c.put.result c.put.ensures.part
