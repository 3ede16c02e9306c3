use Rattle.idle_collector.specs.declared.ages.AgeFault.TheVariants as faults
use Rattle.silo_words.proofs.AgeLemmas.{none_named}
use Rattle.silo_words.proofs.ages.read_ages.Goals as goal

pub returns-in-Err-TooMany-clause-refused : goal.returns-in-Err-TooMany-clause-refused
returns-in-Err-TooMany-clause-refused c =
    none_named c.args.given c.in-Some.text c.in_ok-parts.parts.items _ c.in-Some-2.list.items faults.TooMany c.in-Some.is c.in_ok-parts.ensures c.deref.ensures.value (rw c.in-Some-2.is at c.in_ok-list.ensures.some) (rw c.in-Err-TooMany.field-0-is at c.in-Err-TooMany.ensures)

pub returns-in-Err-Twice-clause-refused : goal.returns-in-Err-Twice-clause-refused
returns-in-Err-Twice-clause-refused c =
    none_named c.args.given c.in-Some.text c.in_ok-parts.parts.items _ c.in-Some-2.list.items (faults.Twice c.in-Err-Twice.field-0-0) c.in-Some.is c.in_ok-parts.ensures c.deref.ensures.value (rw c.in-Some-2.is at c.in_ok-list.ensures.some)
    (rw c.in-Err-Twice.field-0-is at c.in-Err-Twice.ensures)

pub returns-clause-refused : goal.returns-clause-refused
returns-clause-refused c =
    none_named c.args.given c.in-Some.text c.in_ok-parts.parts.items _ c.in-Some-2.list.items (faults.Range c.in-Err-Range.field-0-0) c.in-Some.is c.in_ok-parts.ensures c.deref.ensures.value (rw c.in-Some-2.is at c.in_ok-list.ensures.some)
    (rw c.in-Err-Range.field-0-is at c.in-Err-Range.ensures)
