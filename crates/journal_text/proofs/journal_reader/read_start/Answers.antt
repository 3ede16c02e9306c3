use Rattle.journal_text.proofs.Common.{None, Some, subst, sym, IsFirstFault}
use Rattle.journal_text.specs.inside.Answers.{BeginsWithAge, TakesKinds}
use Rattle.journal_text.proofs.Faults.{fault_without_head, fault_without_kinds, fault_without_age}
use Rattle.journal_text.proofs.JournalReads.{head_taken}
use Rattle.journal_text.proofs.journal_reader.read_start.Goals as goal

pub returns-in_default : goal.returns-in_default
returns-in_default c = fault_without_head c.args.bytes.now c.in_default.ensures

pub returns-in-Ok-None : goal.returns-in-Ok-None
returns-in-Ok-None c =
    let none : TakesKinds c.in-Some.form c.in-Some.rest.now None = rw c.in-Ok-None.field-0-is at c.in-Ok-None.ensures in
    fault_without_kinds c.in-Some.form c.args.bytes.now c.in-Some.rest.now c.in-Some.ensures none.0 none.1

pub returns-in-Ok-None-next_age : goal.returns-in-Ok-None-next_age
returns-in-Ok-None-next_age c =
    let told : TakesKinds c.in-Some.form c.in-Some.rest.now (Some (c.in-Ok-Some.kinds, c.in-Ok-Some.rest.now)) = rw c.in-Ok-Some.field-0-is at c.in-Ok-Some.ensures in
    let whole = head_taken c.in-Some.form c.in-Ok-Some.kinds c.args.bytes.now c.in-Some.rest.now c.in-Ok-Some.rest.now c.in-Some.ensures told.1 in
    let none : BeginsWithAge c.in-Some.form c.in-Ok-Some.rest.now None = rw c.in-Ok-None-next_age.field-0-is at c.in-Ok-None-next_age.ensures in
    subst (IsFirstFault c.args.bytes.now) (sym (c.age_line-line.ensures.place c.in-Ok-Some.kinds))
    (fault_without_age c.in-Some.form c.in-Ok-Some.kinds c.args.bytes.now c.in-Ok-Some.rest.now told.0 whole none)
