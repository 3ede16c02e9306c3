use Rattle.idle_collector.proofs.AgeTables.{same_table, only_memory}
use Rattle.journal_text.proofs.draft.table_of.Goals as goal

pub returns-in-Ok : goal.returns-in-Ok
returns-in-Ok c = same_table c.args.ages.items c.in-Ok.table c.requires.ascending c.in-Ok.ensures.1

pub unreachable-requires : goal.unreachable-requires
unreachable-requires c = let none = only_memory c.args.ages.items c.in-Err-TooMany.field-0 c.requires c.in-Err-TooMany.ensures in cc

pub unreachable-requires-in-Err-Twice : goal.unreachable-requires-in-Err-Twice
unreachable-requires-in-Err-Twice c = let none = only_memory c.args.ages.items c.in-Err-Twice.field-0 c.requires c.in-Err-Twice.ensures in cc

pub unreachable-requires-in-Err-Range : goal.unreachable-requires-in-Err-Range
unreachable-requires-in-Err-Range c = let none = only_memory c.args.ages.items c.in-Err-Range.field-0 c.requires c.in-Err-Range.ensures in cc
