use Rattle.turn_arena.proofs.MapBytes.{count_there, count_is, fields_spelled, count_few}
use Rattle.turn_arena.proofs.setting.fields_of.Goals as goal

pub unreachable-requires : goal.unreachable-requires
unreachable-requires c = count_there c.args.state.now c.bytes.result.now c.in-Some.behind.now c.bytes.ensures.spelled c.in-Some.ensures c.in_default-u32_of.ensures

pub returns-clause-count : goal.returns-clause-count
returns-clause-count c =
    let found = c.in-Some-u32_of in
    count_is c.args.state.now c.bytes.result.now c.in-Some.behind.now c.bytes.ensures.spelled c.in-Some.ensures found.count found.fields.now found.ensures

pub returns-clause-few : goal.returns-clause-few
returns-clause-few c =
    let found = c.in-Some-u32_of in
    count_few c.args.state.now c.bytes.result.now c.in-Some.behind.now c.bytes.ensures.spelled c.in-Some.ensures found.count found.fields.now found.ensures

pub returns-clause-spelled : goal.returns-clause-spelled
returns-clause-spelled c =
    let found = c.in-Some-u32_of in
    fields_spelled c.args.state.now c.bytes.result.now c.in-Some.behind.now c.bytes.ensures.spelled c.in-Some.ensures found.count found.fields.now found.ensures
