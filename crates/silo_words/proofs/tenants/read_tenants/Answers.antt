use Rattle.std.proofs.Common.{ℕ, List, Bor, arith}
use Rattle.tenant_gate.specs.declared.fault.TableFault.TheVariants as faults
use Rattle.silo_words.proofs.TableLemmas.{next_refused, next_named, all_named, none_refused}
use Rattle.silo_words.proofs.tenants.read_tenants.Goals as goal

pub returns-in_default-clause-refused : goal.returns-in_default-clause-refused
returns-in_default-clause-refused c =
    next_refused (λ (text : Bor (List ℕ)). text.now) c.args.texts.now c.loop-text.text-index _ c.loop-text-test.true c.loop-text.list.items _ c.deref.ensures.value c.loop-text.invariant c.len.result (omega (arith, c.len.ensures, c.loop-text.list.ok.0))
    (rw c.in_default.is at c.in_ok-read.ensures.none)

pub loop-text-preserved : goal.loop-text-preserved
loop-text-preserved c =
    next_named (λ (text : Bor (List ℕ)). text.now) c.args.texts.now c.loop-text.text-index _ c.loop-text-test.true c.loop-text.list.items _ c.deref.ensures.value c.loop-text.invariant c.in-Some.read.tenant c.in-Some.read.limits _ c.in_ok-add.ensures
    (rw c.in-Some.is at c.in_ok-read.ensures.some)

pub returns-in-Err-Empty-clause-refused : goal.returns-in-Err-Empty-clause-refused
returns-in-Err-Empty-clause-refused c =
    let only = all_named (λ (text : Bor (List ℕ)). text.now) c.args.texts.now c.loop-text.text-index c.loop-text.list.items faults.Empty c.loop-text-test.false c.loop-text.invariant (rw c.in-Err-Empty.field-0-is at c.in-Err-Empty.ensures) in
    none_refused _ only.0

pub unreachable-requires : goal.unreachable-requires
unreachable-requires c =
    let only = all_named (λ (text : Bor (List ℕ)). text.now) c.args.texts.now c.loop-text.text-index c.loop-text.list.items faults.TooMany c.loop-text-test.false c.loop-text.invariant (rw c.in-Err-TooMany.field-0-is at c.in-Err-TooMany.ensures) in
    let no = only.1 in
    absurd (cc (no))

pub unreachable-requires-in-Err-Twice : goal.unreachable-requires-in-Err-Twice
unreachable-requires-in-Err-Twice c =
    let only = all_named (λ (text : Bor (List ℕ)). text.now) c.args.texts.now c.loop-text.text-index c.loop-text.list.items (faults.Twice c.in-Err-Twice.field-0-0) c.loop-text-test.false c.loop-text.invariant (rw c.in-Err-Twice.field-0-is at c.in-Err-Twice.ensures) in
    let no = only.1 in
    absurd (cc (no))

pub unreachable-requires-in-Err-Range : goal.unreachable-requires-in-Err-Range
unreachable-requires-in-Err-Range c =
    let only = all_named (λ (text : Bor (List ℕ)). text.now) c.args.texts.now c.loop-text.text-index c.loop-text.list.items (faults.Range c.in-Err-Range.field-0-0) c.loop-text-test.false c.loop-text.invariant (rw c.in-Err-Range.field-0-is at c.in-Err-Range.ensures) in
    let no = only.1 in
    absurd (cc (no))
