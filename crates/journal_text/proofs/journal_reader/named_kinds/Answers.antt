use Rattle.journal_text.proofs.Common.{None, Some, sym, ◌∙◌}
use Rattle.journal_text.specs.inside.Answers.{BeginsWithKinds}
use Rattle.journal_text.proofs.Named.{names, no_head_names, no_line_names, untold_names}
use Rattle.journal_text.proofs.journal_reader.named_kinds.Goals as goal

pub returns-in_default-clause-none : goal.returns-in_default-clause-none
returns-in_default-clause-none c none = no_head_names c.args.bytes.now c.in_default.ensures

pub returns-then-not-tells_kinds-clause-none : goal.returns-then-not-tells_kinds-clause-none
returns-then-not-tells_kinds-clause-none c none =
    untold_names c.in-Some.form c.args.bytes.now c.in-Some.rest.now c.in-Some.ensures (sym c.tells_kinds.ensures ∙ c.if-not-tells_kinds.true)

pub returns-in-Some-2-clause-some : goal.returns-in-Some-2-clause-some
returns-in-Some-2-clause-some c =
    let told : BeginsWithKinds c.in-Some.form c.in-Some.rest.now (Some (c.in-Some-2.kinds, c.in-Some-2._behind.now)) = rw c.in-Some-2.is at c.in_ok-kinds.ensures in
    names c.in-Some.form c.in-Some-2.kinds c.args.bytes.now c.in-Some.rest.now c.in-Some-2._behind.now (sym c.tells_kinds.ensures ∙ c.if-not-tells_kinds.false) told.0 c.in-Some.ensures told.1

pub returns-clause-none : goal.returns-clause-none
returns-clause-none c none =
    let told : BeginsWithKinds c.in-Some.form c.in-Some.rest.now None = rw c.in-None.is at c.in_ok-kinds.ensures in
    no_line_names c.in-Some.form c.args.bytes.now c.in-Some.rest.now c.in-Some.ensures told
