use Rattle.std.proofs.Common.{sym, ◌∙◌}
use Rattle.std.specs.Prelude.{IsSome}
use Rattle.request_codec.specs.Call.{old_state}
use Rattle.request_codec.proofs.Migrated.{old_is_state, old_state_denied}
use Rattle.request_codec.proofs.migrate.read_old_state.Goals as goal

pub returns-clause-reads : goal.returns-clause-reads
returns-clause-reads c =
    let known : IsSome (old_state c.args.bytes.now) = sym c.is_old_state.ensures ∙ c.if-not-is_old_state.false in
    rw (old_is_state c.args.bytes.now known) c.read.ensures.reads

pub returns-then-not-is_old_state-clause-none : goal.returns-then-not-is_old_state-clause-none
returns-then-not-is_old_state-clause-none c = λ _. old_state_denied c.args.bytes.now (sym c.if-not-is_old_state.true ∙ c.is_old_state.ensures)
