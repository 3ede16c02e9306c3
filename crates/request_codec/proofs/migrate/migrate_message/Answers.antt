use Rattle.std.proofs.Common.{sym, ◌∙◌, arith}
use Rattle.request_codec.proofs.Migrated.{old_denied, old_exact, old_found}
use Rattle.request_codec.proofs.migrate.migrate_message.Goals as goal

pub returns-clause-exact : goal.returns-clause-exact
returns-clause-exact c = old_exact c.args.bytes.now c.in_ok-from_spelling.field-0 (λ i. omega (arith, c.type_inv.bytes i)) (sym c.in_ok-renewed.ensures ∙ c.in_ok-from_spelling.ensures)

pub returns-then-not-is_old_message-clause-none : goal.returns-then-not-is_old_message-clause-none
returns-then-not-is_old_message-clause-none c = λ _. old_denied c.args.bytes.now (sym c.if-not-is_old_message.true ∙ c.is_old_message.ensures)

pub returns-clause-spelled : goal.returns-clause-spelled
returns-clause-spelled c = old_found c.args.bytes.now c.in_ok-from_spelling.field-0 (λ i. omega (arith, c.type_inv.bytes i)) (sym c.in_ok-renewed.ensures ∙ c.in_ok-from_spelling.ensures)
