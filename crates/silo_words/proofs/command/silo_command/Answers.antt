use Rattle.std.proofs.Common.{ap}
use Rattle.std.proofs.lemmas.Result.{IfOk-weaker}
use Rattle.clap.specs.Words.{App}
use Rattle.silo_words.specs.Commands.{IsApp}
use Rattle.silo_words.specs.Words.{silo_app}
use Rattle.silo_words.proofs.command.silo_command.Goals as goal

pub returns : goal.returns
returns c =
    let stepping = c.with_command-command.ensures _ _ c.bare_silo.ensures c.steps_command.ensures in
    let answering = c.with_command-command-2.ensures _ _ stepping c.answer_command.ensures in
    let serving = c.with_command-command-3.ensures _ _ answering c.serve_command.ensures in
    let auditing = c.with_command-command-4.ensures _ _ serving c.audit_command.ensures in
    let migrating = c.with_command-command-5.ensures _ _ auditing c.migrate_command.ensures in
    let whole = c.with_command.ensures _ _ migrating c.rows_command.ensures in
    record {
      app = IfOk-weaker _ (IsApp silo_app) _ (λ _ made. made.same) whole;
      local = IfOk-weaker _ (IsApp silo_app) _ (λ _ made. made.local) whole;
      wanted = IfOk-weaker _ (IsApp silo_app) _ (λ _ made. ap (λ (a : App). a.top.subcommand_required) made.same) whole;
    }
