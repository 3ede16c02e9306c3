use Rattle.std.proofs.Common.{◌∙◌, List, Some, ap, refl, subst, ℕ}
use Rattle.log_host.specs.Files.{Begins, MayBegin}
use Rattle.log_text.specs.Head.{head_text}
use Rattle.log_text.specs.Sums.{spelled}
use Rattle.data_command.proofs.ready.begun_anew.Goals as goal

pub returns-in-Err-clause-err : goal.returns-in-Err-clause-err
returns-in-Err-clause-err g c =
    subst (λ (ws : List ℕ). MayBegin (g.F.LogHost.acts c.args.files.now) (g.F.LogHost.begun c.args.files.now) (g.F.LogHost.acts c.new_log.new.files) (g.F.LogHost.begun c.new_log.new.files) (head_text ws (spelled c.args.ready.task.number)))
    c.as_slice.ensures.value c.in-Err.ensures.err

pub returns-in-Ok-clause-task : goal.returns-in-Ok-clause-task
returns-in-Ok-clause-task g c =
    (refl, refl, refl, ap Some (c.in-Ok.ensures.log ∙ ap (λ (ws : List ℕ). head_text ws (spelled c.args.ready.task.number)) c.as_slice.ensures.value))

pub returns-in-Ok-clause-begun : goal.returns-in-Ok-clause-begun
returns-in-Ok-clause-begun g c =
    subst (λ (ws : List ℕ). Begins (g.F.LogHost.acts c.args.files.now) (g.F.LogHost.acts c.new_log.new.files) (g.F.LogHost.begun c.new_log.new.files) (head_text ws (spelled c.args.ready.task.number)))
    c.as_slice.ensures.value c.in-Ok.ensures.begun
