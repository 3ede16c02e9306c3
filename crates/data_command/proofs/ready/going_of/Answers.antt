use Rattle.std.proofs.Common.{List, Some, ap, inr, subst, sym, ◌∙◌, ℕ}
use Rattle.std.specs.Prelude.{Vec, option_map}
use Rattle.std.specs.declared.alloc.Global.{Global}
use Rattle.line_text.proofs.ReadLines.{handed}
use Rattle.log_text.specs.Sums.{spelled}
use Rattle.data_command.specs.inside.Ready.{IsWrongLog}
use Rattle.data_command.proofs.ready.going_of.Goals as goal

pub returns-in_err-is_own_log-clause-fault : goal.returns-in_err-is_own_log-clause-fault
returns-in_err-is_own_log-clause-fault c =
    handed c.from_residual-in_err-is_own_log.result _ _ c.from_residual-in_err-is_own_log.ensures.1 (inr (inr (
      c.as_slice.result.now,
      ap (option_map (λ (bytes : Vec ℕ Global). bytes.items)) c.in-Some.is ∙ ap Some (sym c.as_slice.ensures.value),
      subst (λ (ws : List ℕ). IsWrongLog ws (spelled c.args.task.now.number) c.args.saved.now.follows.now c.as_slice.result.now c.in_err-is_own_log.field-0.0)
          c.as_slice-words.ensures.value c.in_err-is_own_log.ensures.fault,
    )))
