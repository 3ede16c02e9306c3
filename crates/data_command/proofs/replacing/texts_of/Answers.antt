use Rattle.std.proofs.Common.{List, Ok, ap, inl, subst, sym, ℕ}
use Rattle.silo_core.specs.History.{History}
use Rattle.silo_checkpoint.specs.Saved.{HasText, saved_by}
use Rattle.data_command.proofs.Replaced.{follows_text}
use Rattle.data_command.proofs.replacing.texts_of.Goals as goal

pub returns-in_default-clause-none : goal.returns-in_default-clause-none
returns-in_default-clause-none g c none = inl (λ text says. c.in_default.ensures.cases.0 (follows_text text _ says))

pub returns-in_default-2-clause-none : goal.returns-in_default-2-clause-none
returns-in_default-2-clause-none g c none =
    inl (λ text says. c.in_ok-text.ensures.none (ap Ok c.in_default-2.is) text
    (subst (λ (h : History). HasText text (saved_by c.in-Ok.follows.now c.args.task.now.kinds c.args.task.now.sends h.setup)) (sym c.silo.ensures)
    (subst (λ (n : List ℕ). HasText text (saved_by n c.args.task.now.kinds c.args.task.now.sends c.args.silo.now.history.setup)) (sym c.in-Ok.ensures.cases.0) says)))
