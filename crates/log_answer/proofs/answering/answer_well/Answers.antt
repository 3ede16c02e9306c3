use Rattle.std.proofs.Common.{Bool, ◌∙◌, ap, drop, length, subst, sym, true, ◌≡◌}
use Rattle.std.specs.List.{list_all}
use Rattle.line_answer.specs.Dropped.{MayDrop}
use Rattle.log_answer.proofs.Left.{leads_gone}
use Rattle.log_answer.proofs.Luck.{is_stored, leads_well}
use Rattle.log_answer.proofs.answering.answer_well.Goals as goal

pub returns-then-all_stored-clause-leads : goal.returns-then-all_stored-clause-leads
returns-then-all_stored-clause-leads g c =
    let old = c.args.silo.now.history in
    let new = c.answer_line.new.silo.history in
    let stored : list_all is_stored (drop (length old.journal) new.journal) ≡ true =
    (λ i. list_all is_stored (drop (length (sym c.journal-before.ensures.steps i)) (sym c.journal.ensures.steps i)))
    ∙ ap (list_all is_stored) (sym c.split_at.ensures.back) ∙ sym c.all_stored.ensures ∙ c.if-all_stored.true in
    let leads = leads_well _ _ old new _ _ c.journal-before.ensures.leads (c.journal-before.ensures.idle c.requires)
    (rw c.if-memory.true at c.in_ok-memory.ensures.ok) stored in
    leads_gone _ _ _ old new c.note.new.self.history _ _ leads
    (subst (λ (b : Bool). MayDrop b new c.note.new.self.history) c.in_ok-memory.ensures.keeps c.note.ensures.history)
