use Rattle.std.proofs.Common.{◌≡◌, ◌∙◌, List, Ok, ap, inl, inr, refl, subst, sym, take, ℕ}
use Rattle.log_text.specs.Head.{head_text}
use Rattle.log_text.specs.Sums.{after, spelled}
use Rattle.silo_checkpoint.specs.Saved.{sum_in}
use Rattle.command_parts.specs.Setups.{version_of}
use Rattle.data_command.specs.Data.{NothingFollows, place_of}
use Rattle.data_command.proofs.Replaced.{at_opening, next_is, reopened_so, switched, switched_or_not}
use Rattle.data_command.proofs.Starts.{placed}
use Rattle.data_command.proofs.replacing.replace_log.Goals as goal

pub returns-in-Ok-switch-clause-stands : goal.returns-in-Ok-switch-clause-stands
returns-in-Ok-switch-clause-stands g c start old bytes acts m =
    let reopened = reopened_so _ _ _ _ c.in-Ok-true.is c.in-Ok-true.field-0-test c.reopen.ensures.reopens in
    switched m c.requires.words reopened c.journal-2.ensures.leads c.as_slice.ensures (rw c.in-Some.is at c.in-Ok.ensures.texts) c.as_slice-2.ensures.value c.as_slice-3.ensures.value _
    (rw c.in-Ok-switch.is at c.switch.ensures.ok)

pub returns-clause-stands : goal.returns-clause-stands
returns-clause-stands g c start old bytes acts m =
    let reopened = reopened_so _ _ _ _ c.in-Ok-true.is c.in-Ok-true.field-0-test c.reopen.ensures.reopens in
    switched_or_not m c.requires.words reopened c.journal-2.ensures.leads c.as_slice.ensures (rw c.in-Some.is at c.in-Ok.ensures.texts) c.as_slice-2.ensures.value c.as_slice-3.ensures.value _
    c.in-Err-switch.ensures.err

pub returns-in-Ok-switch-clause-next : goal.returns-in-Ok-switch-clause-next
returns-in-Ok-switch-clause-next g c =
    let reopened = reopened_so _ _ _ _ c.in-Ok-true.is c.in-Ok-true.field-0-test c.reopen.ensures.reopens in
    let texts = rw c.in-Some.is at c.in-Ok.ensures.texts in
    let words = c.args.task.now.words.items in
    let next = c.next_log.result in
    let spelt = c.next_log.ensures.number ∙ ap (λ (t : List ℕ). spelled (sum_in t)) c.as_slice-in-Ok-switch.ensures.value in
    let at : next.place ≡ place_of words next.number =
    placed words next.number next.place (c.next_log.ensures.name ∙ ap (take 8) (sym c.next_log.ensures.number))
    (c.next_log.ensures.sum ∙ ap (after 0) (c.as_slice-in-Ok-switch-2.ensures.value ∙ texts.headed ∙ ap (head_text words) (sym spelt))) c.next_log.ensures.told in
    inr (record {
      sum = sum_in c.in-Some.text.items;
      spelt = spelt;
      placed = at;
      opens = sym (at_opening _ c.reopen.new.self.history c.journal-2.ensures.leads reopened.journal);
      idle = c.journal-2.ensures.idle (c.reopen.ensures.stopped ∙ c.requires.ready);
      is = λ start from bytes acts m.
          next_is m c.requires.words reopened c.journal-2.ensures.leads c.as_slice.ensures texts c.as_slice-2.ensures.value c.as_slice-3.ensures.value _ next spelt at
          (rw c.in-Ok-switch.is at c.switch.ensures.ok);
    })

-- no checkpoint can follow the log
pub returns-in_default-texts-clause-next : goal.returns-in_default-texts-clause-next
returns-in_default-texts-clause-next g c =
    inl (record {
      same = refl;
      place = refl;
      number = refl;
      may = inr (
        subst (λ (n : List ℕ). NothingFollows (version_of g.L.GrainLogic.logic c.args.task.now.kinds) c.args.task.now.sends n c.reopen.new.self.history.setup) c.as_slice.ensures
            (c.in-Ok.ensures.none (ap Ok c.in_default-texts.is)),
        refl,
      );
    })
