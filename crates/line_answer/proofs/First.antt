-- What is written for a client's line begins with the line of the reply to it.
use Rattle.std.proofs.Common.{◌≡◌, ℕ, List, [], ◌∷◌, ◌++◌, length, Option, Some, None, refl, ap, ◌∙◌, subst, append_assoc}
use Rattle.std.specs.Prelude.{drop}
use Rattle.silo_event.specs.declared.reply.Party.TheVariants as party
use Rattle.silo_event.specs.declared.reply.Reply.{Reply}
use Rattle.silo_model.specs.Calls.{told}
use Rattle.silo_model.specs.Whole.{Whole, whole_step}
use Rattle.line_text.specs.LineTexts.{texts_of}
use Rattle.answer_model.specs.Answering.{Asked, first_luck, taken, whole_stepper, answered}
use Rattle.answer_model.specs.Idle.{TellsAsker, TellsFirst}
use Rattle.answer_model.proofs.Idle.{answered_at_once, asked_done}
use Rattle.line_answer.specs.Texts.{text_if, step_text}
use Rattle.line_answer.specs.Laws.{ClientsFirst}

drop_front : (old more : List Reply) → drop (length old) (old ++ more) ≡ more
drop_front [] more = refl
drop_front (r ∷ old) more = drop_front old more

text_possible : (r : Option Whole) (text : List ℕ) → (r ≡ None → ⊥) → text_if r text ≡ text
text_possible None text can = absurd (can refl)
text_possible (Some w) text can = refl

pub clients_first : ClientsFirst
clients_first logic n h s lucks client id leads idle asked is =
    let by = whole_stepper logic in
    let w = h.whole in
    let one : Asked = record { step = s; lucks = lucks } in
    let after = answered by n w one in
    let tells : TellsFirst client id w.replies after.replies = subst (λ asking. TellsAsker asking w.replies after.replies) is (answered_at_once logic h.setup h.journal w n one leads idle asked).1 in
    let added = told (party.Client client id) tells.outcome ++ tells.others in
    let all : after.replies ≡ w.replies ++ added = tells.replies ∙ append_assoc w.replies (told (party.Client client id) tells.outcome) tells.others in (
      tells.outcome,
      tells.others,
      tells.to_grains,
      ap (λ b. step_text by n b w s lucks) asked
          ∙ text_possible (whole_step logic w (taken one)) (texts_of (drop (length w.replies) after.replies)) (asked_done logic w (first_luck lucks).asking_failed s (client, id) is)
          ∙ ap texts_of (ap (drop (length w.replies)) all ∙ drop_front w.replies added),
    )
