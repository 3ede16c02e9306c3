-- Where the lines of all logs lead that a run passed.
use Rattle.std.proofs.Common.{◌≡◌, ◌∙◌, ℕ, List, [], ◌∷◌, ◌++◌, ap, append_assoc, sym}
use Rattle.silo_model.specs.Opening.{opening}
use Rattle.silo_model.specs.Segments.{untold}
use Rattle.silo_model.specs.Whole.{Whole}
use Rattle.log_answer.specs.Answers.{led, told_for}
use Rattle.log_answer.proofs.Led.{led_append, told_append}
use Rattle.log_answer.proofs.Left.{led_alike, told_alike}
use Rattle.command_parts.specs.Setups.{Start}
use Rattle.data_command.specs.Across.{LogsLeadOn, all_had, all_said, held_by, lines_had}
use Rattle.data_command.specs.Data.{LogView, led_by}
use Rattle.data_command.specs.Passing.{Passed, Passes}

module _ (sends : ℕ) where
  -- where lines lead from a start, but for the replies, and what is told for them
  abbrev leads : Start → List (List ℕ) → Whole
  leads start lines = untold (led start.version.logic sends (opening start.setup) lines)

  abbrev tells : Start → List (List ℕ) → List ℕ
  tells start lines = told_for start.version.logic sends (opening start.setup) lines

  module _ (start : Start) (old : LogView) (p : Passed) (passes : Passes sends start old p) where
    abbrev begun : Whole
    begun = opening start.setup

    abbrev had : List (List ℕ)
    had = lines_had sends start old p passes

    abbrev left : Whole
    left = led_by start sends passes.on.number passes.on.bytes passes.on.acts

    one_leads : (lines : List (List ℕ)) → leads p.next lines ≡ leads start (had ++ lines)
    one_leads lines =
        ap (λ (s : Start). leads s lines) passes.next_is
        ∙ led_alike start.version.logic sends (opening passes.is.next) left lines (ap untold passes.is.takes.opens)
        ∙ ap untold (sym (led_append start.version.logic sends begun had lines))

    one_tells : (lines : List (List ℕ)) → (held_by sends start old p passes).said ++ tells p.next lines ≡ tells start (had ++ lines)
    one_tells lines =
        ap (λ (said : List ℕ). said ++ tells p.next lines) passes.is.takes.told.settled.said
        ∙ ap (λ (more : List ℕ). tells start had ++ more)
        (ap (λ (s : Start). tells s lines) passes.next_is
        ∙ told_alike start.version.logic sends (opening passes.is.next) left lines (ap untold passes.is.takes.opens))
        ∙ sym (told_append start.version.logic sends begun had lines)

pub logs_lead_on : LogsLeadOn
logs_lead_on sends start old [] own view all lines = (ap (λ (s : Start). leads sends s lines) all.0, ap (λ (s : Start). tells sends s lines) all.0)
logs_lead_on sends start old (p ∷ passed) own view all lines =
    let behind = all_had sends p.next p.view passed own view all.1 in
    let rest = logs_lead_on sends p.next p.view passed own view all.1 lines in
    let first = lines_had sends start old p all.0 in
    let whole : first ++ (behind ++ lines) ≡ (first ++ behind) ++ lines = sym (append_assoc first behind lines) in (
      rest.0 ∙ one_leads sends start old p all.0 (behind ++ lines) ∙ ap (λ (ls : List (List ℕ)). leads sends start ls) whole,
      append_assoc (held_by sends start old p all.0).said (all_said sends p.next p.view passed own view all.1) (tells sends own lines)
          ∙ ap (λ (more : List ℕ). (held_by sends start old p all.0).said ++ more) rest.1
          ∙ one_tells sends start old p all.0 (behind ++ lines) ∙ ap (λ (ls : List (List ℕ)). tells sends start ls) whole,
    )
