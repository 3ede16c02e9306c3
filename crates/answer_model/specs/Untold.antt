-- A silo that dropped its replies answers as it would have answered with them.
use Rattle.std.specs.Prelude.{◌≡◌, ℕ, List}
use Rattle.silo_event.specs.declared.reply.Reply.{Reply}
use Rattle.grain_logic.specs.Logic.{Logic}
use Rattle.silo_model.specs.Whole.{Whole}
use Rattle.silo_model.specs.Segments.{told_before}
use Rattle.answer_model.specs.Answering.{Asked, all_answered, whole_stepper}

-- Whatever replies were made before, what is asked leaves the same: those replies stand before the new ones, and nothing else depends on
-- them.
abbrev pub AnswersAsEver : Type 0
AnswersAsEver = (logic : Logic) (n : ℕ) (replies : List Reply) (w : Whole) (all : List Asked)
    → all_answered (whole_stepper logic) n (told_before replies w) all ≡ told_before replies (all_answered (whole_stepper logic) n w all)
