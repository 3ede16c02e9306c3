-- A line that is answered, and is kept and told later.
use Rattle.std.specs.Prelude.{◌≡◌, ℕ, Bool, List, [], ◌∷◌, ◌++◌}
use Rattle.grain_logic.specs.Logic.{Logic}
use Rattle.silo_core.specs.History.{History}
use Rattle.log_text.specs.Batches.{line_text}
use Rattle.log_answer.specs.Answers.{HasLeft, LeadsLines, told_for}

-- The line was answered and nothing failed; the batch has it behind its lines, and its text behind their texts.
pub record Gathers (logic : Logic) (n : ℕ) (old : History) (line : List ℕ) (new : History)
    (asked asked_then text text_then : List ℕ) : Type 0 where
  pub leads : LeadsLines logic n old (line ∷ []) new (told_for logic n old.whole (line ∷ []))
  pub asked_is : asked_then ≡ asked ++ line_text line
  pub text_is : text_then ≡ text ++ told_for logic n old.whole (line ∷ [])

-- The same of a silo that may drop its history.
pub record GathersOn (keeps : Bool) (logic : Logic) (n : ℕ) (old : History) (line : List ℕ) (new : History)
    (asked asked_then text text_then : List ℕ) : Type 0 where
  pub all : History
  pub left : HasLeft keeps all new
  pub gathers : Gathers logic n old line all asked asked_then text text_then
