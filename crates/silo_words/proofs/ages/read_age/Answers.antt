use Rattle.std.proofs.Common.{true≢false, refl, ap, sym, ◌∙◌}
use Rattle.std.specs.Prelude.{decimal}
use Rattle.grain_id.specs.Words.{is_word}
use Rattle.silo_words.proofs.PartLemmas.{HasNone-word}
use Rattle.silo_words.proofs.ages.read_age.Goals as goal

pub returns-in_default-clause-none : goal.returns-in_default-clause-none
returns-in_default-clause-none c kind age is =
    c.in_default.ensures.first kind (decimal age) (HasNone-word 61 kind refl is.0) is.2

pub returns-in_default-read_number-clause-none : goal.returns-in_default-read_number-clause-none
returns-in_default-read_number-clause-none c kind age is =
    let parts = c.in-Some.ensures.first kind (decimal age) (HasNone-word 61 kind refl is.0) is.2 in
    c.in_default-read_number.ensures.none age (is.1, parts.1)

pub returns-in_default-2-clause-none : goal.returns-in_default-2-clause-none
returns-in_default-2-clause-none c kind age is =
    let parts = c.in-Some.ensures.first kind (decimal age) (HasNone-word 61 kind refl is.0) is.2 in
    let no_word = rw c.in_default-2.is at c.in_ok-kind.ensures.none in
    true≢false (sym is.0 ∙ ap is_word (sym parts.0) ∙ no_word)
