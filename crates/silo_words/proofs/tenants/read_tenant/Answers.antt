use Rattle.std.proofs.Common.{true≢false, refl, ap, sym, ◌∙◌}
use Rattle.grain_id.specs.Words.{is_word}
use Rattle.silo_words.specs.Tenants.{limits_text}
use Rattle.silo_words.proofs.PartLemmas.{HasNone-word}
use Rattle.silo_words.proofs.tenants.read_tenant.Goals as goal

pub returns-in_default-clause-none : goal.returns-in_default-clause-none
returns-in_default-clause-none c tenant limits is =
    c.in_default.ensures.first tenant (limits_text limits) (HasNone-word 58 tenant refl is.0) is.2

pub returns-in_default-read_limits-clause-none : goal.returns-in_default-read_limits-clause-none
returns-in_default-read_limits-clause-none c tenant limits is =
    let parts = c.in-Some.ensures.first tenant (limits_text limits) (HasNone-word 58 tenant refl is.0) is.2 in
    c.in_default-read_limits.ensures.none limits (is.1, parts.1)

pub returns-in_default-2-clause-none : goal.returns-in_default-2-clause-none
returns-in_default-2-clause-none c tenant limits is =
    let parts = c.in-Some.ensures.first tenant (limits_text limits) (HasNone-word 58 tenant refl is.0) is.2 in
    let no_word = rw c.in_default-2.is at c.in_ok-tenant.ensures.none in
    true≢false (sym is.0 ∙ ap is_word (sym parts.0) ∙ no_word)
