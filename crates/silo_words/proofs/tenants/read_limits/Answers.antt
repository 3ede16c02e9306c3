use Rattle.std.proofs.Common.{Option, Some, None, IfNone, arith}
use Rattle.std.specs.Prelude.{decimal}
use Rattle.tenant_gate.specs.declared.limits.Limits.{Limits}
use Rattle.silo_words.specs.Tenants.{IsLimitsText}
use Rattle.silo_words.proofs.PartLemmas.{HasNone-decimal}
use Rattle.silo_words.proofs.tenants.read_limits.Goals as goal

none_of : {A P : Type 0} → P → (r : Option A) → IfNone r P
none_of p None = p
none_of p (Some x) = tt

pub returns-in_err-activations-clause-none : goal.returns-in_err-activations-clause-none
returns-in_err-activations-clause-none c =
    let no : (limits : Limits) → ¬ IsLimitsText c.args.text.now limits = λ limits is. c.in_err-activations.ensures.first (decimal limits.activations) (decimal limits.mailbox) (HasNone-decimal 58 limits.activations (omega arith) (omega (arith, is.0))) is.1 in
    none_of no _

pub returns-in_err-read_number-clause-none : goal.returns-in_err-read_number-clause-none
returns-in_err-read_number-clause-none c =
    let no : (limits : Limits) → ¬ IsLimitsText c.args.text.now limits = λ limits is.
    let parts = c.in_ok-activations.ensures.first (decimal limits.activations) (decimal limits.mailbox) (HasNone-decimal 58 limits.activations (omega arith) (omega (arith, is.0))) is.1 in
    c.in_err-read_number.ensures.none limits.activations (is.0.0, parts.0) in
    none_of no _

pub returns-in_err-read_number-2-clause-none : goal.returns-in_err-read_number-2-clause-none
returns-in_err-read_number-2-clause-none c =
    let no : (limits : Limits) → ¬ IsLimitsText c.args.text.now limits = λ limits is.
    let parts = c.in_ok-activations.ensures.first (decimal limits.activations) (decimal limits.mailbox) (HasNone-decimal 58 limits.activations (omega arith) (omega (arith, is.0))) is.1 in
    c.in_err-read_number-2.ensures.none limits.mailbox (is.0.1, parts.1) in
    none_of no _
