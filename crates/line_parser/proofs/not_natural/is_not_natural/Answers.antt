use Rattle.std.proofs.Common.{sym, subst, ⊎_elim}
use Rattle.json.specs.Reads.{token_of}
use Rattle.line_parser.specs.inside.NotNatural.{IsNotNatural}
use Rattle.line_parser.proofs.NotNaturals.{string_not_natural, truth_not_natural, null_not_natural, number_not_natural}
use Rattle.line_parser.proofs.not_natural.is_not_natural.Goals as goal

pub returns-in-String : goal.returns-in-String
returns-in-String c so =
    ⊎_elim (λ s. subst (λ t. IsNotNatural (token_of t)) (sym s.1) (string_not_natural s.0.now))
    (λ other. ⊎_elim (λ b. subst (λ t. IsNotNatural (token_of t)) (sym b.1) (truth_not_natural b.0)) (λ null. subst (λ t. IsNotNatural (token_of t)) (sym null) null_not_natural) other) c.in-String.is

pub returns-in-Number : goal.returns-in-Number
returns-in-Number c so = subst (λ t. IsNotNatural (token_of t)) (sym c.in-Number.is) (number_not_natural c.in-Number.text.now (c.is_no_natural.ensures so))
