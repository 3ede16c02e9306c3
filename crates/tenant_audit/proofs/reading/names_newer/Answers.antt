use Rattle.std.proofs.Common.{IfSome, Ok, Option, ap, arith, lt-ltb, ltb-true, subst, ℕ}
use Rattle.journal_text.specs.JournalAnswers.{NamesKinds}
use Rattle.tenant_audit.proofs.Versions.{one_named}
use Rattle.tenant_audit.proofs.reading.names_newer.Goals as goal

pub returns-in-Some : goal.returns-in-Some
returns-in-Some c =
    let names : NamesKinds c.args.bytes.now c.in-Some.kinds = subst (λ (o : Option ℕ). IfSome o (λ kinds. NamesKinds c.args.bytes.now kinds)) c.in-Some.is c.in_ok-kinds.ensures.some in (
      λ newer. record {
        kinds = c.in-Some.kinds;
        names = names;
        newer = omega (arith, ltb-true c.newest.result c.in-Some.kinds newer, c.newest.ensures);
      },
      λ newer. lt-ltb c.newest.result c.in-Some.kinds (omega (arith, newer.newer, c.newest.ensures, one_named c.args.bytes.now newer.kinds c.in-Some.kinds newer.names names)),
    )

pub returns-in-None : goal.returns-in-None
returns-in-None c = (λ e. absurd (cc (e)), λ newer. absurd (c.in_ok-kinds.ensures.none (ap (λ (o : Option ℕ). Ok o) c.in-None.is) newer.kinds newer.names))
