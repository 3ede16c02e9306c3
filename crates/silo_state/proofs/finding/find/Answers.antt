use Rattle.std.proofs.Common.{List, ℕ, refl, sym, subst}
use Rattle.request_codec.specs.Call.{Call}
use Rattle.silo_state.specs.Finds.{IsOf}
use Rattle.silo_state.proofs.finding.find.Goals as goal

pub returns-then-is_of : goal.returns-then-is_of
returns-then-is_of c =
    let found = c.in-Some.ensures.found in
    let state = c.in-Some.found.state.now in
    record {
      entry = found.entry;
      state = state;
      request = found.request;
      is_open = found.is_open;
      idle_after_is = found.idle_after_is;
      is_of = subst (λ (p : List ℕ × Call). IsOf p.0 state p.1 c.args.input.now) (λ i. (c.kind.ensures i, found.message_is i)) (c.if-is_of.ensures.own refl);
    }

pub returns : goal.returns
returns c =
    let found = c.in-Some.ensures.found in
    let state = c.in-Some.found.state.now in
    record {
      entry = found.entry;
      state = state;
      version = c.in-Some.found.at_close.version;
      request = found.request;
      is_open = found.is_open;
      other = λ same. c.if-is_of.ensures.other refl (subst (λ (p : List ℕ × Call). IsOf p.0 state p.1 c.args.input.now) (λ i. (sym c.kind.ensures i, sym found.message_is i)) same);
    }
