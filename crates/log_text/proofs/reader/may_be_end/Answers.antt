use Rattle.std.proofs.Common.{◌∙◌, ◌∷◌, ◌-◌, length, ap, sym, arith}
use Rattle.std.proofs.lemmas.List.{length-append}
use Rattle.log_text.specs.Sums.{own_sums}
use Rattle.log_text.proofs.Ends.{mark_seen, more_seen, moved, none_more, none_seen, one_seen}
use Rattle.log_text.proofs.reader.may_be_end.Goals.{then-is_marked-via-then-is_marked, then-is_marked-via-else-is_marked+then-not-is_in_place}
use Rattle.log_text.proofs.reader.may_be_end.Goals as goal

pub returns-in_default : goal.returns-in_default
returns-in_default c = sym (c.lines.invariant.tested ∙ none_more own_sums c.args.name.now c.lines.is_marked c.lines.rest.now _ c.in_default.ensures)

pub lines-preserved : goal.lines-preserved
lines-preserved c =
    let cut = c.in-Some.ensures in
    let next = moved c.args.bytes.now c.lines.rest.now c.in-Some.line.now c.in-Some.behind.now cut.1 c.lines.invariant.few in
    record {
      tested =
          c.lines.invariant.tested
          ∙ none_seen own_sums c.args.name.now c.lines.is_marked (length c.args.bytes.now - length c.lines.rest.now) c.lines.rest.now c.in-Some.line.now c.in-Some.behind.now cut.0 cut.1
          (sym c.is_a_mark.ensures ∙ c.if-is_a_mark.false) (length c.args.bytes.now - length c.in-Some.behind.now) next;
      few = omega (arith, c.lines.invariant.few, ap length cut.1, length-append c.in-Some.line.now (10 ∷ c.in-Some.behind.now));
    }

pub lines-preserved-else-not-is_in_place : goal.lines-preserved-else-not-is_in_place
lines-preserved-else-not-is_in_place c =
    let cut = c.in-Some.ensures in
    let next = moved c.args.bytes.now c.lines.rest.now c.in-Some.line.now c.in-Some.behind.now cut.1 c.lines.invariant.few in
    record {
      tested =
          c.lines.invariant.tested
          ∙ mark_seen own_sums c.args.name.now c.lines.is_marked (length c.args.bytes.now - length c.lines.rest.now) c.lines.rest.now c.in-Some.line.now c.in-Some.behind.now cut.0 cut.1
          (sym c.is_a_mark.ensures ∙ c.if-is_a_mark.true) c.if-is_marked.false (sym c.is_in_place.ensures ∙ c.if-not-is_in_place.false) (length c.args.bytes.now - length c.in-Some.behind.now) next;
      few = omega (arith, c.lines.invariant.few, ap length cut.1, length-append c.in-Some.line.now (10 ∷ c.in-Some.behind.now));
    }

pub returns-then-is_marked : goal.returns-then-is_marked
returns-then-is_marked c =
    let cut = c.in-Some.ensures in
    let mark = sym c.is_a_mark.ensures ∙ c.if-is_a_mark.true in
    elim c.then-is_marked.branch [
      | then-is_marked-via-then-is_marked w ↦ sym (
          c.lines.invariant.tested
          ∙ more_seen own_sums c.args.name.now c.lines.is_marked _ c.lines.rest.now c.in-Some.line.now c.in-Some.behind.now cut.0 cut.1 mark w.if-is_marked.true)
      | then-is_marked-via-else-is_marked+then-not-is_in_place w ↦ sym (
          c.lines.invariant.tested
          ∙ one_seen own_sums c.args.name.now c.lines.is_marked _ c.lines.rest.now c.in-Some.line.now c.in-Some.behind.now cut.0 cut.1 mark w.if-is_marked.false
          (sym w.is_in_place.ensures ∙ w.if-not-is_in_place.true))
    ]
