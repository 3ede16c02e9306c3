use Rattle.std.proofs.Common.{◌++◌, length, ap, ap₂, subst, ◌∙◌, arith}
use Rattle.std.proofs.lemmas.List.{length-append, length-take-le}
use Rattle.line_parser.specs.inside.Fields.{PutsSorted}
use Rattle.line_parser.proofs.Places.{sorted_long, are_sorted, sorted_already}
use Rattle.line_parser.proofs.fields.Fields.sort.Goals as goal

pub returns-then-self-clause-sorted : goal.returns-then-self-clause-sorted
returns-then-self-clause-sorted c placed front h b = sorted_already placed c.args.self.now front c.args.out.now.items c.args.start h c.if-self.true b

pub returns-clause-sorted : goal.returns-clause-sorted
returns-clause-sorted c placed front h b =
    let p = subst (λ l. PutsSorted placed l c.put_sorted.new.sorted.items) c.as_slice.ensures.value (c.in_ok-put_sorted.ensures placed h c.in_ok-sorted.ensures.items) in
    are_sorted placed front c.args.out.now.items c.put_sorted.new.sorted.items c.extend_from_slice.new.self.items c.args.start b p (c.in_ok-extend_from_slice.ensures.items ∙ ap₂ (λ x y. x ++ y) c.truncate.ensures.items c.as_slice-2.ensures.value)

pub returns-clause-len : goal.returns-clause-len
returns-clause-len c =
    let (placed, front, h, b) = c.requires in
    let p = subst (λ l. PutsSorted placed l c.put_sorted.new.sorted.items) c.as_slice.ensures.value (c.in_ok-put_sorted.ensures placed h c.in_ok-sorted.ensures.items) in
    let long = sorted_long placed front c.args.out.now.items c.put_sorted.new.sorted.items c.args.start b p in
    let cut = length-take-le c.args.start c.args.out.now.items (omega (arith, long)) in
    omega (arith, long, cut, ap length c.truncate.ensures.items, ap length c.in_ok-extend_from_slice.ensures.items, length-append c.truncate.new.self.items c.as_slice-2.result.now, ap length c.as_slice-2.ensures.value)
