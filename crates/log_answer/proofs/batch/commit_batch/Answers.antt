use Rattle.std.proofs.Common.{◌≡◌, [], arith, subst, vec_len}
use Rattle.std.proofs.lemmas.List.{nil_from_length}
use Rattle.log_answer.specs.inside.Commits.{Commits}
use Rattle.log_answer.proofs.Kept.{commits_none}
use Rattle.log_answer.proofs.Own.{tells_committed}
use Rattle.log_answer.proofs.batch.commit_batch.Goals as goal

pub returns-then-is_empty-clause-commits : goal.returns-then-is_empty-clause-commits
returns-then-is_empty-clause-commits g c =
    let batch = c.args.batch.now in
    let empty : vec_len batch.asked ≡ 0 = grind arith in
    let none : batch.asked.items ≡ [] = nil_from_length batch.asked.items (omega (arith, empty, batch.asked.ok.0)) in
    commits_none _ _ _ _ _ none (batch.paired none)

pub returns-in-Ok-clause-commits : goal.returns-in-Ok-clause-commits
returns-in-Ok-clause-commits g c =
    let old = g.H.LogHost.acts c.args.log.now in
    let new = g.H.LogHost.acts c.commit.new.host in
    let before = g.W.Write.contents c.args.output.now.writer in
    let after = g.W.Write.contents c.commit.new.output.writer in
    let told : Commits old new before after c.args.place c.args.batch.now.asked.items c.as_slice.result.now c.in-Ok.next = record {
      name = c.in-Ok.ensures.name;
      written = c.in-Ok.ensures.written;
      settles = λ log h acts is a.
          let s = c.in-Ok.ensures.settled log h acts is a in
          record { more = s.more; acts = s.acts; always = s.always; settled = s.settled; lines_then = s.lines };
      tells = λ logic n w name first sum h acts is a m.
          tells_committed logic n w name first sum h c.args.place c.in-Ok.next _ _ old new acts c.in-Ok.ensures.told c.in-Ok.ensures.order is a m;
    } in
    subst (λ t. Commits old new before after c.args.place c.args.batch.now.asked.items t c.in-Ok.next) c.as_slice.ensures.value told
