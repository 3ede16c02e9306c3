use Rattle.std.proofs.Common.{List, ap, subst, ◌∙◌}
use Rattle.std.specs.Prelude.{map as map_list}
use Rattle.silo_event.specs.declared.reply.Reply.{Reply}
use Rattle.silo_event.specs.declared.step.Step.{Step}
use Rattle.lane_model.specs.Lanes.{Lane, LanesStand}
use Rattle.lane_model.specs.Serving.{replies_to}
use Rattle.worker_host.proofs.report.served_answers.Goals as goal

pub returns-clause-served : goal.returns-clause-served
returns-clause-served g c =
    let lanes = c.args.lanes.now in
    record {
      leads = c.journal.ensures.leads;
      paced = c.requires.paced;
      stand = subst (λ (journal : List Step). LanesStand lanes journal) c.journal.ensures.steps (c.in_ok-lanes_stand.ensures.0 c.in_ok-must_hold.ensures);
      quiet = c.requires.quiet;
      failed = c.failures_count.ensures c.in_ok-must_hold-3.ensures;
      answered = c.in_ok-answers.ensures ∙ ap (λ (replies : List Reply). map_list (λ (lane : Lane). replies_to lane.from replies) lanes) c.replies.ensures;
    }
