use Rattle.silo_words.proofs.command.serve_command.Goals as goal

pub returns : goal.returns
returns c =
    let by_workers = c.with_arg-command.ensures _ _ c.bare.ensures c.workers_option.ensures.rule c.workers_option.ensures.local in
    let aged = c.with_ages-command.ensures _ by_workers in
    let kept = c.with_arg-command-2.ensures _ _ aged c.journal_option.ensures.rule c.journal_option.ensures.local in
    let explained = c.with_arg-command-3.ensures _ _ kept c.explain_option.ensures.rule c.explain_option.ensures.local in
    let counted = c.with_arg-command-4.ensures _ _ explained c.summary_option.ensures.rule c.summary_option.ensures.local in
    c.with_arg.ensures _ _ counted c.tenant_arguments.ensures.rule c.tenant_arguments.ensures.local
