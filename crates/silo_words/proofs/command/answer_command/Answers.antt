use Rattle.silo_words.proofs.command.answer_command.Goals as goal

pub returns : goal.returns
returns c =
    let aged = c.with_ages-command.ensures _ c.bare.ensures in
    let sending = c.with_arg-command.ensures _ _ aged c.sends_option.ensures.rule c.sends_option.ensures.local in
    let kept = c.with_arg-command-2.ensures _ _ sending c.journal_option.ensures.rule c.journal_option.ensures.local in
    let foldered = c.with_arg-command-3.ensures _ _ kept c.data_option.ensures.rule c.data_option.ensures.local in
    let unsynced = c.with_arg-command-4.ensures _ _ foldered c.no_sync_option.ensures.rule c.no_sync_option.ensures.local in
    c.with_arg.ensures _ _ unsynced c.tenant_arguments.ensures.rule c.tenant_arguments.ensures.local
