use Rattle.silo_words.proofs.command.rows_command.Goals as goal

pub returns : goal.returns
returns c =
    let of_folder = c.with_arg-command.ensures _ _ c.bare.ensures c.folder_argument.ensures.rule c.folder_argument.ensures.local in
    c.with_arg.ensures _ _ of_folder c.tenant_argument.ensures.rule c.tenant_argument.ensures.local
