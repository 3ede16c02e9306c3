use Rattle.silo_words.proofs.command.steps_command.Goals as goal

pub returns : goal.returns
returns c =
    c.with_arg.ensures _ _ (c.with_ages.ensures _ c.bare.ensures) c.tenant_arguments.ensures.rule c.tenant_arguments.ensures.local
