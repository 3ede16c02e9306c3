use Rattle.silo_words.proofs.command.with_ages.Goals as goal

pub returns : goal.returns
returns c app given =
    c.with_arg-2.ensures _ _ (c.with_arg.ensures app _ given c.age_option.ensures.rule c.age_option.ensures.local)
    c.ages_option.ensures.rule c.ages_option.ensures.local
