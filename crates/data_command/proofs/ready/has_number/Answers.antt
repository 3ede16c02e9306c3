use Rattle.data_command.proofs.ready.has_number.Goals as goal

pub returns-then-starts_with : goal.returns-then-starts_with
returns-then-starts_with c is = (_, c.is_headed.ensures is)
