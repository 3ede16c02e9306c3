use Rattle.line_parser.proofs.line_members.take_natural.Goals as goal

pub returns : goal.returns
returns c = c.put_natural.ensures.put c.if-not-put_natural.false c.args.reader.now c.next_natural.new.reader c.in_ok-n.ensures
