use Rattle.line_parser.proofs.line_members.take_text.Goals as goal

pub returns : goal.returns
returns c = c.put_text.ensures.put c.if-not-put_text.false c.args.reader.now c.next_text.new.self c.in_ok-text.ensures
