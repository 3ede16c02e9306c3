use Rattle.line_parser.proofs.line_members.take_failed.Goals as goal

pub returns : goal.returns
returns c = c.put_failed.ensures c.if-not-put_failed.false c.args.reader.now c.next_truth.new.reader c.in_ok-truth.ensures
