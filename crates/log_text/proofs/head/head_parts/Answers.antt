use Rattle.log_text.proofs.Heads.{no_number, no_space, no_start, same_line, too_short}
use Rattle.log_text.proofs.head.head_parts.Goals as goal

pub returns-in_default : goal.returns-in_default
returns-in_default c number sum behind fine plain is = no_start c.args.words.now number sum behind c.args.bytes.now c.in_default.ensures is

pub returns-in_default-cut_line : goal.returns-in_default-cut_line
returns-in_default-cut_line c number sum behind fine plain is =
    no_number c.args.words.now number sum behind c.in-Some.rest.now c.args.bytes.now c.in-Some.ensures c.in_default-cut_line.ensures fine plain is

pub returns-in_default-split_at_checked : goal.returns-in_default-split_at_checked
returns-in_default-split_at_checked c number sum behind fine plain is =
    let cut = c.in-Some-cut_line.ensures in
    too_short number sum c.in-Some-cut_line.line.now c.in_default-split_at_checked.ensures.cases fine
    (same_line c.args.words.now number sum behind c.in-Some.rest.now c.args.bytes.now c.in-Some-cut_line.line.now c.in-Some-cut_line.after.now
    c.in-Some.ensures cut.0 cut.1 fine plain is)

pub returns-in_default-behind : goal.returns-in_default-behind
returns-in_default-behind c number sum behind fine plain is =
    let cut = c.in-Some-cut_line.ensures in
    no_space number sum c.in-Some-cut_line.line.now c.in-Some-split_at_checked.rest.now c.in-Some-split_at_checked.ensures.cases.2 c.in_default-behind.ensures fine
    (same_line c.args.words.now number sum behind c.in-Some.rest.now c.args.bytes.now c.in-Some-cut_line.line.now c.in-Some-cut_line.after.now
    c.in-Some.ensures cut.0 cut.1 fine plain is)
