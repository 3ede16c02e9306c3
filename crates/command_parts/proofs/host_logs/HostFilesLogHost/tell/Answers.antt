use Rattle.std.proofs.Common.{List, arith, inr, length, subst, sym, take_all, ℕ}
use Rattle.line_text.specs.Writing.{WrittenInPart}
use Rattle.command_parts.proofs.host_logs.HostFilesLogHost.tell.Goals as goal

pub returns-clause-err : goal.returns-clause-err
returns-clause-err g c =
    let bytes = c.args.bytes.now in
    let before = g.W.Write.contents c.args.output.now.writer in
    let after = g.W.Write.contents c.say_bytes.new.to.writer in
    inr (length bytes, tt, subst (λ (bs : List ℕ). WrittenInPart before after bs) (sym (take_all (length bytes) bytes (omega arith))) (c.say_bytes.ensures.part c.if-say_bytes.false).part)
