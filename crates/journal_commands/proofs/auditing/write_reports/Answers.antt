use Rattle.std.specs.Io.KnownBytes.{Appends}
use Rattle.command_parts.specs.Streams.{BreaksOff}
use Rattle.std.proofs.Common.{List, refl, subst, ℕ, ◌∙◌}
use Rattle.journal_commands.proofs.auditing.write_reports.Goals as goal

pub returns-then-say-clause-written : goal.returns-then-say-clause-written
returns-then-say-clause-written g c = (
  c.end_of.ensures,
  subst (λ (text : List ℕ). Appends (g.W.Write.contents c.args.output.now.writer) (g.W.Write.contents c.say.new.to.writer) text)
      (c.as_str.ensures.value ∙ c.in-Ok.ensures) (c.if-say.ensures.whole refl),
)

pub returns-clause-fault : goal.returns-clause-fault
returns-clause-fault g c =
    subst (λ (text : List ℕ). BreaksOff (g.W.Write.contents c.args.output.now.writer) (g.W.Write.contents c.say.new.to.writer) c.say.new.to.calls text)
    (c.as_str.ensures.value ∙ c.in-Ok.ensures) (c.if-say.ensures.part refl)
