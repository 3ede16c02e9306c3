use Rattle.std.proofs.Common.{sym}
use Rattle.grain_kinds.proofs.Shortcuts.{adds}
use Rattle.grain_kinds.proofs.kinds.counter.shortcut.Goals as goal

pub returns-then-eq : goal.returns-then-eq
returns-then-eq c = adds c.args.method.now (sym c.if-eq.ensures)
