use Rattle.std.proofs.Common.{sym}
use Rattle.grain_kinds.proofs.Shortcuts.{puts}
use Rattle.grain_kinds.proofs.kinds.sheet.shortcut.Goals as goal

pub returns-then-eq : goal.returns-then-eq
returns-then-eq c = puts c.args.method.now (sym c.if-eq.ensures)
