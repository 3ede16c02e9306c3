use Rattle.journal_text.proofs.Common.{All, take}
use Rattle.journal_text.specs.inside.Kept.{HasWord}
use Rattle.journal_text.proofs.kept.see_kinds.Given as goal

abbrev pub invariant-ages : goal.invariant-ages
invariant-ages l = All HasWord (take l.kind-index l.ages)
