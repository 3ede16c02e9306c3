use Rattle.std.proofs.Common.{map, take}
use Rattle.silo_words.specs.Tenants.{WriteDistinct}
use Rattle.silo_words.proofs.tenants.read_tenants.Given as goal

-- the texts so far write the tenants so far, none twice
abbrev pub invariant-loop-text : goal.invariant-loop-text
invariant-loop-text l = WriteDistinct (map (λ text. text.now) (take l.text-index l.texts)) l.list.items
