use Rattle.std.proofs.Common.{map, take}
use Rattle.silo_words.specs.Ages.{WriteAges}
use Rattle.silo_words.proofs.ages.read_list.Given as goal

-- the texts so far write the kinds and ages so far
abbrev pub invariant-loop-text : goal.invariant-loop-text
invariant-loop-text l = WriteAges (map (λ text. text.now) (take l.text-index l.texts)) l.list.items
