use Rattle.std.proofs.Common.{ℕ, List, Bor}
use Rattle.silo_words.proofs.AgeLemmas.{none_there, one_more}
use Rattle.silo_words.proofs.ages.read_list.Goals as goal

pub returns-in_default-clause-none : goal.returns-in_default-clause-none
returns-in_default-clause-none c =
    none_there (λ (text : Bor (List ℕ)). text.now) c.args.texts.now c.loop-text.text-index _ c.loop-text-test.true (rw c.in_default.is at c.in_ok-read.ensures.none)

pub loop-text-preserved : goal.loop-text-preserved
loop-text-preserved c =
    one_more (λ (text : Bor (List ℕ)). text.now) c.args.texts.now c.loop-text.text-index _ c.loop-text-test.true c.loop-text.list.items _ c.in-Some.read.kind c.in-Some.read.age c.loop-text.invariant c.in_ok-add.ensures
    (rw c.in-Some.is at c.in_ok-read.ensures.some)
