use Rattle.std.proofs.Common.{◌≡◌, ◌≢◌, ℕ, List, IsSomeAnd, MatchOption, Option, Some, None, Bor}
use Rattle.std.proofs.lemmas.Str.Pattern.{split_after}
use Rattle.std.proofs.lemmas.List.Elements.{All-get_or}
use Rattle.silo_words.proofs.parts.cut.Goals as goal

some_of : (r : Option (Bor (List ℕ) × Bor (List ℕ))) (before after : List ℕ) → MatchOption r ⊥ (λ x. (x.0.now ≡ before) × (x.1.now ≡ after)) → IsSomeAnd r (λ parts. (parts.0.now ≡ before) × (parts.1.now ≡ after))
some_of None before after h = absurd h
some_of (Some x) before after h = h

pub returns-clause-first : goal.returns-clause-first
returns-clause-first c before after none is =
    some_of _ before after (split_after c.args.mark c.args.text.now before after _ c.split_once.ensures.cases c.requires is (λ i below. All-get_or (λ b. b ≢ c.args.mark) before i 0 below none))
