use Rattle.std.proofs.Common.{rules}
use Rattle.std.proofs.lemmas.List.Sorted.{answers_always}
use Rattle.turn_arena.proofs.FieldPlaces.{found_at, gap_at}
use Rattle.turn_arena.proofs.fields.place_of.Goals as goal

-- the closure gives a field's name
pub returns-clause-found : goal.returns-clause-found
returns-clause-found c =
    let facts = c.binary_search_by_key.ensures in
    found_at c.args.name.now c.args.members.now c.binary_search_by_key.result facts.bound (facts.position (λ f. f.name) (answers_always _ _ _ (λ f a r g called. search rules)))

pub returns-clause-absent : goal.returns-clause-absent
returns-clause-absent c =
    let facts = c.binary_search_by_key.ensures in
    gap_at c.args.name.now c.args.members.now c.binary_search_by_key.result c.requires facts.bound (facts.position (λ f. f.name) (answers_always _ _ _ (λ f a r g called. search rules)))
