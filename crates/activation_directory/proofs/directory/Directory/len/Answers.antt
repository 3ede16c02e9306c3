use Rattle.std.proofs.Common.{ap, sym, ◌∙◌, subst}
use Rattle.std.specs.FinMap as map
use Rattle.std.specs.List.{IsDistinct}
use Rattle.grain_id.proofs.Keys.{grains}
use Rattle.grain_id.specs.Names.{grain_eq}
use Rattle.activation_directory.proofs.Places.{len-placed}
use Rattle.std.specs.Prelude.{IsSome}
use Rattle.grain_id.specs.Names.{Grain}
use Rattle.activation_directory.specs.Register.{Register, StandsIn}
use Rattle.activation_directory.proofs.Registers.{stands}
use Rattle.activation_directory.proofs.directory.Directory.len.Goals as goal

pub returns-clause-activations : goal.returns-clause-activations
returns-clause-activations c = c.len.ensures.len ∙ sym (len-placed grains c.self.inside.activations c.self.inside.places.entries c.self.invariant.placed_all) ∙ ap (λ d. map.len d.activations) c.self.view_is

pub returns-clause-once : goal.returns-clause-once
returns-clause-once c = subst (λ (d : Register). IsDistinct grain_eq d.order) c.self.view_is c.self.invariant.placed_all.unique

pub returns-clause-all : goal.returns-clause-all
returns-clause-all c = subst (λ (d : Register). (id : Grain) → IsSome (map.get d.activations id) → StandsIn d.order id) c.self.view_is (stands c.self.inside.activations c.self.inside.places.entries c.self.invariant.placed_all)
