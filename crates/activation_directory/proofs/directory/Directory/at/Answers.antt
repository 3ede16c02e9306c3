use Rattle.std.proofs.Common.{ap, sym, ◌∙◌}
use Rattle.std.proofs.lemmas.Option.{slice_get-map}
use Rattle.std.specs.Option.{option_map}
use Rattle.activation_directory.specs.inside.Places.{at_place}
use Rattle.finite_maps.proofs.Options.{not_none}
use Rattle.activation_directory.proofs.Registers.{get-shown}
use Rattle.activation_directory.proofs.directory.Directory.at.Goals as goal

pub returns-clause-id : goal.returns-clause-id
returns-clause-id c = rw (← c.self.view_is) (sym (slice_get-map (λ e. e.0) c.self.inside.places.entries c.args.place ∙ ap (option_map (λ e. e.0)) (sym c.in_ok-id.ensures.entry)))

pub returns-clause-activation : goal.returns-clause-activation
returns-clause-activation c = rw (← c.self.view_is) (get-shown c.self.inside.activations c.self.inside.places.entries c.self.invariant.placed_all c.in_ok-id.id.now ∙ ap (at_place c.self.inside.activations) c.in_ok-id.ensures.value ∙ sym c.in_ok-activation.ensures)

pub returns-in_err-activation-clause-id : goal.returns-in_err-activation-clause-id
returns-in_err-activation-clause-id c = absurd (not_none _ (c.self.invariant.placed_all.filled c.in_ok-id.id.now c.in_ok-id.slot.now c.in_ok-id.ensures.value) (sym c.in_err-activation.ensures))
