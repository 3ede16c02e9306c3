use Rattle.std.proofs.Common.{ap, sym, ◌∙◌}
use Rattle.activation_directory.specs.inside.Places.{at_place}
use Rattle.activation_directory.proofs.Registers.{get-shown}
use Rattle.activation_directory.proofs.directory.Directory.get.Goals as goal

pub returns-in_err-found : goal.returns-in_err-found
returns-in_err-found c = rw (c.from_residual.ensures, ← c.self.view_is) (sym (get-shown c.self.inside.activations _ c.self.invariant.placed_all _ ∙ ap (at_place c.self.inside.activations) (sym c.in_err-found.ensures)))

pub returns : goal.returns
returns c = rw (← c.self.view_is) (c.get.ensures ∙ sym (get-shown c.self.inside.activations _ c.self.invariant.placed_all _ ∙ ap (at_place c.self.inside.activations) (sym c.in_ok-found.ensures)))
