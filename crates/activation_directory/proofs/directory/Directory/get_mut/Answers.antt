use Rattle.std.proofs.Common.{ap, sym, ◌∙◌}
use Rattle.std.specs.Option.{ghost_name_of}
use mathlib.Core.Logic.{inr}
use borrow.Follows.Closed.{read_of}
use Rattle.slab.specs.Slab as slab
use Rattle.grain_id.proofs.Keys.{grains}
use Rattle.activation_directory.specs.inside.Places.{at_place}
use Rattle.activation_directory.proofs.Places.{placed-written}
use Rattle.finite_maps.proofs.Options.{some_from_IsSome}
use Rattle.activation_directory.specs.declared.activation.Activation.{Activation}
use Rattle.activation_directory.specs.inside.Counts.{count_in}
use Rattle.activation_directory.specs.inside.Kept.{shown}
use Rattle.activation_directory.specs.inside.Lending.{with_activation}
use Rattle.activation_directory.proofs.Sizes.{count_in-written}
use Rattle.activation_directory.proofs.Registers.{get-shown, shown-written}
use Rattle.activation_directory.proofs.directory.Directory.get_mut.Goals as goal

pub returns-in_err-found : goal.returns-in_err-found
returns-in_err-found c = (
  ap inr c.self.view_is ∙ sym (ap (λ r. read_of (ghost_name_of r) (with_activation c.args.self.now c.args.id.now) c.args.self.now) c.from_residual.ensures),
  record {
    writes_back = tt;
    value = rw (c.from_residual.ensures, ← c.self.view_is) (sym (get-shown c.self.inside.activations _ c.self.invariant.placed_all _ ∙ ap (at_place c.self.inside.activations) (sym c.in_err-found.ensures)));
  },
)

pub returns : goal.returns
returns c =
    let written = λ (w : Activation). shown-written c.self.inside.activations c.self.inside.places.entries c.self.invariant.placed_all c.args.id.now c.in_ok-found.found.place (sym c.in_ok-found.ensures) w ∙ ap (λ d. with_activation d c.args.id.now w) c.self.view_is in (
      λ i. read_of (ghost_name_of c.get_mut.result) (λ w. written w i) (c.self.view_is i),
      record {
        writes_back = tt;
        value = rw (← c.self.view_is) (c.get_mut.ensures.value ∙ sym (get-shown c.self.inside.activations _ c.self.invariant.placed_all _ ∙ ap (at_place c.self.inside.activations) (sym c.in_ok-found.ensures)));
      },
    )

pub invariant_of-self-lent : goal.invariant_of-self-lent
invariant_of-self-lent c o =
    let s = c.self.inside.activations in
    let es = c.self.inside.places.entries in
    let at = sym c.in_ok-found.ensures in
    let place = c.in_ok-found.found.place in
    let there = some_from_IsSome (slab.get s place) (c.self.invariant.placed_all.filled c.args.id.now place at) in (
      λ w. record {
        placed_all = placed-written grains es s c.self.invariant.placed_all c.args.id.now place at w;
        counted = λ tenant.
            c.self.invariant.counted tenant
            ∙ sym (count_in-written (shown es s).activations c.args.id.now w there.0 tenant (get-shown s es c.self.invariant.placed_all c.args.id.now ∙ ap (at_place s) at ∙ there.1))
            ∙ ap (λ d. count_in d.activations tenant) (sym (shown-written s es c.self.invariant.placed_all c.args.id.now place at w));
      },
      record { placed_all = c.self.invariant.placed_all; counted = c.self.invariant.counted },
    )
