use Rattle.std.proofs.Common.{List, ap, subst, sym, ◌∙◌}
use Rattle.std.proofs.lemmas.Result.{IfOk-weaker}
use Rattle.std.specs.List.Sorted.{IsStrictlySortedBy}
use Rattle.std.specs.Map.{keys_of}
use Rattle.finite_maps.specs.Mapped.{map_values}
use Rattle.grain_id.specs.Names.{Grain, grain_cmp}
use Rattle.silo_model.specs.Segments.{kept_grain}
use Rattle.silo_state.specs.KeptParts.{grains_in}
use Rattle.silo_state.specs.declared.parts.GrainParts.{GrainParts}
use Rattle.silo_state.proofs.KeptGrains.{in_order}
use Rattle.silo_state.proofs.activations.Activations.kept.Goals as goal

pub returns-clause-ascending : goal.returns-clause-ascending
returns-clause-ascending g c =
    IfOk-weaker c.listed.result _ _ (λ list is.
    in_order list.items (map_values kept_grain c.args.self.now.entries)
    (subst (λ (all : List (Grain × GrainParts)). IsStrictlySortedBy grain_cmp (keys_of all)) (sym is) c.in_ok-grains.ensures.ordered)
    (ap grains_in is ∙ c.in_ok-grains.ensures.kept)) c.listed.ensures
