use Rattle.std.proofs.Common.{◌≡◌, true, refl, subst, sym, ◌∙◌}
use Rattle.std.proofs.lemmas.List.{take_all}
use Rattle.std.proofs.lemmas.List.Elements.{All-more}
use Rattle.grain_id.specs.Names.{Grain}
use Rattle.silo_state.specs.KeptParts.{AllKnown}
use Rattle.silo_state.specs.declared.parts.GrainParts.{GrainParts}
use Rattle.silo_state.proofs.state.resumed.knows_all.Goals as goal

pub returns : goal.returns
returns g c = (λ _. subst (AllKnown g.L.GrainLogic.logic) (take_all c.grains.grain-index c.args.grains.now c.grains-test.false) c.grains.invariant, λ _. refl)
