use Rattle.std.proofs.Common.{sym, ap, ◌∙◌, subst, add-one}
use Rattle.std.proofs.lemmas.Result.{IfOk-weaker}
use Rattle.turn_arena.specs.Ascending.{NamesAscend}
use Rattle.turn_arena.specs.NodeValue.{field_values}
use Rattle.turn_arena.proofs.FieldPlaces.{dropped_field-gap, dropped_field-place, field_values-dropped, NamesAscend-dropped}
use Rattle.turn_arena.proofs.fields.drop_in.Goals as goal

pub returns-in-Ok-clause-exact : goal.returns-in-Ok-clause-exact
returns-in-Ok-clause-exact c =
    IfOk-weaker c.splice_in.result _ _ (λ r cut. cut ∙ rw add-one (sym (dropped_field-place c.args.name.now c.args.members.now c.in-Ok.at c.requires c.in-Ok.ensures.found))) c.splice_in.ensures

pub returns-in-Ok-clause-value : goal.returns-in-Ok-clause-value
returns-in-Ok-clause-value c =
    IfOk-weaker c.splice_in.result _ _ (λ r dropped. ap field_values dropped ∙ field_values-dropped c.args.name.now c.args.members.now) (returns-in-Ok-clause-exact c)

pub returns-in-Ok-clause-ascends : goal.returns-in-Ok-clause-ascends
returns-in-Ok-clause-ascends c =
    IfOk-weaker c.splice_in.result _ _ (λ r dropped. subst NamesAscend (sym dropped) (NamesAscend-dropped c.args.name.now c.args.members.now c.requires)) (returns-in-Ok-clause-exact c)

pub returns-in-Err-clause-exact : goal.returns-in-Err-clause-exact
returns-in-Err-clause-exact c = sym (dropped_field-gap _ _ _ c.in-Err.ensures.absent)

pub returns-in-Err-clause-value : goal.returns-in-Err-clause-value
returns-in-Err-clause-value c = ap field_values (returns-in-Err-clause-exact c) ∙ field_values-dropped c.args.name.now c.args.members.now
