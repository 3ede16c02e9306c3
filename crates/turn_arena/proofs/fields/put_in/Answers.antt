use Rattle.std.proofs.Common.{sym, ap, ◌∙◌, subst, add-one}
use Rattle.std.proofs.lemmas.Result.{IfOk-weaker}
use Rattle.turn_arena.specs.Ascending.{NamesAscend}
use Rattle.turn_arena.specs.NodeValue.{field_values}
use Rattle.turn_arena.proofs.FieldPlaces.{put_field-gap, put_field-place, field_values-put, NamesAscend-put}
use Rattle.turn_arena.specs.declared.node.Field.{Field}
use Rattle.turn_arena.proofs.fields.put_in.Goals as goal

pub returns-in-Ok-clause-exact : goal.returns-in-Ok-clause-exact
returns-in-Ok-clause-exact c =
    let field : Field = record { name = c.args.name; node = c.args.node } in
    IfOk-weaker c.splice_in.result _ _ (λ r spliced. spliced ∙ rw add-one (sym (put_field-place field c.args.members.now c.in-Ok.at c.requires c.in-Ok.ensures.found))) c.splice_in.ensures

pub returns-in-Ok-clause-value : goal.returns-in-Ok-clause-value
returns-in-Ok-clause-value c =
    let field : Field = record { name = c.args.name; node = c.args.node } in
    IfOk-weaker c.splice_in.result _ _ (λ r put. ap field_values put ∙ field_values-put field c.args.members.now) (returns-in-Ok-clause-exact c)

pub returns-in-Ok-clause-ascends : goal.returns-in-Ok-clause-ascends
returns-in-Ok-clause-ascends c =
    let field : Field = record { name = c.args.name; node = c.args.node } in
    IfOk-weaker c.splice_in.result _ _ (λ r put. subst NamesAscend (sym put) (NamesAscend-put field c.args.members.now c.requires)) (returns-in-Ok-clause-exact c)

pub returns-in-Err-clause-exact : goal.returns-in-Err-clause-exact
returns-in-Err-clause-exact c =
    let field : Field = record { name = c.args.name; node = c.args.node } in
    IfOk-weaker c.splice_in-in-Err.result _ _ (λ r spliced. spliced ∙ sym (put_field-gap field c.args.members.now c.in-Err.at c.in-Err.ensures.absent)) c.splice_in-in-Err.ensures

pub returns-in-Err-clause-value : goal.returns-in-Err-clause-value
returns-in-Err-clause-value c =
    let field : Field = record { name = c.args.name; node = c.args.node } in
    IfOk-weaker c.splice_in-in-Err.result _ _ (λ r put. ap field_values put ∙ field_values-put field c.args.members.now) (returns-in-Err-clause-exact c)

pub returns-in-Err-clause-ascends : goal.returns-in-Err-clause-ascends
returns-in-Err-clause-ascends c =
    let field : Field = record { name = c.args.name; node = c.args.node } in
    IfOk-weaker c.splice_in-in-Err.result _ _ (λ r put. subst NamesAscend (sym put) (NamesAscend-put field c.args.members.now c.requires)) (returns-in-Err-clause-exact c)
