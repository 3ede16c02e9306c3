use Rattle.std.proofs.Common.{Some, ap, ◌∙◌, if◌then◌else◌}
use Rattle.std.specs.String.{string_bytes}
use Rattle.indexmap.specs.IndexMap.{get_by_text}
use Rattle.std.proofs.lemmas.Map.Text.{hash_map_updates_text}
use Rattle.grain_id.specs.Names.{same_text}
use Rattle.tenant_gate.proofs.table.add.Goals as goal

pub returns : goal.returns
returns c = λ name.
    hash_map_updates_text (string_bytes c.in_ok-from_str.field-0) c.args.index.now c.insert.new.self (Some c.args.limits) c.in_ok-insert.ensures.updates name
    ∙ ap (λ bytes. if same_text bytes name then Some c.args.limits else get_by_text c.args.index.now name) (c.in_ok-from_str.ensures.ok ∙ c.text.ensures.text)
