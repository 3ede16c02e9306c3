use Rattle.std.proofs.Common.{Some, ◌∙◌, if◌then◌else◌}
use Rattle.std.specs.String.{string_bytes}
use Rattle.indexmap.specs.IndexMap.{get_by_text}
use Rattle.std.proofs.lemmas.Map.Text.{hash_map_updates_text}
use Rattle.grain_id.specs.Names.{same_text}
use Rattle.tenant_accounts.proofs.accounts.add.Goals as goal

pub returns : goal.returns
returns c = λ name.
    hash_map_updates_text (string_bytes c.in_ok-from_str.field-0) c.args.by_name.now c.insert.new.self (Some c.new.result) c.in_ok-insert.ensures.updates name
    ∙ (λ i. if same_text ((c.in_ok-from_str.ensures.ok ∙ c.text.ensures.text) i) name then Some (c.new.ensures i) else get_by_text c.args.by_name.now name)
