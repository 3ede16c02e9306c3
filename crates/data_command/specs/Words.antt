-- What a log's head says of a silo.
use Rattle.std.specs.Prelude.{ℕ, List, map}
use Rattle.tenant_gate.specs.Table.{Table}
use Rattle.tenant_gate.specs.declared.limits.Limits.{Limits}
use Rattle.idle_collector.specs.Ages.{Ages}
use Rattle.command_parts.specs.Setups.{Start}
use Rattle.log_text.specs.Head.{Words, words_text}

-- a tenant with its activations and the places of a mailbox
abbrev pub tenant_words : List ℕ × Limits → List ℕ × (ℕ × ℕ)
tenant_words entry = (entry.0, (entry.1.activations, entry.1.mailbox))

-- the words of that logic, with so many deliveries behind a line, of these ages and tenants
abbrev pub words_by : ℕ → ℕ → ℕ → Ages → Table → Words
words_by kinds sends age ages tenants =
    record { kinds = kinds; sends = sends; age = age; ages = ages; tenants = map tenant_words tenants }

-- those of a silo that starts so
abbrev pub words_of : Start → ℕ → Words
words_of start sends = words_by start.version.number sends start.setup.age start.setup.ages start.setup.tenants

-- their lines
abbrev pub head_words : Start → ℕ → List ℕ
head_words start sends = words_text (words_of start sends)
