-- The bytes of a name's text, in place or in a block of their own.
use Rattle.std.specs.Prelude.{ℕ, List, string_bytes}
use Rattle.grain_id.specs.declared.name_text.NameText.{NameText}
use Rattle.grain_id.specs.declared.name_text.NameText.TheVariants.{Short, Long}

abbrev pub bytes_of : NameText → List ℕ
bytes_of (Short text) = text.bytes
bytes_of (Long text) = string_bytes text
