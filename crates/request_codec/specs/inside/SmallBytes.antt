-- The bytes that are held, in place, shared or in a block of their own.
use Rattle.std.specs.Prelude.{ℕ, List, take, min, box_value}
use Rattle.std.specs.Arc.{arc_slice_items}
use Rattle.request_codec.specs.declared.small_bytes.SmallBytes.{SmallBytes}
use Rattle.request_codec.specs.declared.small_bytes.SmallBytes.TheVariants.{Short, Long, Apart}

abbrev pub bytes_of_small : SmallBytes → List ℕ
bytes_of_small (Short count bytes) = take (min count 22) bytes
bytes_of_small (Long bytes) = arc_slice_items bytes
bytes_of_small (Apart count bytes) = take (min count 25) (box_value bytes)
