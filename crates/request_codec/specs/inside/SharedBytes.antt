-- The bytes that are kept, beside their count or in a block of their own.
use Rattle.std.specs.Prelude.{ℕ, List, take, min}
use Rattle.request_codec.specs.declared.shared_bytes.SharedBytes.{SharedBytes}
use Rattle.request_codec.specs.declared.shared_bytes.SharedBytes.TheVariants.{Short, Long}

abbrev pub bytes_of_shared : SharedBytes → List ℕ
bytes_of_shared (Short count bytes) = take (min count 30) bytes
bytes_of_shared (Long bytes) = bytes.items
