-- The sum of two parts.
use Rattle.std.proofs.Common.{◌≡◌, List, ◌++◌, sym, ℕ}
use Rattle.std.proofs.lemmas.List.Sums.{fold-append}
use Rattle.std.specs.Hash.DefaultHasher.{write, write_byte}
use Rattle.std.specs.declared.hash.DefaultHasher.{DefaultHasher}

pub written_both : (s : DefaultHasher) (first second : List ℕ) → write (write s first) second ≡ write s (first ++ second)
unfolding write
written_both s first second = sym (fold-append write_byte s first second)
