-- Hashing names from a seed.
use Rattle.std.specs.Prelude.{ℕ}
use Rattle.std.specs.List.{fold}
use Rattle.std.specs.Hash as fed
use Rattle.std.specs.Hash.FoldHasher as folding
use Rattle.std.specs.declared.hash.FoldHasher.{FoldHasher}

-- The hasher that has read the seed's eight bytes, the lowest first.
abbrev pub begun_by : ℕ → FoldHasher
begun_by seed = fold folding.write folding.initial (fed.u64 seed)
