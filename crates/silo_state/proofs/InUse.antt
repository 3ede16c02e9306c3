-- Counts of what is in use.
use Rattle.std.proofs.Common.{◌≡◌, ℕ, ◌<◌, ◌==◌, arith, false}
use Rattle.std.specs.Ordering.{nat_cmp}
use Rattle.std.specs.Cmp.{nat_cmp_total}
use Rattle.std.specs.FinMap as map
use Rattle.std.specs.FinMap.{FinMap, nat_cmp-IsAntisymmetric}
use Rattle.std.proofs.lemmas.Bool.Decides.{Decides-eqb}
use Rattle.std.proofs.lemmas.Bool.{false_from_ne_true}
use Rattle.finite_maps.proofs.Maps as maps
use Rattle.silo_model.specs.Machine.{Request}

-- some turn is open
pub some_open : (turns : FinMap nat_cmp Request) (n : ℕ) (turn : Request) → (map.len (map.insert turns n turn) == 0) ≡ false
some_open turns n turn = false_from_ne_true _ (λ none. maps.found_some (map.insert turns n turn) n turn (maps.get-insert_same nat_cmp_total nat_cmp-IsAntisymmetric turns n turn) ((Decides-eqb _ 0).0 none))

-- some request waits
pub some_waits : (n : ℕ) → 0 < n → (n == 0) ≡ false
some_waits n some = false_from_ne_true _ (λ none. let zero = (Decides-eqb n 0).0 none in absurd (omega (arith, some, zero)))
