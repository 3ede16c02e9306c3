-- The nearest version is one.
use Rattle.std.specs.Prelude.{ℕ, nat_le}
use Rattle.std.proofs.Common.{arith}
use Rattle.std.proofs.lemmas.Bool.{leb-false}
use Rattle.grain_logic.specs.LawsOfForms.{if_holds}
use Rattle.grain_kinds.specs.Versions.{IsVersion, nearest, newest}

pub nearest_is_version : (number : ℕ) → IsVersion (nearest number)
nearest_is_version number =
    if_holds IsVersion (nat_le number 1) _ _ (λ e. (omega arith, omega arith))
    (λ more. if_holds IsVersion (nat_le newest number) _ _ (λ e. (omega arith, omega arith))
    (λ fewer. (omega (arith, leb-false number 1 more), omega (arith, leb-false newest number fewer))))
