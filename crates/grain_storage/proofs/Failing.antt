-- The count of failures, at the failing call.
use Rattle.std.proofs.Common.{◌≡◌, ℕ, ◌+◌, Bool, true, false, ◌&&◌, nat_lt, nat_le, if◌then◌else◌, arith, ap, ◌∙◌}
use Rattle.std.proofs.lemmas.Bool.Decides.{nat_tests}
use Rattle.grain_storage.specs.Answers.{Counted}

abbrev one_where : Bool → ℕ
one_where b = if b then 1 else 0

-- before the failing call nothing has failed, and after it one call has
pub Counted-failing : (fails_at made : ℕ) → made + 1 ≡ fails_at
    → Counted (one_where (nat_lt 0 fails_at && nat_le fails_at made)) (one_where (nat_lt 0 fails_at && nat_le fails_at fails_at))
Counted-failing fails_at made next =
    let some : nat_lt 0 fails_at ≡ true = grind (arith, nat_tests) in
    let not_yet : nat_le fails_at made ≡ false = grind (arith, nat_tests) in
    let from_now : nat_le fails_at fails_at ≡ true = grind (arith, nat_tests) in
    let before : one_where (nat_lt 0 fails_at && nat_le fails_at made) ≡ 0 = ap (λ b. one_where (b && nat_le fails_at made)) some ∙ ap one_where not_yet in
    let after : one_where (nat_lt 0 fails_at && nat_le fails_at fails_at) ≡ 1 = ap (λ b. one_where (b && nat_le fails_at fails_at)) some ∙ ap one_where from_now in
    record { room = omega arith; one_more = omega arith }
