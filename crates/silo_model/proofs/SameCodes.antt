-- Values that have codes are told apart by their codes.
use Rattle.silo_model.proofs.Common.{◌&&◌, ◌==◌, ◌∙◌, ◌≡◌, Bool, Decides, and_parts, ap, eq-eqb, eqb-true, false, refl, subst, sym, true}
use Rattle.silo_model.proofs.Common.{true≢false}
use base.Stored.{Coded, Gv, gcons, gnil, gnum}

abbrev same_code : Gv → Gv → Bool
same_code gnil gnil = true
same_code (gnum m) (gnum n) = m == n
same_code (gcons a b) (gcons c d) = same_code a c && same_code b d
same_code _ _ = false

is_same : (x y : Gv) → same_code x y ≡ true → x ≡ y
is_same gnil gnil e = refl
is_same (gnum m) (gnum n) e = ap gnum (eqb-true m n e)
is_same (gcons a b) (gcons c d) e = let parts = and_parts (same_code a c) (same_code b d) e in λ i. gcons (is_same a c parts.0 i) (is_same b d parts.1 i)
is_same _ _ e = absurd (true≢false (sym e))

itself : (x : Gv) → same_code x x ≡ true
itself gnil = refl
itself (gnum n) = eq-eqb n n refl
itself (gcons a b) = ap (λ x. x && same_code b b) (itself a) ∙ itself b

pub same_by_code : {A : Type 0} → Coded A → A → A → Bool
same_by_code c x y = same_code (c.code x) (c.code y)

pub same_by_code_decides : {A : Type 0} (c : Coded A) (x y : A) → Decides (same_by_code c x y) (x ≡ y)
unfolding same_by_code
same_by_code_decides c x y = (λ e. c.inj x y (is_same (c.code x) (c.code y) e), λ e. subst (λ z. same_code (c.code x) (c.code z) ≡ true) e (itself (c.code x)))
