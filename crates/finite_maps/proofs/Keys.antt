-- What keys give: their order's ties and their test say the same.
use Rattle.std.proofs.Common.{◌≡◌, ◌==◌, Bool, true, refl, ap, sym, ◌∙◌}
use Rattle.std.specs.Bool.{Decides}
use Rattle.std.specs.Cmp.{IsTotalOrder, Equal-is, tied_itself, nat_cmp_total}
use Rattle.std.specs.declared.cmp.Ordering.{Ordering}
use Rattle.std.specs.Ordering.{eq_by_cmp, nat_cmp}
use Rattle.std.specs.FinMap.{IsAntisymmetric, nat_cmp-IsAntisymmetric}
use Rattle.std.proofs.lemmas.Bool.Decides.{same_from_decides, Decides-eqb}
use Rattle.finite_maps.specs.Keys.{AreKeys}

module _ {K : Type 0} {R : K → K → Ordering} (total : IsTotalOrder R) (exact : IsAntisymmetric R) where
  -- the ties of an order decide equality, if it ties nothing but equals
  pub eq_by_cmp-Decides : (x y : K) → Decides (eq_by_cmp R x y) (x ≡ y)
  eq_by_cmp-Decides x y = (λ e. exact x y ((Equal-is (R x y)).0 e), λ same. (Equal-is (R x y)).1 (ap (R x) (sym same) ∙ tied_itself total x))

  -- so its ties are a test
  pub keys_by_order : AreKeys (eq_by_cmp R) R
  keys_by_order = record { total = total; exact = exact; decides = eq_by_cmp-Decides }

pub numbers : AreKeys ◌==◌ nat_cmp
numbers = record { total = nat_cmp_total; exact = nat_cmp-IsAntisymmetric; decides = Decides-eqb }

module _ {K : Type 0} {same : K → K → Bool} {R : K → K → Ordering} (keys : AreKeys same R) where
  pub same_key : (a b : K) → same a b ≡ true → a ≡ b
  same_key a b = (keys.decides a b).0

  pub key_itself : (a : K) → same a a ≡ true
  key_itself a = (keys.decides a a).1 refl

  pub key_ties : (a b : K) → eq_by_cmp R a b ≡ same a b
  key_ties a b = same_from_decides (eq_by_cmp R a b) (same a b) (eq_by_cmp-Decides keys.total keys.exact a b) (keys.decides a b)

  pub key_turned : (a b : K) → same a b ≡ same b a
  key_turned a b = same_from_decides (same a b) (same b a) (keys.decides a b) (λ e. sym (same_key b a e), λ e. (keys.decides b a).1 (sym e))
