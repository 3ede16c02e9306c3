-- Lists: their first elements, and what holds of each element.
use Rattle.std.proofs.Common.{◌≡◌, Bool, true, false, List, [], ◌∷◌, ◌++◌, refl, ap}
use Rattle.std.specs.Prelude.{◌||◌, map as map_list}
use Rattle.std.specs.List.{AllByRecursion, IsDistinct, list_all, list_any}
use Rattle.std.proofs.lemmas.Bool.{and_from, or_parts, or_right}
use Rattle.std.proofs.lemmas.Map.Keys.{IsDistinct-cons, IsDistinct-head, IsDistinct-tail}

module _ {A : Type 0} where
  pub same_head : (x y : A) (xs ys : List A) → x ∷ xs ≡ y ∷ ys → x ≡ y
  same_head x y xs ys e = cc

  pub same_tail : (x y : A) (xs ys : List A) → x ∷ xs ≡ y ∷ ys → xs ≡ ys
  same_tail x y xs ys e = cc

  pub push_not_empty : (xs : List A) (x : A) → xs ++ x ∷ [] ≡ [] → ⊥
  push_not_empty [] x e = absurd cc
  push_not_empty (y ∷ xs) x e = absurd cc

  -- ---- each element

  pub all_weaker : (P Q : A → Type 0) (xs : List A) → ((x : A) → P x → Q x) → AllByRecursion P xs → AllByRecursion Q xs
  all_weaker P Q [] f all = tt
  all_weaker P Q (x ∷ xs) f all = (f x all.0, all_weaker P Q xs f all.1)

  pub all_append : (P : A → Type 0) (xs ys : List A) → AllByRecursion P xs → AllByRecursion P ys → AllByRecursion P (xs ++ ys)
  all_append P [] ys all more = more
  all_append P (x ∷ xs) ys all more = (all.0, all_append P xs ys all.1 more)

  -- the one that stands between others
  pub all_at : (P : A → Type 0) (xs rest : List A) (x : A) → AllByRecursion P (xs ++ x ∷ rest) → P x
  all_at P [] rest x all = all.0
  all_at P (y ∷ xs) rest x all = all_at P xs rest x all.1

  pub all_pass : {B : Type 0} (p : B → Bool) (f : A → B) (xs : List A) → AllByRecursion (λ x. p (f x) ≡ true) xs → list_all p (map_list f xs) ≡ true
  all_pass p f [] all = refl
  all_pass p f (x ∷ xs) all = and_from (p (f x)) _ all.0 (all_pass p f xs all.1)

  pub none_passes : (p : A → Bool) (xs : List A) → list_any p xs ≡ false → AllByRecursion (λ x. p x ≡ false) xs
  none_passes p [] none = tt
  none_passes p (x ∷ xs) none = let parts = or_parts (p x) (list_any p xs) none in (parts.0, none_passes p xs parts.1)

  -- a list after another of which it has nothing
  pub IsDistinct-append : (same : A → A → Bool) → ((x : A) → same x x ≡ true) → (xs ys : List A) → IsDistinct same xs → IsDistinct same ys → ((x : A) → list_any (same x) xs ≡ true → list_any (same x) ys ≡ false) → IsDistinct same (xs ++ ys)
  IsDistinct-append same itself [] ys each more apart = more
  IsDistinct-append same itself (x ∷ xs) ys each more apart =
      IsDistinct-cons same x (xs ++ ys)
      (all_append (λ y. same x y ≡ false) xs ys (IsDistinct-head same x xs each) (none_passes (same x) ys (apart x (ap (λ b. b || list_any (same x) xs) (itself x)))))
      (IsDistinct-append same itself xs ys (IsDistinct-tail same x xs each) more (λ y is. apart y (or_right (same y x) (list_any (same y) xs) is)))

  pub list_any-map : {B : Type 0} (p : B → Bool) (f : A → B) (xs : List A) → list_any p (map_list f xs) ≡ list_any (λ x. p (f x)) xs
  list_any-map p f [] = refl
  list_any-map p f (x ∷ xs) = ap (λ b. p (f x) || b) (list_any-map p f xs)
