-- Finite maps whose order is total and ties nothing but equals.
use Rattle.std.proofs.Common.{◌≡◌, ◌+◌, ◌-◌, Bool, true, false, cond, [], Option, Some, None, is_some, refl, ap, sym, ◌∙◌}
use Rattle.std.specs.declared.cmp.Ordering.{Ordering}
use Rattle.std.specs.Ordering.{eq_by_cmp}
use Rattle.std.specs.Cmp.{IsTotalOrder}
use Rattle.std.specs.FinMap as map
use Rattle.std.specs.FinMap.{FinMap, IsAntisymmetric}
use Rattle.std.proofs.lemmas.List.{nil_from_length}
use Rattle.std.proofs.lemmas.Option.{none-some}
use Rattle.finite_maps.proofs.Keys.{eq_by_cmp-Decides}
use Rattle.finite_maps.proofs.Choices.{cond-again, cond-same}

-- ---- one choice inside another

inner : {A : Type 0} (t p : Bool) (x y z : A) → (t ≡ true → p ≡ true) → cond p (cond t x y) z ≡ cond t x (cond p y z)
inner true true x y z h = refl
inner true false x y z h = absurd (let e = h refl in cc)
inner false p x y z h = refl

outer : {A : Type 0} (t p : Bool) (x y z : A) → (t ≡ true → p ≡ false) → cond p (cond t x y) z ≡ cond p y z
outer true true x y z h = absurd (let e = h refl in cc)
outer true false x y z h = refl
outer false p x y z h = refl

none_twice : {A : Type 0} (t p : Bool) (x : Option A) → cond p (cond t None x) None ≡ cond t None (cond p x None)
none_twice true true x = refl
none_twice true false x = refl
none_twice false p x = refl

-- ---- a map without entries

module _ {K X : Type 0} {R : K → K → Ordering} (m : FinMap R X) where
  pub entries-none : map.len m ≡ 0 → map.entries m ≡ []
  entries-none none = nil_from_length (map.entries m) (sym (map.len-entries m) ∙ none)

  pub get-none : (k : K) → map.len m ≡ 0 → map.get m k ≡ None
  get-none k none = map.get-entries m k ∙ ap (map.find R k) (entries-none none)

  pub found_some : (k : K) (v : X) → map.get m k ≡ Some v → map.len m ≡ 0 → ⊥
  found_some k v found none = none-some v (sym (get-none k none) ∙ found)

-- ---- changes

module _ {K : Type 0} {R : K → K → Ordering} (total : IsTotalOrder R) (exact : IsAntisymmetric R) where
  at_key : (p : K → Bool) (k q : K) (b : Bool) → p k ≡ b → eq_by_cmp R q k ≡ true → p q ≡ b
  at_key p k q b e t = ap p ((eq_by_cmp-Decides total exact q k).0 t) ∙ e

module _ {K : Type 0} {R : K → K → Ordering} (total : IsTotalOrder R) (exact : IsAntisymmetric R) {X : Type 0} where
  -- two maps that answer alike are one
  pub alike : (m n : FinMap R X) → ((q : K) → map.get m q ≡ map.get n q) → m ≡ n
  alike m n e = map.same_map total exact m n e

  tied_get : (m : FinMap R X) (k q : K) → eq_by_cmp R q k ≡ true → map.get m k ≡ map.get m q
  tied_get m k q t = ap (map.get m) (sym ((eq_by_cmp-Decides total exact q k).0 t))

  -- what was put at a key is there
  pub get-insert_same : (m : FinMap R X) (k : K) (v : X) → map.get (map.insert m k v) k ≡ Some v
  get-insert_same m k v = map.get-insert total m k v k ∙ ap (λ b. cond b (Some v) (map.get m k)) ((eq_by_cmp-Decides total exact k k).1 refl)

  -- another key answers as before
  pub get-insert_other : (m : FinMap R X) (k q : K) (v : X) → eq_by_cmp R q k ≡ false → map.get (map.insert m k v) q ≡ map.get m q
  get-insert_other m k q v e = map.get-insert total m k v q ∙ ap (λ b. cond b (Some v) (map.get m q)) e

  pub get-remove_same : (m : FinMap R X) (k : K) → map.get (map.remove m k) k ≡ None
  get-remove_same m k = map.get-remove total m k k ∙ ap (λ b. cond b None (map.get m k)) ((eq_by_cmp-Decides total exact k k).1 refl)

  pub get-remove_other : (m : FinMap R X) (k q : K) → eq_by_cmp R q k ≡ false → map.get (map.remove m k) q ≡ map.get m q
  get-remove_other m k q e = map.get-remove total m k q ∙ ap (λ b. cond b None (map.get m q)) e

  -- what is there already, put there again
  pub insert-again : (m : FinMap R X) (k : K) (v : X) → map.get m k ≡ Some v → map.insert m k v ≡ m
  insert-again m k v e = alike _ m (λ q. map.get-insert total m k v q ∙ cond-same (eq_by_cmp R q k) (Some v) (map.get m q) (λ t. sym e ∙ tied_get m k q t))

  -- nothing is there to remove
  pub remove-absent : (m : FinMap R X) (k : K) → map.get m k ≡ None → map.remove m k ≡ m
  remove-absent m k e = alike _ m (λ q. map.get-remove total m k q ∙ cond-same (eq_by_cmp R q k) None (map.get m q) (λ t. sym e ∙ tied_get m k q t))

  -- the last value put at a key stays
  pub insert-insert : (m : FinMap R X) (k : K) (v w : X) → map.insert (map.insert m k v) k w ≡ map.insert m k w
  insert-insert m k v w = alike _ _ (λ q.
      map.get-insert total (map.insert m k v) k w q
      ∙ ap (λ o. cond (eq_by_cmp R q k) (Some w) o) (map.get-insert total m k v q)
      ∙ cond-again (eq_by_cmp R q k) (Some w) (Some v) (map.get m q)
      ∙ sym (map.get-insert total m k w q))

  -- a key that was put and taken out again
  pub remove-insert : (m : FinMap R X) (k : K) (v : X) → map.remove (map.insert m k v) k ≡ map.remove m k
  remove-insert m k v = alike _ _ (λ q.
      map.get-remove total (map.insert m k v) k q
      ∙ ap (λ o. cond (eq_by_cmp R q k) None o) (map.get-insert total m k v q)
      ∙ cond-again (eq_by_cmp R q k) None (Some v) (map.get m q)
      ∙ sym (map.get-remove total m k q))

  pub taken_back : (m : FinMap R X) (k : K) (v : X) → map.get m k ≡ None → map.remove (map.insert m k v) k ≡ m
  taken_back m k v e = remove-insert m k v ∙ remove-absent m k e

  -- a value that is put where one was taken out
  pub insert-remove : (m : FinMap R X) (k : K) (v : X) → map.insert (map.remove m k) k v ≡ map.insert m k v
  insert-remove m k v = alike _ _ (λ q.
      map.get-insert total (map.remove m k) k v q
      ∙ ap (λ o. cond (eq_by_cmp R q k) (Some v) o) (map.get-remove total m k q)
      ∙ cond-again (eq_by_cmp R q k) (Some v) None (map.get m q)
      ∙ sym (map.get-insert total m k v q))

  pub put_back : (m : FinMap R X) (k : K) (v : X) → map.get m k ≡ Some v → map.insert (map.remove m k) k v ≡ m
  put_back m k v e = insert-remove m k v ∙ insert-again m k v e

  -- ---- the part whose keys pass a test

  pub get-part : (m : FinMap R X) (p : K → Bool) (q : K) → map.get (map.retain_keys m p) q ≡ cond (p q) (map.get m q) None
  get-part m p q = map.get-retain_keys m p q (λ x tied. ap p (sym (exact q x tied)))

  pub part-empty : (p : K → Bool) → map.retain_keys (map.empty {X = X} {R = R}) p ≡ map.empty
  part-empty p = alike _ _ (λ q. get-part map.empty p q ∙ cond-same (p q) (map.get map.empty q) None (λ _. map.get-empty R q) ∙ sym (map.get-empty R q))

  -- a key of the part, put into the whole
  pub part-insert_in : (m : FinMap R X) (p : K → Bool) (k : K) (v : X) → p k ≡ true → map.retain_keys (map.insert m k v) p ≡ map.insert (map.retain_keys m p) k v
  part-insert_in m p k v e = alike _ _ (λ q.
      get-part (map.insert m k v) p q
      ∙ ap (λ o. cond (p q) o None) (map.get-insert total m k v q)
      ∙ inner (eq_by_cmp R q k) (p q) (Some v) (map.get m q) None (at_key total exact p k q true e)
      ∙ ap (λ o. cond (eq_by_cmp R q k) (Some v) o) (sym (get-part m p q))
      ∙ sym (map.get-insert total (map.retain_keys m p) k v q))

  -- a key out of the part, put into the whole
  pub part-insert_out : (m : FinMap R X) (p : K → Bool) (k : K) (v : X) → p k ≡ false → map.retain_keys (map.insert m k v) p ≡ map.retain_keys m p
  part-insert_out m p k v e = alike _ _ (λ q.
      get-part (map.insert m k v) p q
      ∙ ap (λ o. cond (p q) o None) (map.get-insert total m k v q)
      ∙ outer (eq_by_cmp R q k) (p q) (Some v) (map.get m q) None (at_key total exact p k q false e)
      ∙ sym (get-part m p q))

  pub part-remove : (m : FinMap R X) (p : K → Bool) (k : K) → map.retain_keys (map.remove m k) p ≡ map.remove (map.retain_keys m p) k
  part-remove m p k = alike _ _ (λ q.
      get-part (map.remove m k) p q
      ∙ ap (λ o. cond (p q) o None) (map.get-remove total m k q)
      ∙ none_twice (eq_by_cmp R q k) (p q) (map.get m q)
      ∙ ap (λ o. cond (eq_by_cmp R q k) None o) (sym (get-part m p q))
      ∙ sym (map.get-remove total (map.retain_keys m p) k q))

  in_part : (m : FinMap R X) (p : K → Bool) (k : K) (o : Option X) (b : Bool) → map.get m k ≡ o → p k ≡ b → map.contains_key (map.retain_keys m p) k ≡ is_some (cond b o None)
  in_part m p k o b g e = ap is_some (get-part m p k ∙ ap (λ c. cond c (map.get m k) None) e ∙ ap (λ r. cond b r None) g)

  -- a new key adds one to the parts that it is in
  pub len_part-insert : (m : FinMap R X) (p : K → Bool) (k : K) (v : X) (b : Bool) → map.get m k ≡ None → p k ≡ b → map.len (map.retain_keys (map.insert m k v) p) ≡ cond b (map.len (map.retain_keys m p) + 1) (map.len (map.retain_keys m p))
  len_part-insert m p k v true g e =
      ap map.len (part-insert_in m p k v e) ∙ map.len-insert total (map.retain_keys m p) k v
      ∙ ap (λ c. cond c (map.len (map.retain_keys m p)) (map.len (map.retain_keys m p) + 1)) (in_part m p k None true g e)
  len_part-insert m p k v false g e = ap map.len (part-insert_out m p k v e)

  -- a key that has another value is counted as before
  pub len_part-again : (m : FinMap R X) (p : K → Bool) (k : K) (v w : X) (b : Bool) → map.get m k ≡ Some w → p k ≡ b → map.len (map.retain_keys (map.insert m k v) p) ≡ map.len (map.retain_keys m p)
  len_part-again m p k v w true g e =
      ap map.len (part-insert_in m p k v e) ∙ map.len-insert total (map.retain_keys m p) k v
      ∙ ap (λ c. cond c (map.len (map.retain_keys m p)) (map.len (map.retain_keys m p) + 1)) (in_part m p k (Some w) true g e)
  len_part-again m p k v w false g e = ap map.len (part-insert_out m p k v e)

  -- a key that goes takes one from the parts that it was in
  pub len_part-remove : (m : FinMap R X) (p : K → Bool) (k : K) (o : Option X) (b : Bool) → map.get m k ≡ o → p k ≡ b → map.len (map.retain_keys (map.remove m k) p) ≡ cond (is_some (cond b o None)) (map.len (map.retain_keys m p) - 1) (map.len (map.retain_keys m p))
  len_part-remove m p k o b g e =
      ap map.len (part-remove m p k) ∙ map.len-remove total (map.retain_keys m p) k
      ∙ ap (λ c. cond c (map.len (map.retain_keys m p) - 1) (map.len (map.retain_keys m p))) (in_part m p k o b g e)
