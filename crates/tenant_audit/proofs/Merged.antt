-- A tenant's own steps and nobody's in one, by their places, are those that concern it.
use Rattle.silo_model.proofs.Common.{[], ◌+◌, ◌<◌, ◌∙◌, ◌∷◌, ◌≡◌, AllByRecursion, Bool, List, None, Option, Some, Step, ap, arith, concerns_by, cond, false, filter, if◌then◌else◌, length, lt-ltb, map_list, nat_lt, owner_of, refl, restricted_to, same_text, true, ℕ}
use Rattle.std.specs.Option.{is_none}
use Rattle.std.proofs.lemmas.Bool.{le-ltb}
use Rattle.std.proofs.lemmas.List.{length-map}
use Rattle.audit_model.specs.Parts.{is_owned_by}
use Rattle.tenant_audit.specs.inside.Parted.{numbered, is_own, is_nobodys, merge, merge_at, merged, placed}
use Rattle.tenant_audit.specs.declared.steps_of_tenant.PlacedStep.{PlacedStep}

-- all stand behind the place
abbrev Behind : {X : Type 0} → ℕ → List (ℕ × X) → Type 0
Behind n es = AllByRecursion (λ e. n < e.0) es

behind_numbered : {X : Type 0} (p : ℕ × X → Bool) (n base : ℕ) (xs : List X) → n < base → Behind n (filter p (numbered base xs))
behind_numbered p n base [] under = tt
behind_numbered p n base (x ∷ xs) under = by_test (p (base, x)) (behind_numbered p n (base + 1) xs (omega arith))
  where
    by_test : (b : Bool) → Behind n (filter p (numbered (base + 1) xs)) → Behind n (cond b ((base, x) ∷ filter p (numbered (base + 1) xs)) (filter p (numbered (base + 1) xs)))
    by_test true rest = (under, rest)
    by_test false rest = rest

not_below : (a b : ℕ) → a < b → nat_lt b a ≡ false
not_below a b under = le-ltb b a (omega arith)

below : (a b : ℕ) → a < b → nat_lt a b ≡ true
below a b under = lt-ltb a b under

-- the first of all comes first, from either list
own_first : {X : Type 0} (e : ℕ × X) (after : List (ℕ × X) → List (ℕ × X)) (fs : List (ℕ × X)) → Behind e.0 fs → merge_at e after fs ≡ e ∷ after fs
own_first e after [] behind = refl
own_first e after (f ∷ fs) behind = ap (λ b. if b then f ∷ merge_at e after fs else e ∷ after (f ∷ fs)) (not_below e.0 f.0 behind.0)

other_first : {X : Type 0} (f : ℕ × X) (es fs : List (ℕ × X)) → Behind f.0 es → merge es (f ∷ fs) ≡ f ∷ merge es fs
other_first f [] fs behind = refl
other_first f (e ∷ es) fs behind = ap (λ b. if b then f ∷ merge_at e (merge es) fs else e ∷ merge es (f ∷ fs)) (below f.0 e.0 behind.0)

steps_in : List (ℕ × Step) → List Step
steps_in es = map_list (λ (e : ℕ × Step). e.1) es

module _ (tenant : List ℕ) where
  -- both in one are the steps that concern the tenant
  pub merged_concern : (base : ℕ) (steps : List Step)
      → map_list (λ (e : ℕ × Step). e.1) (merge (filter (is_own tenant) (numbered base steps)) (filter is_nobodys (numbered base steps))) ≡ restricted_to tenant steps
  unfolding steps_in
  merged_concern base [] = refl
  merged_concern base (s ∷ steps) = by_owner (owner_of s) (merged_concern (base + 1) steps)
    where
      own : List (ℕ × Step)
      own = filter (is_own tenant) (numbered (base + 1) steps)

      others : List (ℕ × Step)
      others = filter is_nobodys (numbered (base + 1) steps)

      by_test : (b : Bool) → steps_in (merge own others) ≡ restricted_to tenant steps
          → steps_in (merge (cond b ((base, s) ∷ own) own) others) ≡ cond b (s ∷ restricted_to tenant steps) (restricted_to tenant steps)
      by_test true rest = ap steps_in (own_first (base, s) (merge own) others (behind_numbered is_nobodys base (base + 1) steps (omega arith))) ∙ ap (λ ss. s ∷ ss) rest
      by_test false rest = rest

      by_owner : (owner : Option (List ℕ)) → steps_in (merge own others) ≡ restricted_to tenant steps
          → steps_in (merge (cond (is_owned_by tenant owner) ((base, s) ∷ own) own) (cond (is_none owner) ((base, s) ∷ others) others)) ≡ cond (concerns_by tenant owner) (s ∷ restricted_to tenant steps) (restricted_to tenant steps)
      by_owner None rest = ap steps_in (other_first (base, s) own others (behind_numbered (is_own tenant) base (base + 1) steps (omega arith))) ∙ ap (λ ss. s ∷ ss) rest
      by_owner (Some owner) rest = by_test (same_text owner tenant) rest

-- steps that are held
pub both_merged : (tenant : List ℕ) (steps : List Step) (own nobodys : List PlacedStep) → map_list placed own ≡ filter (is_own tenant) (numbered 0 steps)
    → map_list placed nobodys ≡ filter is_nobodys (numbered 0 steps) → merged own nobodys ≡ restricted_to tenant steps
both_merged tenant steps own nobodys its others = (λ i. map_list (λ (e : ℕ × Step). e.1) (merge (its i) (others i))) ∙ merged_concern tenant 0 steps

-- ---- how many there are

length-merge_at : {X : Type 0} (e : ℕ × X) (n : ℕ) (after : List (ℕ × X) → List (ℕ × X)) (fs : List (ℕ × X)) → ((gs : List (ℕ × X)) → length (after gs) ≡ n + length gs) → length (merge_at e after fs) ≡ n + 1 + length fs
length-merge_at e n after [] as_long = omega (arith, as_long [])
length-merge_at e n after (f ∷ fs) as_long = by_test (nat_lt f.0 e.0) (length-merge_at e n after fs as_long)
  where
    by_test : (b : Bool) → length (merge_at e after fs) ≡ n + 1 + length fs → length (if b then f ∷ merge_at e after fs else e ∷ after (f ∷ fs)) ≡ n + 1 + length (f ∷ fs)
    by_test true rest = omega (arith, rest)
    by_test false rest = omega (arith, as_long (f ∷ fs))

pub length-merge : {X : Type 0} (es fs : List (ℕ × X)) → length (merge es fs) ≡ length es + length fs
length-merge [] fs = omega arith
length-merge (e ∷ es) fs = omega (arith, length-merge_at e (length es) (merge es) fs (length-merge es))

pub length-merged : (own nobodys : List PlacedStep) → length (merged own nobodys) ≡ length own + length nobodys
length-merged own nobodys =
    length-map (merge (map_list placed own) (map_list placed nobodys)) (λ (e : ℕ × Step). e.1)
    ∙ length-merge (map_list placed own) (map_list placed nobodys)
    ∙ (λ i. length-map own placed i + length-map nobodys placed i)
