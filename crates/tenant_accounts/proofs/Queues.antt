-- What becomes of the numbers of each grain where one grain's queue is changed.
use Rattle.std.proofs.Common.{◌≡◌, ℕ, suc, ◌-◌, Bool, true, false, cond, List, [], ◌∷◌, ◌++◌, length, Option, Some, None, refl, ap, sym, ◌∙◌, take, arith}
use Rattle.std.specs.Prelude.{if◌then◌else◌, IfNone}
use Rattle.std.specs.Option.{option_to_list}
use Rattle.std.specs.Cmp.{Equal-is, tied_itself}
use Rattle.std.specs.BTreeMap.{get}
use Rattle.std.specs.declared.collections.VecDeque.{VecDeque}
use Rattle.std.specs.declared.alloc.Global.{Global}
use Rattle.std.proofs.lemmas.List.{append-nil, same_from_push}
use Rattle.finite_maps.proofs.Lists.{push_not_empty}
use Rattle.grain_id.specs.Names.{Grain, grain_cmp}
use Rattle.grain_id.proofs.Order.{grain_cmp_total, grain_cmp_exact}
use Rattle.tenant_accounts.specs.inside.Undelivered.{Index, is_grain, in_queue, numbers_at, IsSameIndex, AddsLast, TakesFirst, TakesLast, only_at}

abbrev Queue : Type 0
Queue = VecDeque ℕ Global

-- the new index has w at the grain, and at each other what the old one has
abbrev pub Puts : Index → Index → Grain → Option Queue → Type 0
Puts old new g w = (q : Grain) → get grain_cmp new q ≡ cond (is_grain g q) w (get grain_cmp old q)

pub same_grain_of : (g q : Grain) → is_grain g q ≡ true → g ≡ q
same_grain_of g q t = grain_cmp_exact g q ((Equal-is (grain_cmp g q)).0 t)

pub own_grain : (g : Grain) → is_grain g g ≡ true
own_grain g = (Equal-is (grain_cmp g g)).1 (tied_itself grain_cmp_total g)

pub only_own : (g : Grain) (ns : List ℕ) → only_at g ns g ≡ ns
only_own g ns = ap (λ b. if b then ns else []) (own_grain g)

module _ (old new : Index) (g : Grain) (was : Option Queue) (found : was ≡ get grain_cmp old g) (w : Option Queue) (puts : Puts old new g w) where
  -- what is had before and after, at the grain and at each other
  before : (q : Grain) → is_grain g q ≡ true → numbers_at old q ≡ in_queue was
  before q t = sym (ap in_queue (found ∙ ap (get grain_cmp old) (same_grain_of g q t)))

  after : (q : Grain) (b : Bool) → is_grain g q ≡ b → numbers_at new q ≡ cond b (in_queue w) (numbers_at old q)
  after q true t = ap in_queue (puts q ∙ ap (λ b. cond b w (get grain_cmp old q)) t)
  after q false t = ap in_queue (puts q ∙ ap (λ b. cond b w (get grain_cmp old q)) t)

  pub puts_same : in_queue w ≡ in_queue was → IsSameIndex old new
  puts_same same q = by (is_grain g q) refl
    where
      by : (b : Bool) → is_grain g q ≡ b → numbers_at new q ≡ numbers_at old q
      by true t = after q true t ∙ same ∙ sym (before q t)
      by false f = after q false f

  pub puts_last : (n : ℕ) → in_queue w ≡ in_queue was ++ n ∷ [] → AddsLast old g n new
  puts_last n more q = by (is_grain g q) refl
    where
      by : (b : Bool) → is_grain g q ≡ b → numbers_at new q ≡ numbers_at old q ++ only_at g (n ∷ []) q
      by true t = after q true t ∙ more ∙ (λ i. sym (before q t) i ++ (if sym t i then n ∷ [] else []))
      by false f = after q false f ∙ sym (append-nil (numbers_at old q)) ∙ ap (λ b. numbers_at old q ++ (if b then n ∷ [] else [])) (sym f)

  pub puts_first_out : (r : Option ℕ) → in_queue was ≡ option_to_list r ++ in_queue w → TakesFirst old g r new
  puts_first_out r fewer q = by (is_grain g q) refl
    where
      by : (b : Bool) → is_grain g q ≡ b → numbers_at old q ≡ only_at g (option_to_list r) q ++ numbers_at new q
      by true t = before q t ∙ fewer ∙ (λ i. (if sym t i then option_to_list r else []) ++ sym (after q true t) i)
      by false f = sym (after q false f) ∙ ap (λ b. (if b then option_to_list r else []) ++ numbers_at new q) (sym f)

  pub puts_last_out : (r : Option ℕ) → in_queue was ≡ in_queue w ++ option_to_list r → TakesLast old g r new
  puts_last_out r fewer q = by (is_grain g q) refl
    where
      by : (b : Bool) → is_grain g q ≡ b → numbers_at old q ≡ numbers_at new q ++ only_at g (option_to_list r) q
      by true t = before q t ∙ fewer ∙ (λ i. sym (after q true t) i ++ (if sym t i then option_to_list r else []))
      by false f = sym (after q false f) ∙ sym (append-nil (numbers_at new q)) ∙ ap (λ b. numbers_at new q ++ (if b then option_to_list r else [])) (sym f)

-- ---- what came last goes

-- a list without its last element
pub all_but_last : {X : Type 0} (xs : List X) (x : X) → xs ≡ take (length (xs ++ x ∷ []) - 1) (xs ++ x ∷ [])
all_but_last [] x = refl
all_but_last (y ∷ []) x = refl
all_but_last (y ∷ z ∷ xs) x =
    let many = length (xs ++ x ∷ []) in
    let less : suc (suc many - 1) ≡ suc (suc many) - 1 = omega arith in
    ap (λ rest. y ∷ rest) (all_but_last (z ∷ xs) x) ∙ ap (λ n. take n (y ∷ z ∷ (xs ++ x ∷ []))) less

-- where the last of the grain's numbers goes, and its numbers end with n, what is left is what stands before n
pub last_gone : (mid new : Index) (g : Grain) (r : Option ℕ) (n : ℕ) (left : Grain → List ℕ) → TakesLast mid g r new → IfNone r (numbers_at mid g ≡ [])
    → ((q : Grain) → numbers_at mid q ≡ left q ++ only_at g (n ∷ []) q) → (q : Grain) → numbers_at new q ≡ left q
last_gone mid new g r n left takes none ends q = by (is_grain g q) refl r (takes q) none
  where
    by : (b : Bool) → is_grain g q ≡ b → (r : Option ℕ) → numbers_at mid q ≡ numbers_at new q ++ only_at g (option_to_list r) q → IfNone r (numbers_at mid g ≡ []) → numbers_at new q ≡ left q
    by true t None is none =
        absurd (push_not_empty (left q) n (ap (λ b. left q ++ (if b then n ∷ [] else [])) (sym t) ∙ sym (ends q) ∙ ap (numbers_at mid) (sym (same_grain_of g q t)) ∙ none))
    by true t (Some k) is none =
        (same_from_push (numbers_at new q) (left q) k n (ap (λ b. numbers_at new q ++ (if b then k ∷ [] else [])) (sym t) ∙ sym is ∙ ends q ∙ ap (λ b. left q ++ (if b then n ∷ [] else [])) t)).0
    by false f r is none =
        sym (append-nil (numbers_at new q)) ∙ ap (λ b. numbers_at new q ++ (if b then option_to_list r else [])) (sym f) ∙ sym is ∙ ends q
        ∙ ap (λ b. left q ++ (if b then n ∷ [] else [])) f ∙ append-nil (left q)
