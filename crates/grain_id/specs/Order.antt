-- Laws of the orders and of the tests of equality: the orders are total and tie nothing but equals, the tests decide equality.
use Rattle.std.proofs.Common.{◌≡◌, ℕ, Bool, List, refl, ap, sym, ◌∙◌, true≢false}
use Rattle.std.specs.Prelude.{Some}
use Rattle.std.specs.declared.cmp.Ordering.{Ordering}
use Rattle.std.specs.declared.cmp.Ordering.TheVariants.{Less, Equal, Greater}
use Rattle.std.specs.Ordering.{ordering_then, is_eq, eq_by_cmp}
use Rattle.std.specs.Cmp.{IsTotalOrder, IsEquivalence, IsPartialOrder, Equal-is, then_total, and_equiv, tied_itself}
use Rattle.std.specs.Cmp.{partial_order_from_agreeing_total}
use Rattle.std.specs.Cmp.Lexicographic.{on_texts, on_texts_equal, nat_list_cmp_total}
use Rattle.std.specs.FinMap.{IsAntisymmetric, slice_cmp-IsAntisymmetric, nat_cmp-IsAntisymmetric}
use Rattle.std.specs.Bool.{Decides}
use Rattle.std.proofs.lemmas.Bool.Decides.{Decides-eqb, Decides-and, Decides-like, same_from_decides}
use Rattle.std.proofs.lemmas.Slice.Eq.{slice_eq-Decides}
use Rattle.grain_id.specs.Names.{Grain, Client, grain_cmp, client_cmp, text_cmp, same_text, grain_eq, client_eq}

-- ---- any order

-- an order that ties nothing but equals: its ties are decided
pub eq_by_cmp-Decides : {K : Type 0} {R : K → K → Ordering} → IsTotalOrder R → IsAntisymmetric R → (x y : K)
    → Decides (eq_by_cmp R x y) (x ≡ y)
eq_by_cmp-Decides {R = R} total exact x y =
    (λ e. exact x y ((Equal-is (R x y)).0 e), λ same. (Equal-is (R x y)).1 (ap (R x) (sym same) ∙ tied_itself total x))

-- a test of equality agrees with such an order
pub ties_from_Decides : {K : Type 0} {R : K → K → Ordering} (E : K → K → Bool) → IsTotalOrder R → IsAntisymmetric R
    → ((x y : K) → Decides (E x y) (x ≡ y)) → (x y : K) → E x y ≡ eq_by_cmp R x y
ties_from_Decides {R = R} E total exact decides x y =
    same_from_decides (E x y) (eq_by_cmp R x y) (decides x y) (eq_by_cmp-Decides total exact x y)

both_equal : (a b : Ordering) → ordering_then a b ≡ Equal → (a ≡ Equal) × (b ≡ Equal)
both_equal Less b e = absurd (true≢false (sym (ap is_eq e)))
both_equal Equal b e = (refl, e)
both_equal Greater b e = absurd (true≢false (sym (ap is_eq e)))

-- ---- texts

pub text_cmp_total : IsTotalOrder text_cmp
text_cmp_total = nat_list_cmp_total

pub text_cmp_exact : IsAntisymmetric text_cmp
text_cmp_exact = slice_cmp-IsAntisymmetric nat_cmp-IsAntisymmetric

pub same_text_decides : (s t : List ℕ) → Decides (same_text s t) (s ≡ t)
same_text_decides s t = slice_eq-Decides Decides-eqb s t (same_text s t) refl

-- ---- grains

pub same_grain : (g h : Grain) → g.kind ≡ h.kind → g.tenant ≡ h.tenant → g.name ≡ h.name → g ≡ h
same_grain g h k t n = λ i. record { kind = k i; tenant = t i; name = n i }

pub grain_cmp_total : IsTotalOrder grain_cmp
grain_cmp_total = then_total (on_texts (λ g. g.kind)) (then_total (on_texts (λ g. g.tenant)) (on_texts (λ g. g.name)))

pub grain_cmp_exact : IsAntisymmetric grain_cmp
grain_cmp_exact g h e =
    let outer = both_equal (text_cmp g.kind h.kind) _ e in
    let inner = both_equal (text_cmp g.tenant h.tenant) (text_cmp g.name h.name) outer.1 in
    same_grain g h (text_cmp_exact g.kind h.kind outer.0) (text_cmp_exact g.tenant h.tenant inner.0) (text_cmp_exact g.name h.name inner.1)

pub grain_eq_decides : (g h : Grain) → Decides (grain_eq g h) (g ≡ h)
grain_eq_decides g h =
    Decides-like (grain_eq g h) (λ parts. same_grain g h parts.0.0 parts.0.1 parts.1)
    (λ same. ((ap (λ x. x.kind) same, ap (λ x. x.tenant) same), ap (λ x. x.name) same))
    (Decides-and _ _ (Decides-and _ _ (same_text_decides g.kind h.kind) (same_text_decides g.tenant h.tenant))
    (same_text_decides g.name h.name))

pub grain_eq_equiv : IsEquivalence grain_eq
grain_eq_equiv = and_equiv (and_equiv (on_texts_equal (λ g. g.kind)) (on_texts_equal (λ g. g.tenant))) (on_texts_equal (λ g. g.name))

pub grain_ties : (g h : Grain) → grain_eq g h ≡ eq_by_cmp grain_cmp g h
grain_ties = ties_from_Decides grain_eq grain_cmp_total grain_cmp_exact grain_eq_decides

pub grain_cmp_partial : IsPartialOrder grain_eq (λ g h. Some (grain_cmp g h))
grain_cmp_partial = partial_order_from_agreeing_total grain_cmp grain_cmp_total (λ g h. refl) grain_ties

-- ---- clients

pub same_client : (c d : Client) → c.tenant ≡ d.tenant → c.client ≡ d.client → c ≡ d
same_client c d t n = λ i. record { tenant = t i; client = n i }

pub client_cmp_total : IsTotalOrder client_cmp
client_cmp_total = then_total (on_texts (λ c. c.tenant)) (on_texts (λ c. c.client))

pub client_cmp_exact : IsAntisymmetric client_cmp
client_cmp_exact c d e =
    let parts = both_equal (text_cmp c.tenant d.tenant) _ e in
    same_client c d (text_cmp_exact c.tenant d.tenant parts.0) (text_cmp_exact c.client d.client parts.1)

pub client_eq_decides : (c d : Client) → Decides (client_eq c d) (c ≡ d)
client_eq_decides c d =
    Decides-like (client_eq c d) (λ parts. same_client c d parts.0 parts.1) (λ same. (ap (λ x. x.tenant) same, ap (λ x. x.client) same))
    (Decides-and _ _ (same_text_decides c.tenant d.tenant) (same_text_decides c.client d.client))

pub client_eq_equiv : IsEquivalence client_eq
client_eq_equiv = and_equiv (on_texts_equal (λ c. c.tenant)) (on_texts_equal (λ c. c.client))

pub client_ties : (c d : Client) → client_eq c d ≡ eq_by_cmp client_cmp c d
client_ties = ties_from_Decides client_eq client_cmp_total client_cmp_exact client_eq_decides

pub client_cmp_partial : IsPartialOrder client_eq (λ c d. Some (client_cmp c d))
client_cmp_partial = partial_order_from_agreeing_total client_cmp client_cmp_total (λ c d. refl) client_ties
