-- A run of bytes that pass a test, 16 at a time through the mask of those that fail it.
use Rattle.std.proofs.Common.{◌≡◌, ℕ, zero, suc, ◌+◌, ◌-◌, ◌*◌, ◌<◌, ◌≤◌, ◌%◌, ◌^◌, Bool, true, false, not, cond, eqb, ltb, List, [], ◌∷◌, map, length, drop, get_or, get_or-drop, get_or-take, leb, leb-false, refl, sym, ap, ap₂, ◌∙◌, arith, w8, Fits}
use Rattle.std.proofs.lemmas.Simd.{chunk-drop, length-chunk, leading_from_mask_l, trailing_mask_l, mask_l-mod}
use Rattle.std.proofs.lemmas.List.{length-map}
use Rattle.std.proofs.lemmas.List.Folds.{prefix_len-append}
use Rattle.std.proofs.lemmas.List.Sums.{prefix_len-le-length}
use Rattle.std.proofs.lemmas.Bool.{eq-eqb, ne_eqb, agree_below, agree_below_at}
use Rattle.std.specs.List.{prefix_len}
use Rattle.json.specs.Run.{is_stop, is_plain}
use Rattle.line_parser.specs.inside.Plain.{is_high}
use lib.Bits.{bit_or}
use lib.Lanes.{chunk, mask_l, zip2, top, Each1}
use lib.Count.{count_trailing_zeros}

-- ---- the mask of the bytes that stop a text

abbrev pub hit : ℕ → ℕ → ℕ
hit a b = cond (eqb a b) 255 0

abbrev pub below : ℕ → ℕ → ℕ
below a b = cond (ltb a b) 255 0

zip2-map : (f g : ℕ → ℕ) (xs : List ℕ) → zip2 bit_or (map f xs) (map g xs) ≡ map (λ x. bit_or (f x) (g x)) xs
zip2-map f g [] = refl
zip2-map f g (x ∷ xs) = ap (λ r. bit_or (f x) (g x) ∷ r) (zip2-map f g xs)

pub either : (f g : ℕ → ℕ) (v : List ℕ) {a b : List ℕ} → a ≡ map f v → b ≡ map g v → zip2 bit_or a b ≡ map (λ x. bit_or (f x) (g x)) v
either f g v p q = ap₂ (zip2 bit_or) p q ∙ zip2-map f g v

abbrev pub at_most : ℕ → ℕ → ℕ
at_most a b = cond (leb a b) 255 0

each_byte : (f : ℕ → ℕ) (p : ℕ → Bool) → agree_below (λ x. top 7 (f x)) p 256 ≡ true → (v : List ℕ) → Each1 (Fits w8) v → map (top 7) (map f v) ≡ map p v
each_byte f p all [] fits = refl
each_byte f p all (x ∷ xs) fits = ap₂ (λ a b. a ∷ b) (agree_below_at (λ y. top 7 (f y)) p 256 x all fits.0.fits) (each_byte f p all xs fits.1)

pub masked : (f : ℕ → ℕ) (p : ℕ → Bool) (v z : List ℕ) → length v ≤ 64 → Each1 (Fits w8) v → z ≡ map f v → agree_below (λ x. top 7 (f x)) p 256 ≡ true → mask_l (map (top 7) z) % 2 ^ 64 ≡ mask_l (map p v)
masked f p v z short fits e all =
    ap (λ l. mask_l l % 2 ^ 64) (ap (map (top 7)) e ∙ each_byte f p all v fits) ∙ mask_l-mod (map p v) 64 (omega (arith, length-map v p))

-- ---- the run up to the first of them

none_fails : (b : Bool) (n l m : ℕ) → n ≤ l → cond (not b) (1 + n) 0 ≡ 1 + l → (n ≡ l → m ≡ 0) → cond b 1 0 + 2 * m ≡ 0
none_fails true n l m le e ih = let no : ⊥ = omega arith in absurd no
none_fails false n l m le e ih = let z = ih (omega arith) in omega arith

all_pass : (xs : List ℕ) → prefix_len is_plain xs ≡ length xs → mask_l (map is_stop xs) ≡ 0
all_pass [] e = refl
all_pass (x ∷ xs) e = none_fails (is_stop x) _ (length xs) _ (prefix_len-le-length is_plain xs) (omega arith) (all_pass xs)

split : (d : List ℕ) (i n : ℕ) → prefix_len is_plain (drop i d) ≡ cond (eqb (prefix_len is_plain (chunk i n d)) (length (chunk i n d))) (length (chunk i n d) + prefix_len is_plain (drop (i + n) d)) (prefix_len is_plain (chunk i n d))
split d i n = ap (prefix_len is_plain) (chunk-drop i n d) ∙ prefix_len-append is_plain (chunk i n d) (drop (i + n) d)

pub run_through : (d : List ℕ) (i n : ℕ) → i + n ≤ length d → mask_l (map is_stop (chunk i n d)) ≡ 0 → prefix_len is_plain (drop i d) ≡ n + prefix_len is_plain (drop (i + n) d)
run_through d i n room none =
    let c = chunk i n d in
    split d i n ∙ ap (λ b. cond b (length c + prefix_len is_plain (drop (i + n) d)) (prefix_len is_plain c)) (eq-eqb _ _ (leading_from_mask_l is_stop c none))
    ∙ ap (λ k. k + prefix_len is_plain (drop (i + n) d)) (length-chunk i n d room)

pub run_stops : (d : List ℕ) (i n : ℕ) → i + n ≤ length d → n ≤ 64 → 0 < mask_l (map is_stop (chunk i n d)) → prefix_len is_plain (drop i d) ≡ count_trailing_zeros 64 (mask_l (map is_stop (chunk i n d)))
run_stops d i n room short some =
    let c = chunk i n d in
    split d i n ∙ ap (λ b. cond b (length c + prefix_len is_plain (drop (i + n) d)) (prefix_len is_plain c)) (ne_eqb _ _ (λ (e : prefix_len is_plain c ≡ length c). omega (arith, all_pass c e)))
    ∙ sym (trailing_mask_l is_stop 64 c (omega (arith, length-chunk i n d room)) some)

-- ---- bytes that are ASCII alone

each_low : (b : Bool) (n l : ℕ) → n ≤ l → cond (not b) (1 + n) 0 ≡ 1 + l → (b ≡ false) × (n ≡ l)
each_low true n l le e = absurd (omega arith)
each_low false n l le e = (refl, omega arith)

low_at : (xs : List ℕ) → prefix_len (λ x. not (is_high x)) xs ≡ length xs → (k : ℕ) → k < length xs → is_high (get_or xs k 0) ≡ false
low_at [] e k h = absurd (omega arith)
low_at (x ∷ xs) e zero h = (each_low (is_high x) _ (length xs) (prefix_len-le-length (λ y. not (is_high y)) xs) (omega arith)).0
low_at (x ∷ xs) e (suc k) h = low_at xs ((each_low (is_high x) _ (length xs) (prefix_len-le-length (λ y. not (is_high y)) xs) (omega arith)).1) k (omega arith)

pub low_chunk : (d : List ℕ) (i n : ℕ) → i + n ≤ length d → mask_l (map is_high (chunk i n d)) ≡ 0 → (k : ℕ) → i ≤ k → k < i + n → get_or d k 0 < 128
low_chunk d i n room none k low high =
    let c = chunk i n d in
    let at : k ≡ i + (k - i) = omega arith in
    let within : k - i < length c = omega (arith, length-chunk i n d room) in
    let here : get_or c (k - i) 0 ≡ get_or d k 0 = get_or-take n (drop i d) (k - i) 0 (omega arith) ∙ get_or-drop i d (k - i) 0 ∙ ap (λ j. get_or d j 0) (sym at) in
    leb-false 128 (get_or d k 0) (ap is_high (sym here) ∙ low_at c (leading_from_mask_l is_high c none) (k - i) within)
