-- Texts of kinds with their ages: what they write is one thing alone.
use Rattle.std.proofs.Common.{◌≡◌, ◌≢◌, ◌==◌, ◌<◌, ◌+◌, ℕ, false, ne_eqb, Bor, Option, Some, option_map, List, [], ◌∷◌, ◌++◌, length, take, drop, get_or, map, refl, ap, ap₂, sym, ◌∙◌, subst, arith}
use Rattle.std.specs.Prelude.{decimal}
use Rattle.std.proofs.lemmas.Fmt.{decimal_injective}
use Rattle.std.proofs.lemmas.List.{append_cancel_left, map_more}
use Rattle.std.proofs.lemmas.List.Elements.{All-weaker}
use Rattle.std.proofs.lemmas.Option.{none-some}
use Rattle.std.proofs.lemmas.List.Splits.{slice_split_at}
use Rattle.std.specs.List.{slice_split}
use Rattle.idle_collector.specs.Ages.{Ages, ages_fault}
use Rattle.idle_collector.specs.declared.ages.AgeFault.{AgeFault}
use Rattle.silo_words.specs.Ages.{IsAgeText, IsNoAgeText, NamesAges, WriteAges, parts_of}
use Rattle.silo_words.proofs.PartLemmas.{HasNone-word, texts_at}

-- ---- one text

split_age : (text kind : List ℕ) (age : ℕ) → IsAgeText text kind age → slice_split (λ b. b == 61) text ≡ kind ∷ slice_split (λ b. b == 61) (decimal age)
split_age text kind age is =
    ap (slice_split (λ b. b == 61)) is.2
    ∙ slice_split_at (λ b. b == 61) kind 61 (decimal age) (All-weaker (λ b. b ≢ 61) (λ b. (b == 61) ≡ false) (λ b other. ne_eqb b 61 other) kind (HasNone-word 61 kind refl is.0)) refl

same_kind : (text kind other : List ℕ) (age another : ℕ) → IsAgeText text kind age → IsAgeText text other another → kind ≡ other
same_kind text kind other age another is also =
    let same = sym (split_age text kind age is) ∙ split_age text other another also in
    cc

same_millis : (text kind : List ℕ) (age another : ℕ) → IsAgeText text kind age → IsAgeText text kind another → age ≡ another
same_millis text kind age another is also =
    let rest = append_cancel_left kind (61 ∷ decimal age) (61 ∷ decimal another) (sym is.2 ∙ also.2) in
    let same : decimal age ≡ decimal another = cc in
    decimal_injective age another (omega (arith, is.1)) (omega (arith, also.1)) same

same_age : (text : List ℕ) (entry other : List ℕ × ℕ) → IsAgeText text entry.0 entry.1 → IsAgeText text other.0 other.1 → entry ≡ other
same_age text entry other is also =
    let kind = same_kind text entry.0 other.0 entry.1 other.1 is also in
    ap₂ (λ (k : List ℕ) (a : ℕ). (k, a)) kind (same_millis text entry.0 entry.1 other.1 is (subst (λ (k : List ℕ). IsAgeText text k other.1) (sym kind) also))

-- ---- texts, in order

-- the texts write one list alone
pub same_ages : (texts : List (List ℕ)) (ages others : Ages) → WriteAges texts ages → WriteAges texts others → ages ≡ others
same_ages [] [] [] w v = refl
same_ages [] [] (other ∷ others) w v = absurd v
same_ages [] (entry ∷ ages) others w v = absurd w
same_ages (t ∷ texts) [] others w v = absurd w
same_ages (t ∷ texts) (entry ∷ ages) [] w v = absurd v
same_ages (t ∷ texts) (entry ∷ ages) (other ∷ others) w v =
    ap₂ (λ (e : List ℕ × ℕ) (es : Ages). e ∷ es) (same_age t entry other w.0 v.0) (same_ages texts ages others w.1 v.1)

WriteAges-push : (texts : List (List ℕ)) (ages : Ages) (text kind : List ℕ) (age : ℕ) → WriteAges texts ages → IsAgeText text kind age → WriteAges (texts ++ text ∷ []) (ages ++ (kind, age) ∷ [])
WriteAges-push [] [] text kind age w is = (is, tt)
WriteAges-push [] (entry ∷ ages) text kind age w is = absurd w
WriteAges-push (t ∷ texts) [] text kind age w is = absurd w
WriteAges-push (t ∷ texts) (entry ∷ ages) text kind age w is = (w.0, WriteAges-push texts ages text kind age w.1 is)

-- one text that writes none
not_among : (front : List (List ℕ)) (text : List ℕ) (rest : List (List ℕ)) (ages : Ages) → IsNoAgeText text → WriteAges (front ++ text ∷ rest) ages → ⊥
not_among [] text rest [] none w = w
not_among [] text rest (entry ∷ ages) none w = none entry.0 entry.1 w.0
not_among (t ∷ front) text rest [] none w = w
not_among (t ∷ front) text rest (entry ∷ ages) none w = not_among front text rest ages none w.1

-- ---- the texts of a list, up to one of its places

module _ {A : Type 0} (f : A → List ℕ) (xs : List A) (i : ℕ) where
  module _ (d : A) (inside : i < length xs) where
    -- the next text writes none
    pub none_there : IsNoAgeText (f (get_or xs i d)) → (ages : Ages) → WriteAges (map f xs) ages → ⊥
    none_there none ages w =
        not_among (map f (take i xs)) (f (get_or xs i d)) (map f (drop (i + 1) xs)) ages none (subst (λ (ts : List (List ℕ)). WriteAges ts ages) (texts_at f xs i d inside) w)

    -- the next text writes one more
    pub one_more : (ages new : Ages) (kind : List ℕ) (age : ℕ) → WriteAges (map f (take i xs)) ages → new ≡ ages ++ (kind, age) ∷ [] → IsAgeText (f (get_or xs i d)) kind age → WriteAges (map f (take (i + 1) xs)) new
    one_more ages new kind age w is text =
        subst (λ (t : Ages). WriteAges (map f (take (i + 1) xs)) t) (sym is)
        (subst (λ (ts : List (List ℕ)). WriteAges ts (ages ++ (kind, age) ∷ [])) (sym (map_more f xs i d inside))
        (WriteAges-push (map f (take i xs)) ages (f (get_or xs i d)) kind age w text))

-- ---- the text of the option

-- a list at fault makes no table
pub none_named : (given : Option (Bor (List ℕ))) (text : Bor (List ℕ)) (parts among : List (Bor (List ℕ))) (list : Ages) (fault : AgeFault) → given ≡ Some text
    → map (λ (part : Bor (List ℕ)). part.now) parts ≡ parts_of text.now → among ≡ parts → WriteAges (map (λ (part : Bor (List ℕ)). part.now) among) list → ages_fault list ≡ Some fault
    → (table : Ages) → NamesAges (option_map (λ (t : Bor (List ℕ)). t.now) given) table → ⊥
none_named given text parts among list fault is cut same written at table named =
    let names = subst (λ (g : Option (Bor (List ℕ))). NamesAges (option_map (λ (t : Bor (List ℕ)). t.now) g) table) is named in
    let writes = subst (λ (ts : List (List ℕ)). WriteAges ts list) (ap (map (λ (part : Bor (List ℕ)). part.now)) same ∙ cut) written in
    let alike = same_ages (parts_of text.now) list names.0 writes names.1 in
    none-some fault (sym names.2 ∙ ap ages_fault (sym alike) ∙ at)
