-- A text gets one line after another.
use Rattle.std.proofs.Common.{◌≡◌, ℕ, ◌+◌, ◌<◌, List, [], ◌∷◌, ◌++◌, length, get_or, take, ap, sym, ◌∙◌, append_assoc}
use Rattle.std.specs.Prelude.{flat_map}
use Rattle.std.proofs.lemmas.Grind.{flat_map-append}
use Rattle.std.proofs.lemmas.List.{append-nil, take_more}

-- three parts
pub put_three : (start one two three a b d : List ℕ) → a ≡ start ++ one → b ≡ a ++ two → d ≡ b ++ three → d ≡ start ++ (one ++ (two ++ three))
put_three start one two three a b d first second third =
    third
    ∙ ap (λ l. l ++ three) (second ∙ ap (λ l. l ++ two) first ∙ append_assoc start one two)
    ∙ append_assoc start (one ++ two) three
    ∙ ap (λ l. start ++ l) (append_assoc one two three)

-- the line of one entry more
pub put_more : {A : Type 0} (line : A → List ℕ) (start t u : List ℕ) (xs : List A) (i : ℕ) (x : A)
    → i < length xs → x ≡ get_or xs i x → t ≡ start ++ flat_map line (take i xs) → u ≡ t ++ line x → u ≡ start ++ flat_map line (take (i + 1) xs)
put_more line start t u xs i x within is before next =
    let more : flat_map line (take (i + 1) xs) ≡ flat_map line (take i xs) ++ line x =
    ap (flat_map line) (take_more xs i x within ∙ ap (λ y. take i xs ++ y ∷ []) (sym is))
    ∙ flat_map-append line (take i xs) (x ∷ [])
    ∙ ap (λ l. flat_map line (take i xs) ++ l) (append-nil (line x)) in
    next ∙ ap (λ l. l ++ line x) before ∙ append_assoc start (flat_map line (take i xs)) (line x) ∙ ap (λ l. start ++ l) (sym more)
