-- A text gets one part after another.
use Rattle.std.proofs.Common.{◌≡◌, ℕ, ◌+◌, ◌<◌, List, [], ◌∷◌, ◌++◌, length, get_or, take, ap, sym, ◌∙◌, append_assoc}
use Rattle.std.specs.Prelude.{codes, flat_map, map}
use Rattle.log_text.specs.Sums.{after, spelled}
use Rattle.std.proofs.lemmas.Grind.{flat_map-append}
use Rattle.std.proofs.lemmas.List.{append-nil, map-append, take_more}
use Rattle.checkpoint_text.specs.Text.{sum_line}
unfoldable use Rattle.checkpoint_text.specs.Text.{named}

-- the text of one thing more
pub put_more : {X A : Type 0} (seen : X → A) (text : A → List ℕ) (start t u : List ℕ) (xs : List X) (i : ℕ) (x : X)
    → i < length xs → x ≡ get_or xs i x → t ≡ start ++ flat_map text (map seen (take i xs)) → u ≡ t ++ text (seen x)
    → u ≡ start ++ flat_map text (map seen (take (i + 1) xs))
put_more seen text start t u xs i x within is before next =
    let some = map seen (take i xs) in
    let more : flat_map text (map seen (take (i + 1) xs)) ≡ flat_map text some ++ text (seen x) =
    ap (λ ys. flat_map text (map seen ys)) (take_more xs i x within ∙ ap (λ y. take i xs ++ y ∷ []) (sym is))
    ∙ ap (flat_map text) (map-append seen (take i xs) (x ∷ []))
    ∙ flat_map-append text some (seen x ∷ [])
    ∙ ap (λ l. flat_map text some ++ l) (append-nil (text (seen x))) in
    next ∙ ap (λ l. l ++ text (seen x)) before ∙ append_assoc start (flat_map text some) (text (seen x)) ∙ ap (λ l. start ++ l) (sym more)

-- four parts
pub put_four : (start one two three four a b c d : List ℕ) → a ≡ start ++ one → b ≡ a ++ two → c ≡ b ++ three → d ≡ c ++ four → d ≡ start ++ (one ++ two ++ three ++ four)
put_four start one two three four a b c d first second third fourth =
    fourth
    ∙ ap (λ l. l ++ four) (third ∙ ap (λ l. l ++ three) (second ∙ ap (λ l. l ++ two) first ∙ append_assoc start one two) ∙ append_assoc start (one ++ two) three)
    ∙ append_assoc start (one ++ two ++ three) four

-- the last line
pub put_sum : (body t a b d : List ℕ) (sum : ℕ) → t ≡ body → sum ≡ after 0 t → a ≡ t ++ codes "sum " → b ≡ a ++ spelled sum → d ≡ b ++ 10 ∷ [] → d ≡ body ++ sum_line body
unfolding named
put_sum body t a b d sum is made first second third =
    let digits = spelled sum in
    third
    ∙ ap (λ l. l ++ 10 ∷ []) (second ∙ ap (λ l. l ++ digits) first)
    ∙ append_assoc (t ++ codes "sum ") digits (10 ∷ [])
    ∙ append_assoc t (codes "sum ") (digits ++ 10 ∷ [])
    ∙ ap (λ n. t ++ (codes "sum " ++ (spelled n ++ 10 ∷ []))) made
    ∙ ap (λ l. l ++ sum_line l) is
