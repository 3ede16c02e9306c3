-- What one push leaves in a text.
use Rattle.std.proofs.Common.{◌≡◌, ◌++◌, ◌∷◌, [], List, ℕ, Result, Ok, Err, ap, ◌∙◌, OnOk, append-nil, append_assoc}
use Rattle.json.specs.Token.{Token, string}
use Rattle.json.specs.Print.{print, print_from, quoted}

-- what one text leaves that a writer of JSON adds
pub quoted_after : {X E : Type 0} (r : Result X E) (part before new : List ℕ) (none tokens : List Token) → none ≡ [] → OnOk r (tokens ≡ none ++ string part ∷ []) → new ≡ before ++ print tokens → OnOk r (new ≡ before ++ quoted part)
unfolding print_from
quoted_after (Ok x) part before new none tokens e f g = g ∙ ap (λ ts. before ++ print ts) (f ∙ ap (λ ts. ts ++ string part ∷ []) e) ∙ ap (λ l. before ++ l) (append-nil (quoted part))
quoted_after (Err x) part before new none tokens e f g = tt

-- what two parts leave, one after the other
pub both_parts : (new old older x y : List ℕ) → new ≡ old ++ y → old ≡ older ++ x → new ≡ older ++ (x ++ y)
both_parts new old older x y e f = e ∙ ap (λ l. l ++ y) f ∙ append_assoc older x y
