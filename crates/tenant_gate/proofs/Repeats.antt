-- The first repeat in a list of names, where one name more is put last.
use Rattle.std.proofs.Common.{◌≡◌, ℕ, false, cond, List, [], ◌∷◌, ◌++◌, Some, None, ap, sym, ◌∙◌, append-nil, append_assoc}
use Rattle.std.specs.List.{list_any}
use Rattle.finite_maps.proofs.Options.{none_from_cond}
use Rattle.grain_id.specs.Names.{same_text}
use Rattle.tenant_gate.specs.Table.{first_repeat}

-- a name that isn't there repeats none
pub first_repeat-push : (before names : List (List ℕ)) (name : List ℕ) → first_repeat before names ≡ None → list_any (same_text name) (before ++ names) ≡ false → first_repeat before (names ++ name ∷ []) ≡ None
first_repeat-push before [] name none new = ap (λ b. cond b (Some name) None) (ap (list_any (same_text name)) (sym (append-nil before)) ∙ new)
first_repeat-push before (first ∷ names) name none new =
    let parts = none_from_cond (list_any (same_text first) before) first (first_repeat (before ++ first ∷ []) names) none in
    ap (λ b. cond b (Some first) (first_repeat (before ++ first ∷ []) (names ++ name ∷ []))) parts.0
    ∙ first_repeat-push (before ++ first ∷ []) names name parts.1 (ap (list_any (same_text name)) (append_assoc before (first ∷ []) names) ∙ new)
