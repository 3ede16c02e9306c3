-- What is held of each tenant, as a thing is added.
use Rattle.silo_model.proofs.Common.{[], ◌++◌, ◌∙◌, ◌∷◌, ◌≡◌, Bool, List, Option, Some, ap, append-nil, cond, eq_by_cmp, false, if◌then◌else◌, option_map, refl, same_text, same_text_decides, sym, text_cmp, text_cmp_exact, text_cmp_total, true, unwrap_or, ℕ}
use Rattle.std.specs.BTreeMap.{BTreeMap, get}
use Rattle.std.specs.Global.{Vec}
use Rattle.grain_id.proofs.Order.{ties_from_Decides}
use Rattle.tenant_audit.specs.inside.Parted.{held_for, if_owned}

ties : (s t : List ℕ) → same_text s t ≡ eq_by_cmp text_cmp s t
ties s t = ties_from_Decides same_text text_cmp_total text_cmp_exact same_text_decides s t

module _ {X : Type 0} (old new : BTreeMap (List ℕ) (Vec X)) (owner : List ℕ) (thing : X) (list : Vec X)
    (put : (q : List ℕ) → get text_cmp new q ≡ cond (eq_by_cmp text_cmp owner q) (Some list) (get text_cmp old q))
    (grown : list.items ≡ held_for old owner ++ thing ∷ []) where
  shown : Option (Vec X) → List X
  shown found = unwrap_or (option_map (λ v. v.items) found) []

  -- what is held of a tenant has the thing last, if it is the tenant's
  pub held_more : (tenant : List ℕ) → held_for new tenant ≡ held_for old tenant ++ if_owned owner tenant thing
  unfolding shown
  held_more tenant = by_tie (eq_by_cmp text_cmp owner tenant) refl
    where
      by_tie : (b : Bool) → eq_by_cmp text_cmp owner tenant ≡ b → held_for new tenant ≡ held_for old tenant ++ if_owned owner tenant thing
      by_tie true tied =
          let same : same_text owner tenant ≡ true = ties owner tenant ∙ tied in
          ap shown (put tenant ∙ ap (λ b. cond b (Some list) (get text_cmp old tenant)) tied) ∙ grown
          ∙ ap (λ (t : List ℕ). held_for old t ++ thing ∷ []) ((same_text_decides owner tenant).0 same)
          ∙ ap (λ b. held_for old tenant ++ (if b then thing ∷ [] else [])) (sym same)
      by_tie false untied =
          ap shown (put tenant ∙ ap (λ b. cond b (Some list) (get text_cmp old tenant)) untied) ∙ sym (append-nil (held_for old tenant))
          ∙ ap (λ b. held_for old tenant ++ (if b then thing ∷ [] else [])) (sym (ties owner tenant ∙ untied))
