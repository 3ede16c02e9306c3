-- Two lists beside each other, as far as both were walked and are alike.
use Rattle.std.proofs.Common.{◌≡◌, ◌≢◌, ℕ, ◌+◌, ◌<◌, List, [], ◌∷◌, ◌++◌, length, drop, get_or, length-append, append_assoc, refl, ap, sym, ◌∙◌, arith}
use Rattle.std.specs.Borrow.{Bor}
use Rattle.std.proofs.lemmas.List.{drop_more}
use Rattle.audit_model.specs.Difference.{first_of, DifferAt}
use Rattle.tenant_audit.specs.inside.Parted.{pointees}

-- What is left of the lists comes behind what they have in common.
pub record Walked {A : Type 0} (xs ys left right : List A) : Type 0 where
  pub common : List A
  pub left_parts : xs ≡ common ++ left
  pub right_parts : ys ≡ common ++ right

pub none_walked : {A : Type 0} (xs ys : List A) → Walked xs ys xs ys
none_walked xs ys = record { common = []; left_parts = refl; right_parts = refl }

module _ {A : Type 0} (xs ys left right : List A) (walked : Walked xs ys left right) where
  -- the next are alike too
  pub one_walked : (x y : A) (later others : List A) → left ≡ x ∷ later → right ≡ y ∷ others → x ≡ y → Walked xs ys later others
  one_walked x y later others first next one = record {
    common = walked.common ++ x ∷ [];
    left_parts = walked.left_parts ∙ ap (λ ls. walked.common ++ ls) first ∙ sym (append_assoc walked.common (x ∷ []) later);
    right_parts = walked.right_parts ∙ ap (λ rs. walked.common ++ rs) next ∙ ap (λ z. walked.common ++ z ∷ others) (sym one) ∙ sym (append_assoc walked.common (x ∷ []) others);
  }

  -- the next aren't alike, or only one of the lists has a next one
  pub part_here : (place : ℕ) → place + length left ≡ length xs → first_of left ≢ first_of right → DifferAt xs ys (place + 1)
  part_here place counted apart = record {
    common = walked.common;
    left = left;
    right = right;
    left_parts = walked.left_parts;
    right_parts = walked.right_parts;
    place = omega (arith, counted, ap length walked.left_parts, length-append walked.common left);
    apart = apart;
  }

  -- there is no next one in either
  pub all_walked : left ≡ [] → right ≡ [] → xs ≡ ys
  all_walked none none_too = walked.left_parts ∙ ap (λ ls. walked.common ++ ls) (none ∙ sym none_too) ∙ sym walked.right_parts

-- the next of those that the references point to
pub next_is : {A : Type 0} (references : List (Bor A)) (i : ℕ) (r : Bor A) → i < length references → r ≡ get_or references i r → pointees (drop i references) ≡ r.now ∷ pointees (drop (i + 1) references)
next_is references i r within is = ap pointees (drop_more references i r within ∙ ap (λ z. z ∷ drop (i + 1) references) (sym is))
