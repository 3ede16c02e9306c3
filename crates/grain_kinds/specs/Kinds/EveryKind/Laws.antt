-- The methods of every kind keep the laws.
use Rattle.std.proofs.Common.{◌≡◌, ℕ, Bool, true, false, ◌&&◌, List, Option, Some, None, refl, subst}
use Rattle.std.specs.Prelude.{nat_le, ℤ, pos, negsuc, option_and_then, Err, if◌then◌else◌, codes}
use Rattle.std.specs.Cmp.{first_so, second_so}
use Rattle.std.specs.List.{AllByRecursion}
use Rattle.std.proofs.lemmas.Bool.{leb-true}
use Rattle.std.proofs.lemmas.Option.{same_Some}
use Rattle.grain_id.specs.Names.{same_text}
use Rattle.request_codec.specs.Call.{asks}
use Rattle.request_codec.specs.Tree.{Tree}
use Rattle.grain_logic.proofs.KeepSame.{null_silent}
use Rattle.grain_logic.specs.Laws.{IsKeep, stay_limit}
use Rattle.grain_logic.specs.LawsOfForms.{asks_obeys, says_obeys, for_null_obeys, for_shape_obeys}
use Rattle.grain_logic.specs.LawsOfTables.{IsLawfulMethod, changes_lawful}
use Rattle.grain_logic.specs.Logic as logic
use Rattle.grain_logic.specs.Shared.{integer_field, keeps, shared_plan}
use Rattle.grain_logic.specs.Tables.{Method, method_in, plan_by}
use Rattle.grain_logic.specs.declared.fault.MethodFault.TheVariants.{UnknownMethod}
use Rattle.grain_kinds.specs.Kinds.EveryKind.{natural, stay_time, stay_argument, stored, every_kind}
use Rattle.grain_kinds.specs.Rows.{IsSilentMethod, had}

-- ---- the time of a stay

passed : (b : Bool) (n m : ℕ) → ◌≡◌ {A = Option ℕ} (if b then Some n else None) (Some m) → (b ≡ true) × (n ≡ m)
passed true n m e = (refl, same_Some n m e)
passed false n m e = absurd cc

time_within : (n m : ℕ) → stay_time n ≡ Some m → IsKeep (logic.stay m)
time_within n m e =
    let parts = passed (nat_le 1 n && nat_le n stay_limit) n m e in
    subst (λ (k : ℕ). IsKeep (logic.stay k)) parts.1 (
      leb-true 1 n (first_so (nat_le 1 n) (nat_le n stay_limit) parts.0),
      leb-true n stay_limit (second_so (nat_le 1 n) (nat_le n stay_limit) parts.0),
    )

held_within : (o : Option ℤ) (m : ℕ) → option_and_then stay_time (option_and_then natural o) ≡ Some m → IsKeep (logic.stay m)
held_within None m e = absurd cc
held_within (Some (negsuc n)) m e = absurd cc
held_within (Some (pos n)) m e = time_within n m e

-- ---- the methods that ask the storage

-- the first of three that is asked for
first_of : (a b c : Bool) (save reload clear : Method) (state argument : Tree)
    → (if a then save.plan state argument else if b then reload.plan state argument else if c then clear.plan state argument
    else keeps state (Err UnknownMethod))
    ≡ plan_by (if a then Some save else if b then Some reload else if c then Some clear else None) state argument
first_of true b c save reload clear state argument = refl
first_of false true c save reload clear state argument = refl
first_of false false true save reload clear state argument = refl
first_of false false false save reload clear state argument = refl

pub stored_plan : (method : List ℕ) (state argument : Tree)
    → shared_plan method state argument ≡ plan_by (method_in stored method) state argument
unfolding shared_plan
stored_plan method state argument =
    first_of (same_text method (codes "save")) (same_text method (codes "reload")) (same_text method (codes "clear")) _ _ _ state argument

-- ---- each method

stored_lawful : AllByRecursion IsLawfulMethod stored
stored_lawful = (
  changes_lawful (codes "save") 1 _ (λ state argument. for_null_obeys state argument _ _ (asks_obeys state _ logic.writes_row)),
  (
    changes_lawful (codes "reload") 1 _ (λ state argument. for_null_obeys state argument _ _ (asks_obeys state _ logic.reads_row)),
    (
      changes_lawful (codes "clear") 1 _ (λ state argument. for_null_obeys state argument _ _ (asks_obeys state _ logic.clears_row)),
      tt,
    ),
  ),
)

pub every_kind_lawful : AllByRecursion IsLawfulMethod every_kind
unfolding every_kind
every_kind_lawful = (
  changes_lawful (codes "rest") 2 _ (λ state argument. for_null_obeys state argument _ _ (says_obeys state _ logic.rest tt)),
  (
    changes_lawful (codes "stay") 2 _ (λ state argument. for_shape_obeys state (asks (codes "stay") argument) (stay_argument argument) _
        (λ time held. says_obeys state _ (logic.stay time) (held_within (integer_field (codes "for") argument) time held))),
    stored_lawful,
  ),
)

-- ---- in the first version

stored_silent : AllByRecursion IsSilentMethod (had 1 stored)
stored_silent = (
  λ state argument. null_silent state argument _ (record { is_same = refl }),
  (
    λ state argument. null_silent state argument _ (record { is_same = refl }),
    (
      λ state argument. null_silent state argument _ (record { is_same = refl }),
      tt,
    ),
  ),
)

pub every_silent : AllByRecursion IsSilentMethod (had 1 every_kind)
unfolding every_kind
every_silent = stored_silent
