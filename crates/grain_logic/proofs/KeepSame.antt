-- Counters alone say nothing of activations; nor does a version of a table of which no method does.
use Rattle.std.proofs.Common.{◌≡◌, ℕ, true, List, [], ◌∷◌, Option, Some, None, refl}
use Rattle.std.specs.List.{AllByRecursion}
use Rattle.std.specs.Prelude.{ℤ, ◌+ℤ◌, nat_le, codes}
use Rattle.grain_id.specs.Names.{same_text}
use Rattle.request_codec.specs.Tree.{Tree}
use Rattle.grain_logic.specs.Adding.{number_of, fits_64, adds_number}
use Rattle.grain_logic.specs.Counters.{get_plan, number_plan, counters}
use Rattle.grain_logic.specs.Laws.{KeepsSame}
use Rattle.grain_logic.specs.LawsOfForms.{if_holds}
use Rattle.grain_logic.specs.Logic.{Plan, same}
use Rattle.grain_logic.specs.Tables.{Method, Kind, method_in, kind_in, method_of, method_since, kind_since, plan_by, at_version}
use Rattle.grain_logic.specs.Shared.{is_null, for_null, for_shape, integer_field, shared_plan}

-- the plan says nothing of the activation
pub record IsSilent (plan : Plan) : Type 0 where
  pub is_same : plan.keep ≡ same

pub null_silent : (state argument : Tree) (plan : Plan) → IsSilent plan → IsSilent (for_null state argument plan)
null_silent state argument plan silent = if_holds IsSilent (is_null argument) _ _ (λ e. silent) (λ e. record { is_same = refl })

pub shape_silent : {A : Type 0} (state : Tree) (held : Option A) (plan : A → Plan) → ((x : A) → IsSilent (plan x)) → IsSilent (for_shape state held plan)
shape_silent state None plan silent = record { is_same = refl }
shape_silent state (Some x) plan silent = silent x

pub shared_silent : (method : List ℕ) (state argument : Tree) → IsSilent (shared_plan method state argument)
unfolding shared_plan
shared_silent method state argument =
    if_holds IsSilent (same_text method (codes "save")) _ _ (λ e. null_silent state argument _ (record { is_same = refl }))
    (λ e. if_holds IsSilent (same_text method (codes "reload")) _ _ (λ e. null_silent state argument _ (record { is_same = refl }))
    (λ e. if_holds IsSilent (same_text method (codes "clear")) _ _ (λ e. null_silent state argument _ (record { is_same = refl }))
    (λ e. record { is_same = refl })))

pub number_silent : (other : Plan) (method : List ℕ) (state argument : Tree) → IsSilent other → IsSilent (number_plan other method state argument)
unfolding number_plan
number_silent other method state argument silent =
    if_holds IsSilent (same_text method (codes "add")) _ _
    (λ e. shape_silent state (integer_field (codes "by") argument) (adds_number state)
    (λ by. if_holds IsSilent (fits_64 (number_of state +ℤ by)) _ _ (λ e. record { is_same = refl }) (λ e. record { is_same = refl })))
    (λ e. if_holds IsSilent (same_text method (codes "get")) _ _
    (λ e. null_silent state argument (get_plan state) (record { is_same = refl })) (λ e. silent))

pub add_silent : (state : Tree) (by : ℤ) → IsSilent (adds_number state by)
add_silent state by = if_holds IsSilent (fits_64 (number_of state +ℤ by)) _ _ (λ e. record { is_same = refl }) (λ e. record { is_same = refl })

-- ---- tables

-- if the version has the method, its plans say nothing of the activation
abbrev pub IsSilentAt : ℕ → Method → Type 0
IsSilentAt version m = nat_le m.since version ≡ true → (state argument : Tree) → IsSilent (m.plan state argument)

abbrev IsQuiet : Option Method → Type 0
IsQuiet o = (state argument : Tree) → IsSilent (plan_by o state argument)

method_quiet : (version : ℕ) (ms : List Method) (word : List ℕ) → AllByRecursion (IsSilentAt version) ms
    → IsQuiet (method_since version (method_in ms word))
method_quiet version [] word all = λ state argument. record { is_same = refl }
method_quiet version (m ∷ ms) word all =
    if_holds (λ (o : Option Method). IsQuiet (method_since version o)) (same_text word m.word) (Some m) (method_in ms word)
    (λ is. if_holds IsQuiet (nat_le m.since version) (Some m) None all.0 (λ e state argument. record { is_same = refl }))
    (λ e. method_quiet version ms word all.1)

abbrev AreQuiet : ℕ → Option Kind → Type 0
AreQuiet version o = (word : List ℕ) → IsQuiet (method_since version (method_of o word))

none_quiet : (version : ℕ) → AreQuiet version None
none_quiet version = λ word state argument. record { is_same = refl }

kind_quiet : (version : ℕ) (ks : List Kind) (word : List ℕ) → AllByRecursion (λ k. AllByRecursion (IsSilentAt version) k.methods) ks
    → AreQuiet version (kind_since version (kind_in ks word))
kind_quiet version [] word all = none_quiet version
kind_quiet version (k ∷ ks) word all =
    if_holds (λ (o : Option Kind). AreQuiet version (kind_since version o)) (same_text word k.word) (Some k) (kind_in ks word)
    (λ is. if_holds (AreQuiet version) (nat_le k.since version) (Some k) None (λ e method. method_quiet version k.methods method all.0)
    (λ e. none_quiet version))
    (λ e. kind_quiet version ks word all.1)

-- the version says nothing of activations
pub table_silent : (version : ℕ) (table : List Kind) → AllByRecursion (λ k. AllByRecursion (IsSilentAt version) k.methods) table
    → KeepsSame (at_version table version)
unfolding at_version
table_silent version table all kind method state argument = (kind_quiet version table kind all method state argument).is_same

pub counters_keep_same : KeepsSame counters
unfolding counters
counters_keep_same kind method state argument = (number_silent _ method state argument (record { is_same = refl })).is_same
