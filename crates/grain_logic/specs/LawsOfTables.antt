-- The logic of each version of a table is lawful where each row is, and a later version answers what an earlier one knows.
use Rattle.std.proofs.Common.{◌≡◌, ℕ, ◌≤◌, ◌<◌, Bool, true, false, List, [], ◌∷◌, Option, Some, None, refl, ap, sym, ◌∙◌, subst, arith}
use Rattle.std.specs.Prelude.{IfSome, is_some, nat_le, if◌then◌else◌}
use Rattle.std.specs.List.{AllByRecursion}
use Rattle.std.proofs.lemmas.Bool.{leb-true, le-leb, lt-leb}
use Rattle.grain_id.specs.Names.{same_text}
use Rattle.grain_id.specs.Order.{same_text_decides}
use Rattle.request_codec.specs.Call.{asks}
use Rattle.request_codec.specs.Tree.{Tree}
use Rattle.grain_logic.specs.declared.fault.MethodFault.TheVariants.{UnknownMethod}
use Rattle.grain_logic.specs.Laws.{IsLawful, FitsState, ChangesNothing}
use Rattle.grain_logic.specs.LawsOfForms.{ObeysLaws, if_holds, fault_obeys, null_fits}
use Rattle.grain_logic.specs.Logic.{Plan}
use Rattle.grain_logic.specs.Tables.{changes, reads}
use Rattle.grain_logic.specs.Tables.{Method, Kind, method_in, kind_in, method_of, method_since, kind_since, since_of, kind_at, method_at}
use Rattle.grain_logic.specs.Tables.{reads_by, empty_by, plan_by, at_version, Extends}

-- ---- lawful rows

-- The plans of the method keep the laws, and change nothing if it only reads.
pub record IsLawfulMethod (m : Method) : Type 0 where
  pub obeys : (state argument : Tree) → ObeysLaws state (asks m.word argument) (m.plan state argument)
  pub changes_nothing : m.only_reads ≡ true → (state argument : Tree) → ChangesNothing state (m.plan state argument)

pub record IsLawfulKind (k : Kind) : Type 0 where
  pub empty_fits : FitsState k.empty
  pub methods_lawful : AllByRecursion IsLawfulMethod k.methods

no_read : false ≡ true → ⊥
no_read e = cc

pub changes_lawful : (word : List ℕ) (since : ℕ) (plan : Tree → Tree → Plan)
    → ((state argument : Tree) → ObeysLaws state (asks word argument) (plan state argument)) → IsLawfulMethod (changes word since plan)
changes_lawful word since plan obeys = record { obeys = obeys; changes_nothing = λ e. absurd (no_read e) }

pub reads_lawful : (word : List ℕ) (since : ℕ) (plan : Tree → Tree → Plan)
    → ((state argument : Tree) → ObeysLaws state (asks word argument) (plan state argument))
    → ((state argument : Tree) → ChangesNothing state (plan state argument)) → IsLawfulMethod (reads word since plan)
reads_lawful word since plan obeys kept = record { obeys = obeys; changes_nothing = λ e. kept }

-- what is found under a word is lawful, and has the word
abbrev IsFound : List ℕ → Option Method → Type 0
IsFound word o = IfSome o (λ m. IsLawfulMethod m × (same_text word m.word ≡ true))

method_found : (ms : List Method) (word : List ℕ) → AllByRecursion IsLawfulMethod ms → IsFound word (method_in ms word)
method_found [] word laws = tt
method_found (m ∷ ms) word laws =
    if_holds (IsFound word) (same_text word m.word) (Some m) (method_in ms word) (λ is. (laws.0, is)) (λ e. method_found ms word laws.1)

kind_found : (ks : List Kind) (word : List ℕ) → AllByRecursion IsLawfulKind ks → IfSome (kind_in ks word) IsLawfulKind
kind_found [] word laws = tt
kind_found (k ∷ ks) word laws =
    if_holds (λ (o : Option Kind). IfSome o IsLawfulKind) (same_text word k.word) (Some k) (kind_in ks word)
    (λ is. laws.0) (λ e. kind_found ks word laws.1)

kind_kept : (version : ℕ) (o : Option Kind) → IfSome o IsLawfulKind → IfSome (kind_since version o) IsLawfulKind
kind_kept version None laws = tt
kind_kept version (Some k) laws =
    if_holds (λ (o : Option Kind). IfSome o IsLawfulKind) (nat_le k.since version) (Some k) None (λ e. laws) (λ e. tt)

method_kept : (version : ℕ) (word : List ℕ) (o : Option Method) → IsFound word o → IsFound word (method_since version o)
method_kept version word None found = tt
method_kept version word (Some m) found = if_holds (IsFound word) (nat_le m.since version) (Some m) None (λ e. found) (λ e. tt)

found_of : (o : Option Kind) (word : List ℕ) → IfSome o IsLawfulKind → IsFound word (method_of o word)
found_of None word laws = tt
found_of (Some k) word laws = method_found k.methods word laws.methods_lawful

kind_lawful : (table : List Kind) → AllByRecursion IsLawfulKind table → (version : ℕ) (kind : List ℕ)
    → IfSome (kind_at table version kind) IsLawfulKind
kind_lawful table laws version kind = kind_kept version (kind_in table kind) (kind_found table kind laws)

found_at : (table : List Kind) → AllByRecursion IsLawfulKind table → (version : ℕ) (kind method : List ℕ)
    → IsFound method (method_at table version kind method)
found_at table laws version kind method =
    method_kept version method (method_of (kind_at table version kind) method)
    (found_of (kind_at table version kind) method (kind_lawful table laws version kind))

-- ---- a lawful version

plan_obeys : (o : Option Method) (word : List ℕ) → IsFound word o → (state argument : Tree)
    → ObeysLaws state (asks word argument) (plan_by o state argument)
plan_obeys None word found state argument = fault_obeys state (asks word argument) UnknownMethod
plan_obeys (Some m) word found state argument =
    subst (λ (w : List ℕ). ObeysLaws state (asks w argument) (m.plan state argument)) (sym ((same_text_decides word m.word).0 found.1))
    (found.0.obeys state argument)

plan_reads : (o : Option Method) (word : List ℕ) → IsFound word o → reads_by o ≡ true → (state argument : Tree)
    → ChangesNothing state (plan_by o state argument)
plan_reads None word found e state argument = absurd (no_read e)
plan_reads (Some m) word found e state argument = found.0.changes_nothing e state argument

empty_of : (o : Option Kind) → IfSome o IsLawfulKind → FitsState (empty_by o)
empty_of None laws = null_fits
empty_of (Some k) laws = laws.empty_fits

pub table_lawful : (table : List Kind) → AllByRecursion IsLawfulKind table → (version : ℕ) → IsLawful (at_version table version)
unfolding at_version
table_lawful table laws version =
    let obeys : (kind method : List ℕ) (state argument : Tree)
    → ObeysLaws state (asks method argument) (plan_by (method_at table version kind method) state argument)
    = λ kind method. plan_obeys (method_at table version kind method) method (found_at table laws version kind method) in
    record {
      readers_change_nothing = λ kind method state argument e.
          plan_reads (method_at table version kind method) method (found_at table laws version kind method) e state argument;
      faults_change_nothing = λ kind method state argument. (obeys kind method state argument).faults_change_nothing;
      askers_leave_all = λ kind method state argument. (obeys kind method state argument).askers_leave_all;
      plans_keep_limits = λ kind method state argument. (obeys kind method state argument).keeps_limits;
      stays_in_range = λ kind method state argument. (obeys kind method state argument).stays_in_range;
      empty_fits = λ kind known. empty_of (kind_at table version kind) (kind_lawful table laws version kind);
    }

-- ---- what stands

-- a version that is no earlier has the method
pub has_method : (version : ℕ) (o : Option Method) → since_of o ≤ version → method_since version o ≡ o
has_method version None le = refl
has_method version (Some m) le = ap (λ (b : Bool). if b then Some m else None) (le-leb m.since version le)

-- an earlier one doesn't
pub has_not : (version : ℕ) (o : Option Method) → version < since_of o → method_since version o ≡ None
has_not version None lt = refl
has_not version (Some m) lt = ap (λ (b : Bool). if b then Some m else None) (lt-leb m.since version lt)

-- the kinds of a table whose kinds all stand
pub has_kinds : (version : ℕ) (ks : List Kind) → AllByRecursion (λ k. k.since ≤ version) ks → (word : List ℕ)
    → kind_since version (kind_in ks word) ≡ kind_in ks word
has_kinds version [] all word = refl
has_kinds version (k ∷ ks) all word =
    if_holds (λ (o : Option Kind). kind_since version o ≡ o) (same_text word k.word) (Some k) (kind_in ks word)
    (λ is. ap (λ (b : Bool). if b then Some k else None) (le-leb k.since version all.0)) (λ e. has_kinds version ks all.1 word)

-- ---- a later version

later : (since older newer : ℕ) → older ≤ newer → nat_le since older ≡ true → nat_le since newer ≡ true
later since older newer le e = le-leb since newer (omega (arith, leb-true since older e, le))

stays_if : {R : Type 0} (c d : Bool) (x m : R) → (c ≡ true → d ≡ true) → ◌≡◌ {A = Option R} (if c then Some x else None) (Some m)
    → ◌≡◌ {A = Option R} (if d then Some x else None) (Some m)
stays_if {R} true d x m since e = subst (λ (b : Bool). ◌≡◌ {A = Option R} (if b then Some x else None) (Some m)) (sym (since refl)) e
stays_if false d x m since e = absurd cc

kind_stays : (older newer : ℕ) → older ≤ newer → (o : Option Kind) (k : Kind) → kind_since older o ≡ Some k → kind_since newer o ≡ Some k
kind_stays older newer le None k e = absurd cc
kind_stays older newer le (Some x) k e = stays_if (nat_le x.since older) (nat_le x.since newer) x k (later x.since older newer le) e

method_stays : (older newer : ℕ) → older ≤ newer → (o : Option Method) (m : Method) → method_since older o ≡ Some m
    → method_since newer o ≡ Some m
method_stays older newer le None m e = absurd cc
method_stays older newer le (Some x) m e = stays_if (nat_le x.since older) (nat_le x.since newer) x m (later x.since older newer le) e

-- what is there, is a row
there : {R : Type 0} (o : Option R) → is_some o ≡ true → (x : R) × (o ≡ Some x)
there (Some x) e = (x, refl)
there None e = absurd cc

-- a method stands in a kind that stands
method_of_stays : (older newer : ℕ) → older ≤ newer → (o p : Option Kind) → ((k : Kind) → o ≡ Some k → p ≡ Some k)
    → (word : List ℕ) (m : Method) → method_since older (method_of o word) ≡ Some m → method_since newer (method_of p word) ≡ Some m
method_of_stays older newer le None p stays word m e = absurd cc
method_of_stays older newer le (Some k) p stays word m e =
    ap (λ (q : Option Kind). method_since newer (method_of q word)) (stays k refl)
    ∙ method_stays older newer le (method_in k.methods word) m e

method_at_stays : (table : List Kind) (older newer : ℕ) → older ≤ newer → (kind method : List ℕ) (m : Method)
    → method_at table older kind method ≡ Some m → method_at table newer kind method ≡ Some m
method_at_stays table older newer le kind method m =
    method_of_stays older newer le (kind_at table older kind) (kind_at table newer kind)
    (λ k. kind_stays older newer le (kind_in table kind) k) method m

-- a version answers whatever an older one knows as the older one does
pub later_extends : (table : List Kind) (older newer : ℕ) → older ≤ newer → Extends table older newer
unfolding at_version
later_extends table older newer le = record {
  kinds_stay = λ kind known.
      let found = there (kind_at table older kind) known in
      let stays = kind_stays older newer le (kind_in table kind) found.0 found.1 in
      (ap is_some stays, ap empty_by (stays ∙ sym found.1));
  methods_stay = λ kind method known.
      let found = there (method_at table older kind method) known in
      let same = method_at_stays table older newer le kind method found.0 found.1 ∙ sym found.1 in
      (ap reads_by same, λ state argument. ap (λ (o : Option Method). plan_by o state argument) same);
}
