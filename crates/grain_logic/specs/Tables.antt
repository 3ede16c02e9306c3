-- A table of kinds and of their methods, each with the version of the logic since which it stands; and the logic of each version.
use Rattle.std.specs.Prelude.{◌≡◌, ℕ, nat_le, Bool, true, false, List, [], ◌∷◌, Option, Some, None, is_some, Err, if◌then◌else◌}
use Rattle.grain_id.specs.Names.{same_text}
use Rattle.request_codec.specs.Tree.{Tree, null}
use Rattle.grain_logic.specs.declared.fault.MethodFault.TheVariants.{UnknownMethod}
use Rattle.grain_logic.specs.Logic.{Logic, Plan}
use Rattle.grain_logic.specs.Shared.{keeps}

-- A method: its word, the version since which it stands, whether it only reads, and its plan of a state and an argument.
pub record Method : Type 0 where
  pub word : List ℕ
  pub since : ℕ
  pub only_reads : Bool
  pub plan : Tree → Tree → Plan

-- A kind: its word, the version since which it stands, the state of a grain that was never written, and its methods.
pub record Kind : Type 0 where
  pub word : List ℕ
  pub since : ℕ
  pub empty : Tree
  pub methods : List Method

-- a method that may change something
abbrev pub changes : List ℕ → ℕ → (Tree → Tree → Plan) → Method
changes word since plan = record { word = word; since = since; only_reads = false; plan = plan }

-- a method that only reads
abbrev pub reads : List ℕ → ℕ → (Tree → Tree → Plan) → Method
reads word since plan = record { word = word; since = since; only_reads = true; plan = plan }

-- ---- what stands under a word

abbrev pub method_in : List Method → List ℕ → Option Method
method_in [] word = None
method_in (m ∷ ms) word = if same_text word m.word then Some m else method_in ms word

abbrev pub kind_in : List Kind → List ℕ → Option Kind
kind_in [] word = None
kind_in (k ∷ ks) word = if same_text word k.word then Some k else kind_in ks word

abbrev pub method_of : Option Kind → List ℕ → Option Method
method_of None word = None
method_of (Some k) word = method_in k.methods word

-- ---- what a version has of it

abbrev pub method_since : ℕ → Option Method → Option Method
method_since version None = None
method_since version (Some m) = if nat_le m.since version then Some m else None

abbrev pub kind_since : ℕ → Option Kind → Option Kind
kind_since version None = None
kind_since version (Some k) = if nat_le k.since version then Some k else None

-- the version since which a method stands: the first one where there is no such method
abbrev pub since_of : Option Method → ℕ
since_of None = 1
since_of (Some m) = m.since

-- the kind of that word, where the version has it
abbrev pub kind_at : List Kind → ℕ → List ℕ → Option Kind
kind_at table version kind = kind_since version (kind_in table kind)

-- the method of a kind, where the version has both
abbrev pub method_at : List Kind → ℕ → List ℕ → List ℕ → Option Method
method_at table version kind method = method_since version (method_of (kind_at table version kind) method)

-- ---- the logic of a version

abbrev pub reads_by : Option Method → Bool
reads_by None = false
reads_by (Some m) = m.only_reads

abbrev pub empty_by : Option Kind → Tree
empty_by None = null
empty_by (Some k) = k.empty

-- a method that the version doesn't have is unknown
abbrev pub plan_by : Option Method → Tree → Tree → Plan
plan_by None state argument = keeps state (Err UnknownMethod)
plan_by (Some m) state argument = m.plan state argument

unfoldable pub at_version : List Kind → ℕ → Logic
at_version table version = record {
  knows = λ kind. is_some (kind_at table version kind);
  is_read = λ kind method. reads_by (method_at table version kind method);
  empty = λ kind. empty_by (kind_at table version kind);
  plan = λ kind method state argument. plan_by (method_at table version kind method) state argument;
}

-- ---- a later version

-- Whatever the older version knows, the newer one answers as the older one does: each kind with its empty state, and each
-- method of a kind with what it reads and its plans.
pub record Extends (table : List Kind) (older newer : ℕ) : Type 0 where
  pub kinds_stay : (kind : List ℕ) → (at_version table older).knows kind ≡ true
      → ((at_version table newer).knows kind ≡ true) × ((at_version table newer).empty kind ≡ (at_version table older).empty kind)
  pub methods_stay : (kind method : List ℕ) → is_some (method_at table older kind method) ≡ true
      → ((at_version table newer).is_read kind method ≡ (at_version table older).is_read kind method)
      × ((state argument : Tree)
      → (at_version table newer).plan kind method state argument ≡ (at_version table older).plan kind method state argument)
