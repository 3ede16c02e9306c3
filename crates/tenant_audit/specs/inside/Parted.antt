-- A journal's steps, replies and rows, parted by whose they are.
use Rattle.std.specs.Prelude.{◌≡◌, ℕ, ◌+◌, Bool, true, nat_lt, List, [], ◌∷◌, None, unwrap_or, filter, map as map_list, if◌then◌else◌}
use Rattle.std.specs.Option.{option_map, is_none}
use Rattle.std.specs.Borrow.{Bor}
use Rattle.std.specs.BTreeMap.{BTreeMap, get}
use Rattle.std.specs.Global.{Vec}
use Rattle.grain_id.specs.Names.{Grain, text_cmp, same_text}
use Rattle.grain_storage.specs.declared.row.Row.{Row}
use Rattle.silo_event.specs.Owner.{owner_of}
use Rattle.silo_event.specs.declared.step.Step.{Step}
use Rattle.journal_text.specs.Rules.{are_ascending}
use Rattle.journal_text.specs.Text.{History}
use Rattle.journal_text.specs.declared.recorded.RecordedReply.{RecordedReply}
use Rattle.audit_model.specs.Parts.{is_owned_by, is_told}
use Rattle.silo_model.specs.Whole.{is_of}
use Rattle.tenant_audit.specs.declared.steps_of_tenant.PlacedStep.{PlacedStep}

-- what the references point to
abbrev pub pointees : {X : Type 0} → List (Bor X) → List X
pointees references = map_list (λ r. r.now) references

-- ---- what is held of each tenant

-- what a map holds of the tenant
abbrev pub held_for : {X : Type 0} → BTreeMap (List ℕ) (Vec X) → List ℕ → List X
held_for parts tenant = unwrap_or (option_map (λ v. v.items) (get text_cmp parts tenant)) []

-- the thing, if its owner is the tenant
abbrev pub if_owned : {X : Type 0} → List ℕ → List ℕ → X → List X
if_owned owner tenant thing = if same_text owner tenant then thing ∷ [] else []

-- ---- steps with their places

-- each with its place, counted from the base
abbrev pub numbered : {X : Type 0} → ℕ → List X → List (ℕ × X)
numbered base [] = []
numbered base (x ∷ xs) = (base, x) ∷ numbered (base + 1) xs

-- the step is the tenant's own
abbrev pub is_own : List ℕ → ℕ × Step → Bool
is_own tenant e = is_owned_by tenant (owner_of e.1)

-- the step is nobody's
abbrev pub is_nobodys : ℕ × Step → Bool
is_nobodys e = is_none (owner_of e.1)

-- the first of the two comes before the next of the others
abbrev pub merge_at : {X : Type 0} → ℕ × X → (List (ℕ × X) → List (ℕ × X)) → List (ℕ × X) → List (ℕ × X)
merge_at e after [] = e ∷ after []
merge_at e after (f ∷ fs) = if nat_lt f.0 e.0 then f ∷ merge_at e after fs else e ∷ after (f ∷ fs)

-- both lists in one, by their places
abbrev pub merge : {X : Type 0} → List (ℕ × X) → List (ℕ × X) → List (ℕ × X)
merge [] = λ fs. fs
merge (e ∷ es) = merge_at e (merge es)

-- a step that is held, with its place
abbrev pub placed : PlacedStep → ℕ × Step
placed held = (held.place, held.step.now)

-- the steps of both, by their places
abbrev pub merged : List PlacedStep → List PlacedStep → List Step
merged own nobodys = map_list (λ (e : ℕ × Step). e.1) (merge (map_list placed own) (map_list placed nobodys))

-- ---- a journal

-- Of each tenant its own steps are held.
abbrev pub AreOwn : BTreeMap (List ℕ) (Vec PlacedStep) → List Step → Type 0
AreOwn own steps = (tenant : List ℕ) → map_list placed (held_for own tenant) ≡ filter (is_own tenant) (numbered 0 steps)

-- These are nobody's steps.
abbrev pub AreNobodys : List PlacedStep → List Step → Type 0
AreNobodys nobodys steps = map_list placed nobodys ≡ filter is_nobodys (numbered 0 steps)

-- Of each tenant the replies that belong to it are held.
abbrev pub HoldReplies : BTreeMap (List ℕ) (Vec (Bor RecordedReply)) → List RecordedReply → Type 0
HoldReplies told replies = (tenant : List ℕ) → pointees (held_for told tenant) ≡ filter (is_told tenant) replies

-- Of each tenant the rows of its grains are held.
abbrev pub HoldRows : BTreeMap (List ℕ) (Vec (Bor (Grain × Row))) → List (Grain × Row) → Type 0
HoldRows stored rows = (tenant : List ℕ) → pointees (held_for stored tenant) ≡ filter (λ row. is_of tenant row.0) rows

-- What is held is the journal's, whose rows ascend.
pub record IsParted (journal : History) (steps : BTreeMap (List ℕ) (Vec PlacedStep)) (nobodys : List PlacedStep)
    (replies : BTreeMap (List ℕ) (Vec (Bor RecordedReply))) (rows : BTreeMap (List ℕ) (Vec (Bor (Grain × Row)))) : Type 0 where
  pub own : AreOwn steps journal.steps
  pub of_nobody : AreNobodys nobodys journal.steps
  pub told : HoldReplies replies journal.replies
  pub stored : HoldRows rows journal.rows
  pub ascending : are_ascending None journal.rows ≡ true
