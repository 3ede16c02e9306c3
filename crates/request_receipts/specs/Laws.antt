-- What holds whatever callers ask.
use Rattle.std.specs.Prelude.{◌≡◌, ◌≤◌, ◌<◌, ℕ, true, false, List, [], ◌∷◌, Some}
use Rattle.std.specs.FinMap as finite
use Rattle.std.specs.List.{AllByRecursion}
use Rattle.grain_id.specs.Names.{same_text}
use Rattle.request_receipts.specs.Judgements.{Judgement, acts, again, judgement, not_seen_of_caller, was_answered}
use Rattle.request_receipts.specs.Receipts.{Receipts, count_of_all, kept, last_of, none_kept, saw}

-- a caller says up to which number it has seen its replies; or a number of it is answered by a line
pub data Change : Type 0 where
  sees : List ℕ → ℕ → Change
  keeps : List ℕ → ℕ → List ℕ → Change

-- kept where the number acts
abbrev pub kept_if : Judgement → Receipts → Receipts → Receipts
kept_if acts r after = after
kept_if _ r after = r

-- what is kept after it: of a number that doesn't act nothing
abbrev pub changed : Receipts → Change → Receipts
changed r (sees who number) = saw r who number
changed r (keeps who number line) = kept_if (judgement r who number) r (kept r who number line)

abbrev pub after : List Change → Receipts → Receipts
after [] r = r
after (change ∷ changes) r = after changes (changed r change)

-- ---- a number acts at most once

-- Once a number is kept, no number of its caller up to it acts, whatever is seen and kept meanwhile.
abbrev pub ActsOnce : Type 0
ActsOnce =
    (r : Receipts) (who : List ℕ) (number asked : ℕ) (line : List ℕ) (changes : List Change)
    → asked ≤ number → judgement (after changes (kept r who number line)) who asked ≡ acts → ⊥

-- ---- a reply is kept until it is seen

-- Of what the caller says it has seen this number is no part.
abbrev pub LeavesUnseen : List ℕ → ℕ → Change → Type 0
LeavesUnseen who number (sees w seen) = same_text w who ≡ true → seen < number
LeavesUnseen who number (keeps w n line) = Unit {0}

-- A number that acted is answered by its line as long as its caller hasn't seen it.
abbrev pub StaysKept : Type 0
StaysKept =
    (r : Receipts) (who : List ℕ) (number : ℕ) (line : List ℕ) (changes : List Change)
    → judgement r who number ≡ acts → AllByRecursion (LeavesUnseen who number) changes
    → judgement (after changes (kept r who number line)) who number ≡ again line

-- ---- callers are apart

abbrev pub IsOfAnother : List ℕ → Change → Type 0
IsOfAnother who (sees w seen) = same_text w who ≡ false
IsOfAnother who (keeps w number line) = same_text w who ≡ false

-- What others do changes nothing that is kept of a caller.
abbrev pub OthersApart : Type 0
OthersApart =
    (r : Receipts) (who : List ℕ) (changes : List Change)
    → AllByRecursion (IsOfAnother who) changes → finite.get (after changes r).callers who ≡ finite.get r.callers who

-- It hangs on no limit of the tenant.
abbrev pub IsOwn : Judgement → Type 0
IsOwn (again line) = Unit {0}
IsOwn was_answered = Unit {0}
IsOwn not_seen_of_caller = Unit {0}
IsOwn _ = ⊥

-- What a caller is answered stays so whatever others do, unless a limit of the tenant decides.
abbrev pub OwnStays : Type 0
OwnStays =
    (r : Receipts) (who : List ℕ) (number : ℕ) (changes : List Change)
    → AllByRecursion (IsOfAnother who) changes → IsOwn (judgement r who number)
    → judgement (after changes r) who number ≡ judgement r who number

-- ---- the greatest number

-- The greatest number of a caller never falls.
abbrev pub LastStays : Type 0
LastStays =
    (r : Receipts) (who : List ℕ) (last : ℕ) (changes : List Change)
    → last_of (finite.get r.callers who) ≡ Some last
    → (later : ℕ) × (last ≤ later) × (last_of (finite.get (after changes r).callers who) ≡ Some later)

-- ---- the tenant's limits

-- From nothing on there are no more callers, and no more receipts, than the tenant may have.
abbrev pub LimitsHold : Type 0
LimitsHold =
    (most : ℕ) (changes : List Change)
    → (finite.len (after changes (none_kept most)).callers ≤ most) × (count_of_all (after changes (none_kept most)).callers ≤ most)
