-- The greatest number of a caller never falls, so a number acts at most once.
use Rattle.std.proofs.Common.{◌≡◌, ℕ, ◌<◌, ◌≤◌, List, Option, Some, refl, ap, arith}
use Rattle.std.specs.FinMap as finite
use Rattle.request_receipts.specs.Judgements.{acts, judgement}
use Rattle.request_receipts.specs.Receipts.{Caller, Receipts, kept, last_of, with_receipt}
use Rattle.request_receipts.specs.Laws.{ActsOnce, Change, LastStays, after}
use Rattle.request_receipts.proofs.Changes.{above, acting, get-itself, sees_any, steps}

-- the greatest number is that or a later one
abbrev HasPassed : ℕ → Option Caller → Type 0
HasPassed floor o = (later : ℕ) × (floor ≤ later) × (last_of o ≡ Some later)

between : (a b c : ℕ) → a ≤ b → b < c → a ≤ c
between a b c h k = omega arith

passes : (who : List ℕ) (floor : ℕ) (changes : List Change) (r : Receipts) → HasPassed floor (finite.get r.callers who) → HasPassed floor (finite.get (after changes r).callers who)
passes who floor changes r has = steps who (λ n. Unit {0}) (HasPassed floor) (λ seen c only has. has) later changes r (sees_any who changes) has
  where
    later : (r : Receipts) (number : ℕ) (line : List ℕ) → judgement r who number ≡ acts → HasPassed floor (finite.get r.callers who) → HasPassed floor (Some (with_receipt (finite.get r.callers who) number line))
    later r number line act has = (number, between floor has.0 number has.1 (above (finite.get r.callers who) number has.0 (acting r (finite.get r.callers who) number act).1 has.2), refl)

pub last_stays : LastStays
last_stays r who last changes is = passes who last changes r (last, omega arith, is)

too_low : (a n l : ℕ) → a ≤ n → n ≤ l → l < a → ⊥
too_low a n l h k m = omega arith

pub acts_once : ActsOnce
acts_once r who number asked line changes low act =
    let has = passes who number changes (kept r who number line) (number, omega arith, ap last_of (get-itself r.callers who (with_receipt (finite.get r.callers who) number line))) in
    let o = finite.get (after changes (kept r who number line)).callers who in
    too_low asked number has.0 low has.1 (above o asked has.0 (acting (after changes (kept r who number line)) o asked act).1 has.2)
