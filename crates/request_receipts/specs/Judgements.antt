-- What becomes of a request that is to act once, by what is kept.
use Rattle.std.specs.Prelude.{ℕ, Bool, true, false, ◌&&◌, List, nat_le, Option, Some, None, if◌then◌else◌}
use Rattle.std.specs.FinMap as finite
use Rattle.request_receipts.specs.Receipts.{Caller, Receipts, is_full, is_tenant_full, line_of, receipts_of}
use Rattle.request_receipts.specs.declared.verdict.Verdict.{Verdict}
use Rattle.request_receipts.specs.declared.verdict.Verdict.TheVariants as verdicts

-- A request is answered by a line that is kept, or refused for one of four reasons, or it acts.
pub data Judgement : Type 0 where
  again : List ℕ → Judgement
  was_answered : Judgement
  many_callers : Judgement
  not_seen_of_caller : Judgement
  not_seen_of_tenant : Judgement
  acts : Judgement

-- nothing is kept of the caller
abbrev pub is_new : Option Caller → Bool
is_new None = true
is_new (Some c) = false

-- the number isn't above the caller's greatest
abbrev pub has_passed : Option Caller → ℕ → Bool
has_passed None number = false
has_passed (Some c) number = nat_le number c.last

abbrev pub by_line : Option (List ℕ) → Judgement → Judgement
by_line (Some line) other = again line
by_line None other = other

-- of a number with no receipt, the first that fits: it isn't above the greatest; the caller is new, and the tenant has as many as
-- it may have; the caller has no room for one more receipt; the tenant has none
abbrev pub without_line : Receipts → Option Caller → ℕ → Judgement
without_line r c number =
    if has_passed c number then was_answered
    else if is_new c && nat_le r.most (finite.len r.callers) then many_callers
    else if is_full (receipts_of c) then not_seen_of_caller
    else if is_tenant_full r then not_seen_of_tenant
    else acts

-- a number that has a receipt is answered by its line again, whatever the request asks
abbrev pub judged : Receipts → Option Caller → ℕ → Judgement
judged r c number = by_line (line_of number (receipts_of c)) (without_line r c number)

abbrev pub judgement : Receipts → List ℕ → ℕ → Judgement
judgement r who number = judged r (finite.get r.callers who) number

-- the verdict of the code
abbrev pub judgement_of : Verdict → Judgement
judgement_of (verdicts.Again line) = again line.now
judgement_of verdicts.Answered = was_answered
judgement_of verdicts.ManyCallers = many_callers
judgement_of verdicts.NotSeenOfCaller = not_seen_of_caller
judgement_of verdicts.NotSeenOfTenant = not_seen_of_tenant
judgement_of verdicts.Acts = acts
