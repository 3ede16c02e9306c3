-- The kind `bucket`: ten tokens at most, of which one comes back each second, so that nobody takes more than ten at once.
--
--   method   argument       state                                     answer
--   take     {"now": int}   full a second later, if a token is there   whether one was there; Misfit if `now` is no moment
--
-- and the methods of every kind: `save`, `reload` and `clear`. The state is the moment from which the bucket is full. A state that
-- is no whole number from 0 on counts as 0: full at any moment. Moments are milliseconds from 0 to 2^53.
use Rattle.std.specs.Prelude.{ℕ, ◌+◌, true, false, max, nat_le, ℤ, pos, negsuc, List, Option, Some, None, option_and_then, Ok}
use Rattle.std.specs.Prelude.{if◌then◌else◌, codes}
use Rattle.grain_id.specs.Names.{same_text}
use Rattle.request_codec.specs.Tree.{Tree, integer, truth}
use Rattle.grain_logic.specs.Logic.{Logic, Plan}
use Rattle.grain_logic.specs.Shared.{keeps, becomes, for_shape, integer_field, shared_plan}

-- how long a token takes to come back, and how long all of them take
abbrev pub second : ℕ
second = 1000

abbrev pub whole_time : ℕ
whole_time = 10000

abbrev pub last_moment : ℕ
last_moment = 9007199254740992

abbrev pub moment_of : ℤ → Option ℕ
moment_of (pos n) = if nat_le n last_moment then Some n else None
moment_of (negsuc n) = None

-- the moment in `{"now": int}`
abbrev pub now_in : Tree → Option ℕ
now_in argument = option_and_then moment_of (integer_field (codes "now") argument)

-- from when the bucket of a state is full
abbrev pub full_from : Tree → ℕ
full_from (integer (pos n)) = n
full_from _ = 0

-- from when it will be full if a token is taken now
abbrev pub full_after : Tree → ℕ → ℕ
full_after state now = max (full_from state) now + second

-- a token is there if, without it, the bucket will be full in time
abbrev pub takes : Tree → ℕ → Plan
takes state now =
    if nat_le (full_after state now) (now + whole_time) then becomes (integer (pos (full_after state now))) (truth true)
    else keeps state (Ok (truth false))

abbrev pub bucket_plan : List ℕ → Tree → Tree → Plan
bucket_plan method state argument =
    if same_text method (codes "take") then for_shape state (now_in argument) (takes state) else shared_plan method state argument

-- the logic of buckets
abbrev pub buckets : Logic
buckets = record {
  knows = λ kind. same_text kind (codes "bucket");
  is_read = λ kind method. false;
  empty = λ kind. integer (pos 0);
  plan = λ kind. bucket_plan;
}
