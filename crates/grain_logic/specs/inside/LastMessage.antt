-- The call whose message was written last.
use Rattle.std.specs.Prelude.{◌≡◌, List, [], ◌∷◌, ◌++◌}
use Rattle.grain_id.specs.Names.{Grain}
use Rattle.request_codec.specs.Call.{Call}

-- Of the messages that were written, each for a grain, the last one is the call's.
pub record EndsIn (call : Call) (written : List (Grain × Call)) : Type 0 where
  pub front : List (Grain × Call)
  pub target : Grain
  pub whole : written ≡ front ++ (target, call) ∷ []
