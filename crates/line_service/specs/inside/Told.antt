-- The replies to each grain, as code collects them.
use Rattle.std.specs.Prelude.{◌≡◌, List, [], ◌∷◌, ◌++◌, Option, Some, None, option_map, unwrap_or, map as map_list, if◌then◌else◌}
use Rattle.std.specs.Borrow.{Bor}
use Rattle.std.specs.Global.{Vec}
use Rattle.std.specs.BTreeMap.{BTreeMap, get}
use Rattle.grain_id.specs.Names.{Grain, grain_cmp, grain_eq}
use Rattle.silo_event.specs.declared.reply.Reply.{Reply}
use Rattle.line_service.specs.ServedText.{replies_to_grain}

-- the replies, as they stand behind references
abbrev pub replies_at : Vec (Bor Reply) → List Reply
replies_at list = map_list (λ r. r.now) list.items

-- what stands there for a grain
abbrev pub told_at : BTreeMap Grain (Vec (Bor Reply)) → Grain → Option (List Reply)
told_at told grain = option_map replies_at (get grain_cmp told grain)

-- the replies, if there are any
abbrev pub if_any : List Reply → Option (List Reply)
if_any [] = None
if_any (r ∷ rs) = Some (r ∷ rs)

-- Of each grain, the replies to it stand there.
abbrev pub HoldTold : BTreeMap Grain (Vec (Bor Reply)) → List Reply → Type 0
HoldTold told replies = (grain : Grain) → told_at told grain ≡ if_any (replies_to_grain grain replies)

-- a reply more for this grain, and as before for the others
abbrev pub with_reply : Grain → Reply → Grain → Option (List Reply) → Option (List Reply)
with_reply told reply grain replies = if grain_eq told grain then Some (unwrap_or replies [] ++ reply ∷ []) else replies
