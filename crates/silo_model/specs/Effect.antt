-- What a step of a tenant looks at, and what it does: both in its owner's part alone, and at one grain or at none.
use Rattle.std.specs.Prelude.{ℕ, List, [], ◌++◌, Option, Some, None}
use Rattle.std.specs.FinMap as map
use Rattle.std.specs.FinMap.{FinMap}
use Rattle.std.specs.declared.cmp.Ordering.{Ordering}
use Rattle.grain_id.specs.Names.{Grain}
use Rattle.grain_storage.specs.declared.row.Row.{Row}
use Rattle.silo_event.specs.declared.reply.Reply.{Reply}
use Rattle.silo_model.specs.Machine.{Machine, Account, Entry}

-- what a step sees: the owner's account, the clock, how many entries the owner has, and the entry and the row of the step's grain
pub record Context : Type 0 where
  pub tenant : List ℕ
  pub account : Option Account
  pub clock : ℕ
  pub active : ℕ
  pub entry : Option Entry
  pub row : Option Row

-- what becomes of a thing that may be there
pub data Change (X : Type 0) : Type 0 where
  keep : Change X
  put : X → Change X
  drop : Change X

-- what a step does: to the owner's account, to the entry and the row of its grain, and the replies that it adds
pub record Effect : Type 0 where
  pub account : Change Account
  pub entry : Change Entry
  pub row : Change Row
  pub replies : List Reply

-- an effect on the entry alone
abbrev pub on_entry : Entry → Effect
on_entry e = record { account = keep; entry = put e; row = keep; replies = [] }

-- nothing but replies
abbrev pub only_replies : List Reply → Effect
only_replies replies = record { account = keep; entry = keep; row = keep; replies = replies }

abbrev pub change_option : {X : Type 0} → Option X → Change X → Option X
change_option o keep = o
change_option o (put x) = Some x
change_option o drop = None

abbrev pub change_at : {K X : Type 0} {R : K → K → Ordering} → FinMap R X → K → Change X → FinMap R X
change_at m k keep = m
change_at m k (put x) = map.insert m k x
change_at m k drop = map.remove m k

-- what a map has at a key, and a change there, if there is a key
abbrev pub found_at : {K X : Type 0} {R : K → K → Ordering} → FinMap R X → Option K → Option X
found_at m None = None
found_at m (Some k) = map.get m k

abbrev pub changed_at : {K X : Type 0} {R : K → K → Ordering} → FinMap R X → Option K → Change X → FinMap R X
changed_at m None c = m
changed_at m (Some k) c = change_at m k c

-- what the machine lets a step at the grain see
unfoldable pub context_at : Machine → Option Grain → Context
context_at m grain =
    record {
      tenant = m.tenant;
      account = m.account;
      clock = m.clock;
      active = map.len m.entries;
      entry = found_at m.entries grain;
      row = found_at m.rows grain;
    }

-- the machine after the effect at the grain
unfoldable pub applied : Machine → Option Grain → Effect → Machine
applied m grain e = record m {
  account = change_option m.account e.account;
  entries = changed_at m.entries grain e.entry;
  rows = changed_at m.rows grain e.row;
  replies = m.replies ++ e.replies;
}
