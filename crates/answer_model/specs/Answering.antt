-- A silo that answers each request before the next is looked at: the steps that it takes, and what it is then. It is
-- told once, of the whole of all tenants and of the machine of one.
use Rattle.std.specs.Prelude.{ℕ, zero, suc, ◌-◌, Bool, true, false, not, ◌||◌, ◌==◌, List, [], ◌∷◌, ◌++◌, length, nat_lt, Option, Some}
use Rattle.std.specs.Prelude.{None, is_some, if◌then◌else◌}
use Rattle.std.specs.List.{list_all}
use Rattle.std.specs.FinMap as map
use Rattle.grain_id.specs.Names.{Grain}
use Rattle.silo_event.specs.Failed.{as_failed}
use Rattle.silo_event.specs.Owner.{owner_of}
use Rattle.silo_event.specs.declared.reply.Reply.{Reply}
use Rattle.silo_event.specs.declared.step.Step.{Step}
use Rattle.silo_event.specs.declared.step.Step.TheVariants.{Refuse, Call, Poke, Status, Deliver, Activate, Load, Begin, Store, End}
use Rattle.silo_event.specs.declared.step.Step.TheVariants.{Abandon, Tick, Sweep}
use Rattle.grain_logic.specs.Logic.{Logic}
use Rattle.tenant_accounts.specs.Sends.{message_bytes, sent_bytes}
use Rattle.silo_model.specs.Machine.{Machine, Account, Entry, Request, Send}
use Rattle.silo_model.specs.Pending.{sends_of}
use Rattle.silo_model.specs.Step.{machine_step}
use Rattle.silo_model.specs.Whole.{Whole, whole_step}
use Rattle.silo_model.specs.Run.{run_by}

-- what takes steps: what it is after a step, if the step is possible, and what it has
pub record Stepper (M : Type 0) : Type 0 where
  pub step : M → Step → Option M
  pub replies : M → List Reply
  pub entry : M → Grain → Option Entry
  pub account : M → List ℕ → Option Account

abbrev pub whole_stepper : Logic → Stepper Whole
whole_stepper logic = record {
  step = whole_step logic;
  replies = λ w. w.replies;
  entry = λ w grain. map.get w.entries grain;
  account = λ w tenant. map.get w.accounts tenant;
}

abbrev pub machine_stepper : Logic → Stepper Machine
machine_stepper logic = record {
  step = machine_step logic;
  replies = λ m. m.replies;
  entry = λ m grain. map.get m.entries grain;
  account = λ m tenant. m.account;
}

-- ---- luck: which calls of the storage fail, and which turns run out of memory

pub data Closing : Type 0 where
  well : Closing
  storage_failed : Closing
  out_of_memory : Closing

-- the turn isn't given up
abbrev pub is_closed : Closing → Bool
is_closed well = true
is_closed storage_failed = true
is_closed out_of_memory = false

-- how it goes with one request: in the step that brings it, as its grain is loaded, and as its turn is closed
pub record Luck : Type 0 where
  pub asking_failed : Bool
  pub loading_failed : Bool
  pub closing : Closing

-- no call fails, and there is memory
abbrev pub good : Luck
good = record { asking_failed = false; loading_failed = false; closing = well }

-- memory doesn't fail as the turn is closed
abbrev pub has_memory : Luck → Bool
has_memory luck = is_closed luck.closing

abbrev pub all_have_memory : List Luck → Bool
all_have_memory lucks = list_all has_memory lucks

-- that of the next request, and that of the later ones
abbrev pub first_luck : List Luck → Luck
first_luck [] = good
first_luck (luck ∷ lucks) = luck

abbrev pub later_luck : List Luck → List Luck
later_luck [] = []
later_luck (luck ∷ lucks) = lucks

-- ---- how much of what a tenant's grains sent may wait, and how much of it is delivered behind one line

-- While more calls wait to be delivered, or the messages of those that wait have more bytes, each turn of a call that is delivered is given
-- up: one that is served may send four others, and what waits would grow without end.
abbrev pub waiting_calls : ℕ
waiting_calls = 10000

abbrev pub waiting_bytes : ℕ
waiting_bytes = 1048576

abbrev pub too_many_wait : List Send → Bool
too_many_wait sends = nat_lt waiting_calls (length sends) || nat_lt waiting_bytes (sent_bytes sends)

-- how it goes with a call that is delivered then
abbrev pub given_up_if : Bool → Luck → Luck
given_up_if true luck = record luck { closing = out_of_memory }
given_up_if false luck = luck

-- Once the messages of what was delivered behind a line have as many bytes, no more is delivered behind it.
abbrev pub delivered_bytes : ℕ
delivered_bytes = 262144

-- as many bytes as the oldest takes of that
abbrev pub oldest_bytes : List Send → ℕ
oldest_bytes [] = 0
oldest_bytes (oldest ∷ others) = message_bytes oldest

-- ---- a request that was accepted: its grain is brought up, and it is given its turn

module _ {M : Type 0} (by : Stepper M) where
  abbrev pub run : M → List Step → M
  run m steps = run_by by.step m steps

  -- the step is possible
  abbrev pub can : M → Step → Bool
  can m s = is_some (by.step m s)

  -- an entry that waits is activated, and loaded
  abbrev pub raising : M → Grain → Bool → List Step
  raising m grain failed = if can m (Activate grain) then Activate grain ∷ Load grain failed ∷ [] else []

  -- the open turn ends by its plan, or else by what the storage answers
  abbrev pub ending : M → Grain → ℕ → Bool → List Step
  ending m grain turn failed = if can m (End grain turn) then End grain turn ∷ [] else Store grain turn failed ∷ []

  -- or it is given up
  abbrev pub closing : M → Grain → ℕ → Closing → List Step
  closing m grain turn well = ending m grain turn false
  closing m grain turn storage_failed = ending m grain turn true
  closing m grain turn out_of_memory = Abandon grain turn ∷ []

  -- the turn of the first request that waits
  abbrev pub turn_of_first : M → Grain → Closing → List Request → List Step
  turn_of_first m grain how [] = []
  turn_of_first m grain how (first ∷ others) = Begin grain ∷ closing (run m (Begin grain ∷ [])) grain first.number how

  abbrev pub turn_of : M → Grain → Closing → Option Entry → List Step
  turn_of m grain how None = []
  turn_of m grain how (Some e) = turn_of_first m grain how e.queue

  -- if it can begin
  abbrev pub turning : M → Grain → Closing → List Step
  turning m grain how = if can m (Begin grain) then turn_of m grain how (by.entry m grain) else []

  abbrev pub serving : M → Grain → Luck → List Step
  serving m grain luck =
      let steps = raising m grain luck.loading_failed in
      steps ++ turning (run m steps) grain luck.closing

  -- ---- a step that may bring a request

  -- a request that is refused is told so at once, and one that is accepted isn't told anything yet
  abbrev pub is_accepted : M → M → Bool
  is_accepted before after = length (by.replies after) == length (by.replies before)

  -- the request at the grain is served, if the step brought one and it was accepted
  abbrev pub serving_if : M → M → Option Grain → Luck → List Step
  serving_if before after None luck = []
  serving_if before after (Some grain) luck = if is_accepted before after then serving after grain luck else []

  -- the step, and what follows it
  abbrev pub bringing : M → Step → Option Grain → Luck → List Step
  bringing m s grain luck = s ∷ serving_if m (run m (s ∷ [])) grain luck

  -- ---- what a tenant's grains sent

  -- The oldest is delivered, if there is one. Its turn is given up if too many wait.
  abbrev pub delivering : M → List Send → Luck → List Step
  delivering m [] luck = []
  delivering m (oldest ∷ others) luck =
      bringing m (Deliver oldest.source) (Some oldest.message.target) (given_up_if (too_many_wait (oldest ∷ others)) luck)

  -- so many times at most, and while there is room for more bytes
  abbrev pub deliveries : ℕ → ℕ → M → List ℕ → List Luck → List Step
  deliveries zero room m tenant lucks = []
  deliveries (suc n) zero m tenant lucks = []
  deliveries (suc n) (suc room) m tenant lucks =
      let sends = sends_of (by.account m tenant) in
      let steps = delivering m sends (first_luck lucks) in
      steps ++ deliveries n (suc room - oldest_bytes sends) (run m steps) tenant (later_luck lucks)

  abbrev pub deliveries_of : ℕ → M → Option (List ℕ) → List Luck → List Step
  deliveries_of n m None lucks = []
  deliveries_of n m (Some owner) lucks = deliveries n delivered_bytes m owner lucks

-- ---- what is asked

-- a client asks it, or it is the clock or sweeping; and it has no mark of a failure
abbrev pub is_asked : Step → Bool
is_asked (Refuse caller id code) = true
is_asked (Call caller id grain message) = true
is_asked (Poke failed caller id grain state) = not failed
is_asked (Status caller id) = true
is_asked (Deliver grain) = false
is_asked (Activate grain) = false
is_asked (Load grain failed) = false
is_asked (Begin grain) = false
is_asked (Store grain turn failed) = false
is_asked (End grain turn) = false
is_asked (Abandon grain turn) = false
is_asked (Tick now) = true
is_asked Sweep = true

-- the grain that a call asks
abbrev pub called_grain : Step → Option Grain
called_grain (Call caller id grain message) = Some grain
called_grain _ = None

-- what was asked, and the luck of the requests that came of it
pub record Asked : Type 0 where
  pub step : Step
  pub lucks : List Luck

-- the step as it was taken: with the mark of a failure, if the storage failed in it
abbrev pub taken_by : Bool → Step → Step
taken_by true s = as_failed s
taken_by false s = s

abbrev pub taken : Asked → Step
taken asked = taken_by (first_luck asked.lucks).asking_failed asked.step

module _ {M : Type 0} (by : Stepper M) (n : ℕ) where
  -- the step, and the request that it brings is served; and then at most n deliveries of what its tenant's grains sent
  abbrev pub answering : M → Asked → List Step
  answering m asked =
      let steps = bringing by m (taken asked) (called_grain asked.step) (first_luck asked.lucks) in
      steps ++ deliveries_of by n (run by m steps) (owner_of asked.step) (later_luck asked.lucks)

  -- what it is when that was answered, and when all of these were
  abbrev pub answered : M → Asked → M
  answered m asked = run by m (answering m asked)

  abbrev pub all_answered : M → List Asked → M
  all_answered m [] = m
  all_answered m (asked ∷ others) = all_answered (answered m asked) others
