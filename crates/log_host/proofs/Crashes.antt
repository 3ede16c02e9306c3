-- What a crash may leave, and what holds at each moment.
use Rattle.std.proofs.Common.{List, [], ◌∷◌, ◌++◌, refl}
use Rattle.log_host.specs.Acts.{Act, Always, Held, does, held_from}
use Rattle.log_host.specs.Lasting.{Lasts}
use Rattle.log_host.specs.Laws.{AtEachMoment, CrashLeaves}

pub crash_leaves : CrashLeaves
crash_leaves = record {
  anything = λ h bytes. (bytes, refl);
  writing = λ h bytes left may. may;
  telling = λ h bytes left may. may;
  syncing = λ h left may. may;
}

now : (P : Held → Type 0) (h : Held) (acts : List Act) → Always P h acts → P h
now P h [] always = always
now P h (act ∷ acts) always = always.0

module _ (P : Held → Type 0) where
  after : (h : Held) (first others : List Act) → Always P h (first ++ others) → P (held_from h first)
  after h [] others always = now P h others always
  after h (act ∷ first) others always = after (does h act) first others always.1

pub at_each_moment : AtEachMoment
at_each_moment log = after (Lasts log)
