-- Whether an entry goes as its turn closes: if it rests and is idle then.
use Rattle.silo_model.proofs.Common.{if◌then◌else◌, ◌&&◌, ◌==◌, ◌≡◌, Bool, Change, Entry, [], and_from, and_parts, and_right, ap, drop}
use Rattle.silo_model.proofs.Common.{eqb-true, false, is_idle, is_ready, length, nil_from_length, put, stays_or_goes, true}
use Rattle.std.specs.FinMap as map
use Rattle.std.proofs.lemmas.Bool.{and_left}
use Rattle.silo_model.proofs.Tests.{on_test}

module _ (e : Entry) where
  -- an idle entry is ready, no request waits, and no turn is open
  pub idle_parts : is_idle e ≡ true → (is_ready e.phase ≡ true) × (e.queue ≡ []) × (map.len e.turns ≡ 0)
  idle_parts idle =
      let both = and_parts (is_ready e.phase && (length e.queue == 0)) (map.len e.turns == 0) idle in
      let first = and_parts (is_ready e.phase) (length e.queue == 0) both.0 in
      (first.0, nil_from_length e.queue (eqb-true (length e.queue) 0 first.1), eqb-true (map.len e.turns) 0 both.1)

  abbrev by_test : Bool → Change Entry
  by_test b = if b then drop else put e

  -- what holds where it goes and where it stays
  pub stays_or_goes_by : (P : Change Entry → Type 0) → (e.resting && is_idle e ≡ true → P drop) → (e.resting && is_idle e ≡ false → P (put e)) → P (stays_or_goes e)
  stays_or_goes_by P goes stays = on_test (λ b. P (by_test b)) (e.resting && is_idle e) goes stays

  pub resting_goes : e.resting ≡ true → is_idle e ≡ true → stays_or_goes e ≡ drop
  resting_goes rests idle = ap by_test (and_from e.resting (is_idle e) rests idle)

  pub awake_stays : e.resting ≡ false → stays_or_goes e ≡ put e
  awake_stays awake = ap by_test (and_left e.resting (is_idle e) awake)

  pub busy_stays : is_idle e ≡ false → stays_or_goes e ≡ put e
  busy_stays busy = ap by_test (and_right e.resting (is_idle e) busy)
