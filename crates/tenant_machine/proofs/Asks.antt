-- What a client's line that is refused, a status and a poke come to, and the steps of nobody, as steps of the machine.
use Rattle.silo_model.proofs.Common.{◌++◌, ◌∙◌, ◌≡◌, Account, Bool, Client, Err, Fault, Grain, Logic, Machine, None, Ok, Option, Poke, Refuse, Result, Rows, Some, Status, StorageFailed, Sweep, Tick, Tree, ap, applied, context_at, effect_of, false, if◌then◌else◌, kept_entries, kind_age, machine_step, nat_le, poke_settled, poked, refl, row_poked, row_told, spent, sym, told, true, ℕ}
use Rattle.std.specs.FinMap as map
use Rattle.silo_event.specs.Fault.{refusal_fault}
use Rattle.silo_event.specs.declared.refusal.Refusal.{Refusal}
use Rattle.silo_event.specs.declared.reply.Party.TheVariants as party
use Rattle.silo_model.specs.Asks.{status_told}
use Rattle.silo_model.proofs.Stored.{stores_at_one_row}
use Rattle.silo_state.specs.Verdicts.{Settles}
use Rattle.silo_state.proofs.AtRows.{done_at, refused_at}
use Rattle.tenant_machine.specs.inside.Requests.{seen_at, gated, with_told, status_outcome, Overwrites}

module _ (logic : Logic) (m : Machine) where
  -- ---- steps of nobody

  pub tick_on : (now : ℕ) → nat_le m.clock now ≡ true → machine_step logic m (Tick now) ≡ Some (record m { clock = now })
  unfolding machine_step
  tick_on now on = ap (λ b. if b then Some (record m { clock = now }) else None) on

  pub tick_back : (now : ℕ) → nat_le m.clock now ≡ false → machine_step logic m (Tick now) ≡ None
  unfolding machine_step
  tick_back now back = ap (λ b. if b then Some (record m { clock = now }) else None) back

  pub sweep_is : machine_step logic m Sweep ≡ Some (record m { entries = kept_entries m.clock (kind_age m.ages m.age) m.entries })
  unfolding machine_step
  sweep_is = refl

  -- ---- steps that only tell

  module _ (caller : Client) (id : ℕ) where
    pub refuse_is : (code : Refusal) → machine_step logic m (Refuse caller id code) ≡ Some (with_told m (party.Client caller id) (Err (refusal_fault code)))
    unfolding machine_step effect_of applied
    refuse_is code = refl

    status_by : (account : Option Account) → applied m None (status_told (context_at m None) (party.Client caller id) account) ≡ with_told m (party.Client caller id) (status_outcome m account)
    unfolding applied context_at
    status_by None = refl
    status_by (Some a) = refl

    pub status_is : machine_step logic m (Status caller id) ≡ Some (with_told m (party.Client caller id) (status_outcome m m.account))
    unfolding machine_step effect_of context_at
    status_is = ap Some (status_by m.account)

    -- ---- pokes

    module _ (g : Grain) (state : Tree) (failed : Bool) where
      abbrev poke_said : Result Account Fault → Machine
      poke_said r = applied m (Some g) (poke_settled (seen_at m g) (party.Client caller id) g state failed r)

      poke_is : machine_step logic m (Poke failed caller id g state) ≡ Some (poke_said (gated logic m g))
      unfolding machine_step effect_of context_at poked
      poke_is = refl

      stopped_said : (why : Fault) → poke_said (Err why) ≡ with_told m (party.Client caller id) (Err why)
      unfolding applied
      stopped_said why = refl

      pub poke_stopped : (why : Fault) → gated logic m g ≡ Err why → machine_step logic m (Poke failed caller id g state) ≡ Some (with_told m (party.Client caller id) (Err why))
      poke_stopped why is = poke_is ∙ ap (λ r. Some (poke_said r)) is ∙ ap Some (stopped_said why)

      failed_said : (a : Account) → failed ≡ true → poke_said (Ok a) ≡ with_told m (party.Client caller id) (Err StorageFailed)
      unfolding applied
      failed_said a is = ap (λ b. applied m (Some g) (poke_settled (seen_at m g) (party.Client caller id) g state b (Ok a))) is

      pub poke_marked : Settles (gated logic m g) None → failed ≡ true → machine_step logic m (Poke failed caller id g state) ≡ Some (with_told m (party.Client caller id) (Err StorageFailed))
      poke_marked passes is = poke_is ∙ ap (λ r. Some (poke_said r)) passes.1 ∙ ap Some (failed_said passes.0 is)

      row_said : (a : Account) → failed ≡ false → poke_said (Ok a) ≡ applied m (Some g) (row_told (party.Client caller id) g (row_poked (map.get m.rows g) state))
      row_said a is = ap (λ b. applied m (Some g) (poke_settled (seen_at m g) (party.Client caller id) g state b (Ok a))) is

      stored_by : (outcome : Result Tree Fault) (rows : Rows) → Overwrites m.rows g state outcome rows
          → applied m (Some g) (row_told (party.Client caller id) g (row_poked (map.get m.rows g) state)) ≡ record m { rows = rows; replies = m.replies ++ told (party.Client caller id) outcome }
      unfolding applied
      stored_by (Ok said) rows o =
          let done = done_at m.rows g (row_poked (map.get m.rows g) state) o.0 rows (sym (stores_at_one_row.pokes m.rows g state) ∙ o.1) in
          ap (λ r. applied m (Some g) (row_told (party.Client caller id) g r)) done.answer
          ∙ (λ i. record m { rows = done.rows_are i; replies = m.replies ++ told (party.Client caller id) (Ok (sym o.2 i)) })
      stored_by (Err why) rows o =
          ap (λ r. applied m (Some g) (row_told (party.Client caller id) g r)) (refused_at m.rows g (row_poked (map.get m.rows g) state) spent (sym (stores_at_one_row.pokes m.rows g state) ∙ o.0))
          ∙ (λ i. record m { rows = sym o.2 i; replies = m.replies ++ told (party.Client caller id) (Err (sym o.1 i)) })

      pub poke_stored : Settles (gated logic m g) None → failed ≡ false → (outcome : Result Tree Fault) (rows : Rows) → Overwrites m.rows g state outcome rows
          → machine_step logic m (Poke failed caller id g state) ≡ Some (record m { rows = rows; replies = m.replies ++ told (party.Client caller id) outcome })
      poke_stored passes is outcome rows o = poke_is ∙ ap (λ r. Some (poke_said r)) passes.1 ∙ ap Some (row_said passes.0 is ∙ stored_by outcome rows o)
