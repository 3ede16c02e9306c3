-- What a poke and a Store do to a row.
use Rattle.silo_model.proofs.Common.{if◌then◌else◌, ◌++◌, ◌+◌, ◌∙◌, ◌∷◌, ◌≡◌, Change, Client, Entries, Entry, Err, Fault, Grain, List}
use Rattle.silo_model.proofs.Common.{Logic, None, Ok, Option, Plan, Request, Result, Row, RowFault, Some, StateChanged, StorageCall, Store}
use Rattle.silo_model.proofs.Common.{Tree, Whole, ℕ, [], ap, change_at, clears_row, closed_entry, content_or, ends_activation, eq-eqb}
use Rattle.silo_model.proofs.Common.{false, get-insert_same, grain_cmp, grain_cmp_exact, grain_cmp_total, keep, not, plan_of, put}
use Rattle.silo_model.proofs.Common.{reads_row, refl, reply_to, row_changed, row_written, same, spent, stale, stays_or_goes, stored_by}
use Rattle.silo_model.proofs.Common.{told, true, version_of, version_value, whole_step, writes_row}
use Rattle.std.specs.FinMap as map
use Rattle.finite_maps.proofs.Maps.{get-remove_same}
use Rattle.grain_storage.specs.Rows.{changed, is_spent, is_stale, next_version}
use Rattle.silo_event.specs.Fault.{fault_code}
use Rattle.silo_event.specs.declared.reply.Party.TheVariants as party
use Rattle.silo_model.specs.Stores.{next_row, row_cleared, row_emptied}
use Rattle.silo_model.proofs.AskSteps.{poke_done}
use Rattle.silo_model.proofs.Leaving.{awake_stays}
use Rattle.silo_model.proofs.TurnSteps.{seen_at, store_changed, store_read, store_stale}
use Rattle.silo_laws.specs.Rows.{Changes, ClearingEmpties, IsAsking, IsEnded, IsStored, PokeIsStored, ReloadReads, StaleStoreEnds}
use Rattle.silo_laws.specs.Rows.{WriteIsStored, by_clearing, by_write, one_on, row_without, told_version}

-- ---- versions

next_is : (row : Option Row) → next_version row ≡ one_on row
next_is None = refl
next_is (Some row) = refl

told_is : (version : Option ℕ) → version_value version ≡ told_version version
told_is None = refl
told_is (Some v) = refl

-- the row's own version isn't stale
own_version : (row : Option Row) → is_stale (version_of row) row ≡ false
own_version None = refl
own_version (Some row) = ap not (eq-eqb row.version row.version refl)

-- a change is done where the version is the row's and another comes after it
may_change : {A : Type 0} (expected : Option ℕ) (found : Option Row) (done : A) → is_stale expected found ≡ false → is_spent found ≡ false → changed expected found done ≡ Ok done
may_change expected found done fresh unspent =
    ap (λ b. if b then Err (stale (version_of found)) else if is_spent found then Err spent else Ok done) fresh
    ∙ ap (λ b. if b then Err spent else Ok done) unspent

is_stale_then : {A : Type 0} (expected : Option ℕ) (found : Option Row) (done : A) → is_stale expected found ≡ true → changed expected found done ≡ Err (stale (version_of found))
is_stale_then expected found done old = ap (λ b. if b then Err (stale (version_of found)) else if is_spent found then Err spent else Ok done) old

put_there : {X : Type 0} (m : map.FinMap grain_cmp X) (g : Grain) (x : X) → map.get (map.insert m g x) g ≡ Some x
put_there m g x = get-insert_same grain_cmp_total grain_cmp_exact m g x

-- a row one version on
one_row : (row : Option Row) (content : Option Tree) → ◌≡◌ {A = Row} (next_row row content) (record { version = one_on row; content = content })
one_row row content = λ i. record { version = next_is row i; content = content }

-- ---- pokes

pub poke_is_stored : PokeIsStored
poke_is_stored logic w caller id g state a known own knows unspent =
    let row = map.get w.rows g in (
      _,
      poke_done logic w caller id g state false a known own knows (Some (next_version row)) (put (next_row row (Some state))) refl
          (may_change (version_of row) row _ (own_version row) unspent),
      record {
        row = put_there w.rows g (next_row row (Some state)) ∙ ap Some (one_row row (Some state));
        entries = refl;
        replies = ap (λ v. w.replies ++ told (party.Client caller id) (Ok (told_version (Some v)))) (next_is row);
      },
    )

-- ---- stores

module _ (logic : Logic) (w : Whole) (g : Grain) (turn : ℕ) (call : StorageCall) (state : Tree) (version : Option ℕ) (caller : Client) (id : ℕ)
    (asking : IsAsking logic w g turn call state version caller id) where
  abbrev plan : Plan
  plan = plan_of logic g state asking.request

  told_client : (outcome : Result Tree Fault) → w.replies ++ reply_to asking.request.sender outcome ≡ w.replies ++ told (party.Client caller id) outcome
  told_client outcome = ap (λ p. w.replies ++ reply_to p outcome) asking.sender

  -- an entry that doesn't rest stays, ready with this state on this version
  abbrev left : Tree → Option ℕ → Entry
  left new at = closed_entry w.clock asking.entry asking.request new at same

  stays_there : (new : Tree) (at : Option ℕ) → map.get (change_at w.entries g (stays_or_goes (left new at))) g ≡ Some (left new at)
  stays_there new at = ap (λ c. map.get (change_at w.entries g c) g) (awake_stays (left new at) asking.awake) ∙ put_there w.entries g (left new at)

  stored_so : (after : Whole) (new : Tree) (row : Option Row) → after.entries ≡ change_at w.entries g (stays_or_goes (left new (version_of row))) → map.get after.rows g ≡ row
      → after.replies ≡ w.replies ++ reply_to asking.request.sender (Ok (version_value (version_of row))) → IsStored w after g caller id new row
  stored_so after new row entries is replies = record {
    entry = left new (version_of row);
    found = ap (λ m. map.get m g) entries ∙ stays_there new (version_of row);
    phase = refl;
    row_is = is;
    replies = replies ∙ told_client (Ok (version_value (version_of row))) ∙ ap (λ v. w.replies ++ told (party.Client caller id) (Ok v)) (told_is (version_of row));
  }

  -- a change of the row that is done
  changed_so : (new : Tree) (r : Result (Option ℕ × Change Row) RowFault) (row : Option Row) (change : Change Row) → stored_by logic (seen_at w g) g asking.entry asking.request state version call ≡ Some (row_changed (seen_at w g) g asking.entry asking.request state version new r)
      → r ≡ Ok (version_of row, change) → map.get (change_at w.rows g change) g ≡ row
      → (after : Whole) × (whole_step logic w (Store g turn false) ≡ Some after) × IsStored w after g caller id new row
  changed_so new r row change changes is left_row =
      let step = store_changed logic w g turn asking.entry asking.found asking.request asking.open_turn state version asking.phase plan refl call asking.asks new r changes (version_of row) change is in
      (_, step, stored_so _ new row refl left_row refl)

pub write_is_stored : WriteIsStored
write_is_stored logic w g turn state version caller id asking fresh unspent =
    let row = map.get w.rows g in
    changed_so logic w g turn writes_row state version caller id asking state (row_written version row state)
    (Some (record { version = one_on row; content = Some state }))
    (put (next_row row (Some state)))
    refl
    (may_change version row _ fresh unspent ∙ ap (λ v. Ok (Some v, put (next_row row (Some state)))) (next_is row))
    (put_there w.rows g (next_row row (Some state)) ∙ ap Some (one_row row (Some state)))

module _ (logic : Logic) (w : Whole) (g : Grain) (turn : ℕ) (state : Tree) (version : Option ℕ) (caller : Client) (id : ℕ)
    (asking : IsAsking logic w g turn clears_row state version caller id) where
  cleared_by : (row : Option Row) → map.get w.rows g ≡ row → is_stale version (map.get w.rows g) ≡ false → is_spent (map.get w.rows g) ≡ false
      → (after : Whole) × (whole_step logic w (Store g turn false) ≡ Some after) × IsStored w after g caller id (logic.empty g.kind) (row_without row)
  cleared_by None is fresh unspent =
      changed_so logic w g turn clears_row state version caller id asking (logic.empty g.kind) (row_cleared version (map.get w.rows g)) None keep refl
      (may_change version (map.get w.rows g) _ fresh unspent ∙ ap (λ r. Ok (row_emptied r)) is) is
  cleared_by (Some row) is fresh unspent =
      let new : Row = record { version = row.version + 1; content = None } in
      changed_so logic w g turn clears_row state version caller id asking (logic.empty g.kind) (row_cleared version (map.get w.rows g)) (Some new) (put new) refl
      (may_change version (map.get w.rows g) _ fresh unspent ∙ ap (λ r. Ok (row_emptied r)) is) (put_there w.rows g new)

pub clearing_empties : ClearingEmpties
clearing_empties logic w g turn state version caller id asking fresh unspent =
    cleared_by logic w g turn state version caller id asking (map.get w.rows g) refl fresh unspent

pub reload_reads : ReloadReads
reload_reads logic w g turn state version caller id asking =
    let row = map.get w.rows g in
    let step = store_read logic w g turn asking.entry asking.found asking.request asking.open_turn state version asking.phase (plan_of logic g state asking.request) refl asking.asks in
    (_, step, stored_so logic w g turn reads_row state version caller id asking _ (content_or (logic.empty g.kind) row) row refl refl refl)

-- ---- a store that finds another row

module _ (logic : Logic) (w : Whole) (g : Grain) (turn : ℕ) (state : Tree) (version : Option ℕ) (caller : Client) (id : ℕ) where
  ended_so : (entries : Entries) (e : Entry) (q : Request) (queue : List Request) (after : Whole) → after.entries ≡ change_at entries g (ends_activation e q queue) → e.queue ≡ queue → IsEnded after g queue
  ended_so entries e q [] after is queue = ap (λ m. map.get m g) is ∙ get-remove_same grain_cmp_total grain_cmp_exact entries g
  ended_so entries e q (first ∷ others) after is queue = (_, ap (λ m. map.get m g) is ∙ put_there entries g _, refl, queue)

  stale_by : (call : StorageCall) (asking : IsAsking logic w g turn call state version caller id) (new : Tree) (r : Result (Option ℕ × Change Row) RowFault)
      → stored_by logic (seen_at w g) g asking.entry asking.request state version call ≡ Some (row_changed (seen_at w g) g asking.entry asking.request state version new r)
      → r ≡ Err (stale (version_of (map.get w.rows g)))
      → (after : Whole) × (why : Fault) × (whole_step logic w (Store g turn false) ≡ Some after)
      × IsEnded after g asking.entry.queue × (after.rows ≡ w.rows) × (fault_code why ≡ 54)
      × (after.replies ≡ w.replies ++ told (party.Client caller id) (Err why))
  stale_by call asking new r changes is =
      let step = store_stale logic w g turn asking.entry asking.found asking.request asking.open_turn state version asking.phase (plan_of logic g state asking.request) refl call asking.asks new r changes (version_of (map.get w.rows g)) is in
      let after : Whole = record w { entries = change_at w.entries g (ends_activation asking.entry asking.request asking.entry.queue); replies = w.replies ++ reply_to asking.request.sender (Err (StateChanged g)) } in (
        after,
        StateChanged g,
        step,
        ended_so w.entries asking.entry asking.request asking.entry.queue after refl refl,
        refl,
        refl,
        told_client logic w g turn call state version caller id asking (Err (StateChanged g)),
      )

pub stale_store_ends : StaleStoreEnds
stale_store_ends logic w g turn call state version caller id asking changes old = by_call call changes asking
  where
    by_call : (c : StorageCall) → Changes c → (asks : IsAsking logic w g turn c state version caller id)
        → (after : Whole) × (why : Fault) × (whole_step logic w (Store g turn false) ≡ Some after)
        × IsEnded after g asks.entry.queue × (after.rows ≡ w.rows) × (fault_code why ≡ 54)
        × (after.replies ≡ w.replies ++ told (party.Client caller id) (Err why))
    by_call _ by_write asks =
        stale_by logic w g turn state version caller id writes_row asks state (row_written version (map.get w.rows g) state) refl (is_stale_then version (map.get w.rows g) _ old)
    by_call _ by_clearing asks =
        stale_by logic w g turn state version caller id clears_row asks (logic.empty g.kind) (row_cleared version (map.get w.rows g)) refl (is_stale_then version (map.get w.rows g) _ old)
