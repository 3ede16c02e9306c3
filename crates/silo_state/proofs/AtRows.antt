-- What a change of all rows says of the one row at which it was made.
use Rattle.std.proofs.Common.{◌≡◌, ℕ, Option, refl, ap, sym, ◌∙◌}
use Rattle.std.specs.Prelude.{Result, Ok, Err}
use Rattle.grain_id.specs.Names.{Grain}
use Rattle.grain_storage.specs.declared.row.Row.{Row}
use Rattle.grain_storage.specs.Rows.{Rows, RowFault}
use Rattle.silo_model.specs.Effect.{Change, change_at}
use Rattle.silo_model.specs.Stores.{at_row}

abbrev value_or : {A E : Type 0} → A → Result A E → A
value_or d (Ok x) = x
value_or d (Err e) = d

abbrev fault_or : {A E : Type 0} → E → Result A E → E
fault_or d (Ok x) = d
fault_or d (Err e) = e

pub same_Ok : {A E : Type 0} (r : Result A E) (x y : A) → r ≡ Ok x → r ≡ Ok y → x ≡ y
same_Ok r x y p q = ap (value_or x) (sym p ∙ q)

pub same_Err : {A E : Type 0} (r : Result A E) (x y : E) → r ≡ Err x → r ≡ Err y → x ≡ y
same_Err r x y p q = ap (fault_or x) (sym p ∙ q)

-- The row was changed, and the rows are these then.
pub record DoneAt (rows : Rows) (g : Grain) (r : Result (Option ℕ × Change Row) RowFault) (version : Option ℕ) (after : Rows) : Type 0 where
  pub row : Change Row
  pub answer : r ≡ Ok (version, row)
  pub rows_are : change_at rows g row ≡ after

pub done_at : (rows : Rows) (g : Grain) (r : Result (Option ℕ × Change Row) RowFault) (version : Option ℕ) (after : Rows) → at_row rows g r ≡ Ok (version, after) → DoneAt rows g r version after
done_at rows g (Ok done) version after is =
    let parts = same_Ok (at_row rows g (Ok done)) (done.0, change_at rows g done.1) (version, after) refl is in
    record { row = done.1; answer = λ i. Ok ((parts i).0, done.1); rows_are = ap (λ p. p.1) parts }
done_at rows g (Err why) version after is = absurd cc

pub refused_at : (rows : Rows) (g : Grain) (r : Result (Option ℕ × Change Row) RowFault) (why : RowFault) → at_row rows g r ≡ Err why → r ≡ Err why
refused_at rows g (Ok done) why is = absurd cc
refused_at rows g (Err other) why is = ap Err (same_Err (at_row rows g (Err other)) other why refl is)
