use Rattle.std.proofs.Common.{Some, None, Ok, ap, sym, ◌∙◌, refl}
use Rattle.std.proofs.lemmas.Result.{err_from_is_err_and}
use Rattle.grain_storage.specs.Memory.{rows_of}
use Rattle.grain_storage.proofs.Entries.{get-found, rows_of-updated}
use Rattle.grain_storage.proofs.Changes.{cleared_done, cleared_refused, cleared_absent, cleared_none}
use Rattle.grain_storage.proofs.memory.MemoryStorageGrainStorage.clear.Goals as goal

pub returns-in_err-change : goal.returns-in_err-change
returns-in_err-change c =
    let p = err_from_is_err_and c.from_residual.result c.from_residual.ensures.1 in
    let es = c.self.inside.rows.entries in
    let row = c.in-Some.row.now in
    let found = get-found es c.args.self.now c.self.view_is c.args.grain.now (Some row) c.in-Some.ensures.value in
    let updated = rows_of-updated es c.args.self.now c.self.view_is c.args.grain.now _ c.change.new.row (((c.get_mut.follows.holds c.change.new.row).3 (rw (sym c.in-Some.ensures.value) refl)).0) in
    record { answers = rw (p.1, p.2) (cleared_refused c.args.self.now c.args.grain.now row c.change.new.row _ found updated c.args.expected c.in_err-change.field-0.0 c.in_err-change.ensures) }

pub returns-in-Some : goal.returns-in-Some
returns-in-Some c =
    let es = c.self.inside.rows.entries in
    let row = c.in-Some.row.now in
    let found = get-found es c.args.self.now c.self.view_is c.args.grain.now (Some row) c.in-Some.ensures.value in
    let updated = rows_of-updated es c.args.self.now c.self.view_is c.args.grain.now _ c.change.new.row (((c.get_mut.follows.holds c.change.new.row).3 (rw (sym c.in-Some.ensures.value) refl)).0) in
    record { answers = (cleared_done c.args.self.now c.args.grain.now row c.change.new.row _ found updated c.args.expected c.in_ok-change.field-0 c.in_ok-change.ensures, refl) }

pub returns-then-is_some : goal.returns-then-is_some
returns-then-is_some c =
    let es = c.self.inside.rows.entries in
    let absent = get-found es c.args.self.now c.self.view_is c.args.grain.now _ c.in_default.ensures.value in
    record { answers = (cleared_absent c.args.self.now c.args.grain.now absent c.args.expected (sym c.is_some.ensures ∙ c.if-is_some.true), ap (λ rows. rows_of rows.entries) c.get_mut.follows.holds-at-none ∙ c.self.view_is, refl) }

pub returns : goal.returns
returns c =
    let es = c.self.inside.rows.entries in
    let absent = get-found es c.args.self.now c.self.view_is c.args.grain.now _ c.in_default.ensures.value in
    let same = ap (λ rows. rows_of rows.entries) c.get_mut.follows.holds-at-none ∙ c.self.view_is in
    record { answers = (cleared_none c.args.self.now c.args.grain.now absent c.args.expected (sym c.is_some.ensures ∙ c.if-is_some.false) ∙ ap (λ rows. Ok (None, rows)) (sym same), refl) }
