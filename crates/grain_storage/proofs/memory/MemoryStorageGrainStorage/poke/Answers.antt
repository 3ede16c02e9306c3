use Rattle.std.proofs.Common.{Some, ap, sym, subst, ◌∙◌, refl}
use Rattle.grain_storage.specs.Memory.{rows_of, PutAnswers}
use Rattle.grain_storage.proofs.Entries.{get-found, rows_of-updated}
use Rattle.grain_storage.proofs.Changes.{poked_there, poked_first}
use Rattle.grain_storage.proofs.memory.MemoryStorageGrainStorage.poke.Goals as goal

pub returns-in-Some : goal.returns-in-Some
returns-in-Some c =
    let es = c.self.inside.rows.entries in
    let row = c.in-Some.row.now in
    let found = get-found es c.args.self.now c.self.view_is c.args.grain.now (Some row) c.in-Some.ensures.value in
    let updated = rows_of-updated es c.args.self.now c.self.view_is c.args.grain.now _ c.change.new.row (((c.get_mut.follows.holds c.change.new.row).3 (rw (sym c.in-Some.ensures.value) refl)).0) in
    record { answers = poked_there c.args.self.now c.args.grain.now row c.change.new.row _ found updated c.args.content c.change.result c.change.ensures }

pub insert_first-requires : goal.insert_first-requires
insert_first-requires c =
    let es = c.self.inside.rows.entries in
    get-found es _ (ap (λ rows. rows_of rows.entries) (sym c.get_mut.follows.holds-at-none)) c.args.grain.now _ c.in_default.ensures.value

pub returns : goal.returns
returns c =
    let es = c.self.inside.rows.entries in
    let absent = get-found es c.args.self.now c.self.view_is c.args.grain.now _ c.in_default.ensures.value in
    let same = ap (λ rows. rows_of rows.entries) c.get_mut.follows.holds-at-none ∙ c.self.view_is in
    let first = subst (λ rows. PutAnswers rows c.args.grain.now (Some c.args.content) c.insert_first.result c.insert_first.new.self) same c.insert_first.ensures in
    record { answers = poked_first c.args.self.now c.args.grain.now absent c.args.content c.insert_first.new.self c.insert_first.result first }
