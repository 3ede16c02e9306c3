use Rattle.std.proofs.Common.{List, Option, map, ℕ}
use Rattle.serve_command.specs.Serving.{Outcome}
use Rattle.command_parts.specs.Kept.{WritesFirst}
use Rattle.command_parts.specs.Files.{claims}
use Rattle.command_parts.specs.Setups.{starting, version_of}
use Rattle.std.specs.Prelude.{option_map}
use Rattle.command_parts.proofs.KeptLemmas.{both_kept, has_first, kept_unless, may_fail_again}
use Rattle.serve_command.proofs.ServingLemmas.{first_at_most, first_written, not_begun, not_kept, not_served, not_written, second_at_most}
use Rattle.serve_command.proofs.serving.serve_lines.Goals as goal

pub returns-in-Err-clause-fault : goal.returns-in-Err-clause-fault
returns-in-Err-clause-fault g c =
    let start = starting (version_of g.L.GrainLogic.logic c.args.start.kinds) c.args.start.tenants c.args.start.age c.args.start.ages in
    let files = claims g.F.WholeFiles.may_hold g.F.WholeFiles.may_fail g.F.WholeFiles.may_leave c.args.files.now c.keep_first-first.new.files in
    not_begun start files _ _ _ _ _ c.in-Err.why c.in-Err.ensures.fault

pub returns-in-Err-clause-journal : goal.returns-in-Err-clause-journal
returns-in-Err-clause-journal g c =
    let start = starting (version_of g.L.GrainLogic.logic c.args.start.kinds) c.args.start.tenants c.args.start.age c.args.start.ages in
    let files = claims g.F.WholeFiles.may_hold g.F.WholeFiles.may_fail g.F.WholeFiles.may_leave c.args.files.now c.keep_first-first.new.files in
    first_at_most start files _ _ _ c.keep_first-first.ensures.alone

pub returns-in-Err-serve_reader-clause-fault : goal.returns-in-Err-serve_reader-clause-fault
returns-in-Err-serve_reader-clause-fault g c =
    let start = starting (version_of g.L.GrainLogic.logic c.args.start.kinds) c.args.start.tenants c.args.start.age c.args.start.ages in
    let files = claims g.F.WholeFiles.may_hold g.F.WholeFiles.may_fail g.F.WholeFiles.may_leave c.args.files.now c.keep_first-first.new.files in
    not_served start files _ _ _ _ _ _ (kept_unless _ c.keep_first-first.result c.in_default.not-Err c.keep_first-first.ensures.kept)
    c.in-Err-serve_reader.fault c.cause_of_service.result c.cause_of_service.ensures c.in-Err-serve_reader.ensures.fault

pub returns-in-Err-serve_reader-clause-journal : goal.returns-in-Err-serve_reader-clause-journal
returns-in-Err-serve_reader-clause-journal g c =
    let start = starting (version_of g.L.GrainLogic.logic c.args.start.kinds) c.args.start.tenants c.args.start.age c.args.start.ages in
    let files = claims g.F.WholeFiles.may_hold g.F.WholeFiles.may_fail g.F.WholeFiles.may_leave c.args.files.now c.keep_first-first.new.files in
    first_written start files _ _ _ (kept_unless _ c.keep_first-first.result c.in_default.not-Err c.keep_first-first.ensures.kept)

pub returns-in-Err-kept-clause-fault : goal.returns-in-Err-kept-clause-fault
returns-in-Err-kept-clause-fault g c =
    let files = claims g.F.WholeFiles.may_hold g.F.WholeFiles.may_fail g.F.WholeFiles.may_leave c.args.files.now c.keep_journal-kept.new.files in
    let outcome : Outcome = record { refusals = c.in-Ok.read.served.refusals.items; silo = c.in-Ok.read.served.report.silo; answers = map (λ v. v.items) c.in-Ok.read.served.report.answers.items } in
    let start = starting (version_of g.L.GrainLogic.logic c.args.start.kinds) c.args.start.tenants c.args.start.age c.args.start.ages in
    let started = claims g.F.WholeFiles.may_hold g.F.WholeFiles.may_fail g.F.WholeFiles.may_leave c.args.files.now c.keep_first-first.new.files in
    let path : Option (List ℕ) = option_map (λ text. text.now) c.args.journal in
    let first = kept_unless (WritesFirst start started path) c.keep_first-first.result c.in_default.not-Err c.keep_first-first.ensures.kept in
    not_kept start files _ _ _ _ (g.W.Write.contents c.args.output.now.writer) (g.W.Write.contents c.args.output.now.writer) _ outcome c.in-Ok.ensures.served
    (g.F.WholeFiles.may_fail c.keep_first-first.new.files) c.in-Err-kept.why c.in-Err-kept.ensures.fault
    (may_fail_again g.F.WholeFiles.may_hold g.F.WholeFiles.may_fail g.F.WholeFiles.may_leave start c.args.files.now c.keep_first-first.new.files c.keep_journal-kept.new.files _ (has_first start started path first))

pub returns-in-Err-kept-clause-journal : goal.returns-in-Err-kept-clause-journal
returns-in-Err-kept-clause-journal g c =
    let start = starting (version_of g.L.GrainLogic.logic c.args.start.kinds) c.args.start.tenants c.args.start.age c.args.start.ages in
    let outcome : Outcome = record { refusals = c.in-Ok.read.served.refusals.items; silo = c.in-Ok.read.served.report.silo; answers = map (λ v. v.items) c.in-Ok.read.served.report.answers.items } in
    second_at_most g.F.WholeFiles.may_hold g.F.WholeFiles.may_fail g.F.WholeFiles.may_leave start c.args.files.now c.keep_first-first.new.files c.keep_journal-kept.new.files _ _ _ outcome c.in-Ok.ensures.served
    (kept_unless _ c.keep_first-first.result c.in_default.not-Err c.keep_first-first.ensures.kept) c.keep_journal-kept.ensures.alone

pub returns-in-Ok-written-clause-served : goal.returns-in-Ok-written-clause-served
returns-in-Ok-written-clause-served g c =
    let start = starting (version_of g.L.GrainLogic.logic c.args.start.kinds) c.args.start.tenants c.args.start.age c.args.start.ages in
    let started = claims g.F.WholeFiles.may_hold g.F.WholeFiles.may_fail g.F.WholeFiles.may_leave c.args.files.now c.keep_first-first.new.files in
    let path : Option (List ℕ) = option_map (λ text. text.now) c.args.journal in
    let first = kept_unless (WritesFirst start started path) c.keep_first-first.result c.in_default.not-Err c.keep_first-first.ensures.kept in
    record {
      outcome = record { refusals = c.in-Ok.read.served.refusals.items; silo = c.in-Ok.read.served.report.silo; answers = map (λ v. v.items) c.in-Ok.read.served.report.answers.items };
      served = c.in-Ok.ensures.served;
      kept = both_kept g.F.WholeFiles.may_hold g.F.WholeFiles.may_fail g.F.WholeFiles.may_leave start c.args.files.now c.keep_first-first.new.files c.keep_journal-kept.new.files _ _ (has_first start started path first) c.in-Ok-kept.ensures.kept;
      written = c.in-Ok-written.ensures.written;
      told = c.in-Ok.ensures.told;
    }

pub returns-in-Ok-written-clause-journal : goal.returns-in-Ok-written-clause-journal
returns-in-Ok-written-clause-journal g c =
    let start = starting (version_of g.L.GrainLogic.logic c.args.start.kinds) c.args.start.tenants c.args.start.age c.args.start.ages in
    let outcome : Outcome = record { refusals = c.in-Ok.read.served.refusals.items; silo = c.in-Ok.read.served.report.silo; answers = map (λ v. v.items) c.in-Ok.read.served.report.answers.items } in
    second_at_most g.F.WholeFiles.may_hold g.F.WholeFiles.may_fail g.F.WholeFiles.may_leave start c.args.files.now c.keep_first-first.new.files c.keep_journal-kept.new.files _ _ _ outcome c.in-Ok.ensures.served
    (kept_unless _ c.keep_first-first.result c.in_default.not-Err c.keep_first-first.ensures.kept) c.keep_journal-kept.ensures.alone

pub returns-in-Err-written-clause-fault : goal.returns-in-Err-written-clause-fault
returns-in-Err-written-clause-fault g c =
    let files = claims g.F.WholeFiles.may_hold g.F.WholeFiles.may_fail g.F.WholeFiles.may_leave c.args.files.now c.keep_journal-kept.new.files in
    let outcome : Outcome = record { refusals = c.in-Ok.read.served.refusals.items; silo = c.in-Ok.read.served.report.silo; answers = map (λ v. v.items) c.in-Ok.read.served.report.answers.items } in
    let start = starting (version_of g.L.GrainLogic.logic c.args.start.kinds) c.args.start.tenants c.args.start.age c.args.start.ages in
    let started = claims g.F.WholeFiles.may_hold g.F.WholeFiles.may_fail g.F.WholeFiles.may_leave c.args.files.now c.keep_first-first.new.files in
    let path : Option (List ℕ) = option_map (λ text. text.now) c.args.journal in
    let first = kept_unless (WritesFirst start started path) c.keep_first-first.result c.in_default.not-Err c.keep_first-first.ensures.kept in
    not_written start files _ _ _ _ _ _ _ outcome c.in-Ok.ensures.served c.in-Err-written.why c.cause_of.result c.cause_of.ensures
    (both_kept g.F.WholeFiles.may_hold g.F.WholeFiles.may_fail g.F.WholeFiles.may_leave start c.args.files.now c.keep_first-first.new.files c.keep_journal-kept.new.files _ _ (has_first start started path first) c.in-Ok-kept.ensures.kept)
    c.in-Err-written.ensures.stopped c.in-Err-written.ensures.cause

pub returns-in-Err-written-clause-journal : goal.returns-in-Err-written-clause-journal
returns-in-Err-written-clause-journal g c =
    let start = starting (version_of g.L.GrainLogic.logic c.args.start.kinds) c.args.start.tenants c.args.start.age c.args.start.ages in
    let outcome : Outcome = record { refusals = c.in-Ok.read.served.refusals.items; silo = c.in-Ok.read.served.report.silo; answers = map (λ v. v.items) c.in-Ok.read.served.report.answers.items } in
    second_at_most g.F.WholeFiles.may_hold g.F.WholeFiles.may_fail g.F.WholeFiles.may_leave start c.args.files.now c.keep_first-first.new.files c.keep_journal-kept.new.files _ _ _ outcome c.in-Ok.ensures.served
    (kept_unless _ c.keep_first-first.result c.in_default.not-Err c.keep_first-first.ensures.kept) c.keep_journal-kept.ensures.alone
