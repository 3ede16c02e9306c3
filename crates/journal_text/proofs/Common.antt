-- The names that most proofs of this crate cite, passed on from one place. Declares nothing.
pub use Rattle.finite_maps.proofs.Lists.{same_head}
pub use Rattle.finite_maps.proofs.Options.{some_none}
pub use Rattle.grain_id.specs.Names.{Grain, client_text, grain_text, is_grain, same_text}
pub use Rattle.grain_id.specs.Order.{same_text_decides}
unfoldable pub use Rattle.grain_id.specs.Reading.{cut_at}
pub use Rattle.grain_id.specs.Words.{is_name_byte}
unfoldable pub use Rattle.grain_id.specs.Words.{is_word}
pub use Rattle.grain_storage.specs.declared.row.Row.{Row}
pub use Rattle.hex.specs.Hex.{IsBytes}
pub use Rattle.idle_collector.specs.Ages.{Ages}
pub use Rattle.journal_text.specs.FirstFault.{BeginJournal, IsFirstFault}
pub use Rattle.journal_text.specs.Form.{HasMessage, HasState, message_in, newest, state_bytes, state_in, tells_kinds}
unfoldable pub use Rattle.journal_text.specs.Form.{written}
pub use Rattle.journal_text.specs.RecordedFault.{CodeAndText, is_text_byte}
unfoldable pub use Rattle.journal_text.specs.RecordedFault.{is_recorded_fault}
pub use Rattle.journal_text.specs.RecordedReply.{recorded_of}
pub use Rattle.journal_text.specs.Rules.{IsKinds, IsLine, IsOutcome, IsStep, KeepsRulesIn, are_ascending, comes_after}
pub use Rattle.journal_text.specs.Text.{History, body, history_of, journal_text, kind_line, kinds_lines, line_text, lines_text, row_line, start_lines, tenant_line, text_in}
unfoldable pub use Rattle.journal_text.specs.Text.{journal_lines}
pub use Rattle.journal_text.specs.declared.fault.LineFault.{LineFault}
pub use Rattle.journal_text.specs.declared.form.Form.{Form}
pub use Rattle.journal_text.specs.declared.line.Line.{Line}
pub use Rattle.journal_text.specs.declared.recorded.RecordedReply.{RecordedReply}
pub use Rattle.journal_text.specs.inside.Answers.{AreKinds, BeginsWithLine, ReadsRest}
pub use Rattle.journal_text.specs.inside.Candidates.{only_if}
unfoldable pub use Rattle.journal_text.specs.inside.Candidates.{candidate_of, wide_of}
pub use Rattle.journal_text.specs.inside.Draft.{IsDraft, are_kinds_ascending, close_fits, has_tenant, is_empty, kind_after, last_key, lines_so_far}
unfoldable pub use Rattle.journal_text.specs.inside.Draft.{added}
pub use Rattle.journal_text.specs.inside.Sides.{lines_before}
pub use Rattle.request_codec.specs.Call.{Call}
pub use Rattle.request_codec.specs.Tree.{Tree}
pub use Rattle.silo_event.specs.declared.step.Step.{Step}
pub use Rattle.std.proofs.Common.{All, Bool, List, None, Option, Some, [], ap, arith, cond, drop, eqb, false, inl, inr, leb, length, lit<, lt-ltb, ltb, ltb-true, map, not, refl, string_bytes, subst, suc, sym, take, true, true≢false, zero, ℕ, ◌&&◌, ◌++◌, ◌+◌, ◌<◌, ◌^◌, ◌∙◌, ◌∷◌, ◌≡◌, ◌≤◌}
pub use Rattle.std.proofs.lemmas.Bool.{and_from, cases_lt, le-leb, leb-true}
pub use Rattle.std.proofs.lemmas.List.{append-nil, append_assoc, length-append, map-append, take-append-drop}
pub use Rattle.std.proofs.lemmas.List.Elements.{All-cons, All-head, All-nil, All-push, All-tail, All-weaker}
pub use Rattle.std.proofs.lemmas.List.Sums.{list_all-from_AllPass}
pub use Rattle.std.proofs.lemmas.Option.{same_Some}
pub use Rattle.std.proofs.lemmas.Result.{on_ok_weaker}
pub use Rattle.std.specs.Cmp.{first_so, second_so}
pub use Rattle.std.specs.List.{list_all, list_any}
pub use Rattle.std.specs.Prelude.{IfSome, IsTrue, codes, decimal, option_and_then}
pub use Rattle.tenant_gate.specs.Age.{IsAge}
pub use Rattle.tenant_gate.specs.Table.{Table, are_in_range, first_repeat, names_of}
pub use Rattle.tenant_gate.specs.declared.limits.Limits.{Limits}
