-- The names that most proofs over the model cite, passed on from one place. Declares nothing.
pub use Rattle.std.proofs.Common.{◌++◌, ◌+◌, ◌<◌, ◌==◌, ◌∙◌, ◌∷◌, ◌≡◌, ◌≢◌, ◌≤◌, Bool, List, None, Option, Some, [], ap, append_assoc}
pub use Rattle.std.proofs.Common.{arith, cond, false, inl, inr, length, refl, subst, suc, sym, true, true≢false, unwrap_or, zero, ℕ}
pub use Rattle.std.proofs.lemmas.Bool.{and_from, and_parts, and_right, eq-eqb, eqb-true, false_from_ne_true, lt-ltb, not-true, or_parts}
pub use Rattle.std.proofs.lemmas.Bool.{or_right}
pub use Rattle.std.proofs.lemmas.List.{append-nil, length-append, nil_from_length}
pub use Rattle.std.proofs.lemmas.List.Elements.{All-from_recursion}
pub use Rattle.std.proofs.lemmas.List.Folds.{list_any-append}
pub use Rattle.std.proofs.lemmas.List.Sums.{sum_by-append, sum_by-cons}
pub use Rattle.std.proofs.lemmas.Option.{none-some, same_Some}
pub use Rattle.std.specs.Bool.{Decides}
pub use Rattle.std.specs.Borrow.{Bor}
pub use Rattle.std.specs.Cmp.{Equal-is, IsTotalOrder, nat_cmp_total, tied_itself}
pub use Rattle.std.specs.FinMap.{FinMap, IsAntisymmetric, nat_cmp-IsAntisymmetric}
pub use Rattle.std.specs.List.{AllByRecursion, list_all, list_any}
pub use Rattle.std.specs.Option.{option_cmp}
pub use Rattle.std.specs.Ordering.{eq_by_cmp, nat_cmp}
pub use Rattle.std.specs.Prelude.{if◌then◌else◌, ◌&&◌, ◌||◌, ◌⊎◌, Err, Ok, Result, filter, flat_map, is_some, map as map_list, nat_eq}
pub use Rattle.std.specs.Prelude.{nat_le, nat_lt, not, option_and_then, option_map, sum_by, ℤ}
pub use Rattle.std.specs.declared.cmp.Ordering.{Ordering}
pub use Rattle.std.specs.declared.cmp.Ordering.TheVariants.{Less}
pub use Rattle.finite_maps.proofs.Lists.{all_weaker, same_head, same_tail}
pub use Rattle.finite_maps.proofs.Maps.{entries-none, get-insert_same, get-none}
pub use Rattle.finite_maps.proofs.Options.{is_some-option_map, none_from_option_map, some_from_and_then, some_if_passes}
pub use Rattle.finite_maps.proofs.Sums.{sum_alike, sum_flat}
pub use Rattle.finite_maps.proofs.Totals.{at, total, total-none, total-remove}
pub use Rattle.finite_maps.proofs.Values.{found_passes}
pub use Rattle.grain_id.proofs.ByGrain.{get-part}
pub use Rattle.grain_id.proofs.Keys.{texts}
pub use Rattle.grain_id.proofs.Order.{client_eq_decides, eq_by_cmp-Decides, grain_cmp_exact, grain_cmp_total, grain_eq_decides}
pub use Rattle.grain_id.proofs.Order.{same_text_decides, text_cmp_exact, text_cmp_total}
pub use Rattle.grain_id.specs.Names.{Client, Grain, client_cmp, client_eq, grain_cmp, grain_eq, same_text, text_cmp}
pub use Rattle.request_codec.specs.Tree.{Tree, integer}
pub use Rattle.tenant_gate.specs.Table.{limits_of}
pub use Rattle.tenant_gate.specs.declared.limits.Limits.{Limits}
pub use Rattle.grain_storage.specs.Rows.{RowFault, Rows, content_or, spent, stale, version_of}
pub use Rattle.grain_storage.specs.declared.row.Row.{Row}
pub use Rattle.idle_collector.specs.Ages.{kind_age}
unfoldable pub use Rattle.grain_logic.specs.Counters.{counters}
pub use Rattle.grain_logic.specs.Laws.{ReadersAskNothing}
pub use Rattle.grain_logic.specs.Logic.{Keep, Logic, Outgoing, Plan, StorageCall, asks_nothing, clears_row, reads_row, same, writes_row}
pub use Rattle.silo_event.specs.Asker.{asking_of}
pub use Rattle.silo_event.specs.Failed.{as_failed}
pub use Rattle.silo_event.specs.Owner.{owner_of, tenant_of}
pub use Rattle.silo_event.specs.declared.fault.Fault.{Fault}
pub use Rattle.silo_event.specs.declared.fault.Fault.TheVariants.{AcrossTenants, MailboxFull, NoActivation, NoMemory, NoNumber}
pub use Rattle.silo_event.specs.declared.fault.Fault.TheVariants.{StateChanged, StorageFailed, UnknownKind, UnknownTenant, VersionsSpent}
pub use Rattle.silo_event.specs.declared.reply.Party.{Party}
pub use Rattle.silo_event.specs.declared.reply.Reply.{Reply}
pub use Rattle.silo_event.specs.declared.step.Step.{Step}
pub use Rattle.silo_event.specs.declared.step.Step.TheVariants.{Abandon, Activate, Begin, Call, Deliver, End, Load, Poke, Refuse, Status}
pub use Rattle.silo_event.specs.declared.step.Step.TheVariants.{Store, Sweep, Tick}
pub use Rattle.silo_model.specs.Answers.{AreAnswers}
pub use Rattle.silo_model.specs.Asks.{poke_settled, row_told}
unfoldable pub use Rattle.silo_model.specs.Asks.{poked}
pub use Rattle.silo_model.specs.Calls.{accepted, gate, last_number, reply_to, told, with_request}
unfoldable pub use Rattle.silo_model.specs.Calls.{called}
pub use Rattle.silo_model.specs.Collected.{IsIdle}
pub use Rattle.silo_model.specs.Contexts.{active_of, context_of}
pub use Rattle.silo_model.specs.Effect.{Change, Context, Effect, change_at, change_option, changed_at, drop, keep, on_entry, only_replies}
pub use Rattle.silo_model.specs.Effect.{put}
unfoldable pub use Rattle.silo_model.specs.Effect.{applied, context_at}
pub use Rattle.silo_model.specs.Idle.{due_moment, is_idle, is_kept, is_ready}
unfoldable pub use Rattle.silo_model.specs.Idle.{kept_entries}
pub use Rattle.silo_model.specs.Journal.{LeadsTo, all_done, machine_all_done}
pub use Rattle.silo_model.specs.Machine.{Account, Entries, Entry, Machine, Phase, Request, Send, loading, ready, waiting}
pub use Rattle.silo_model.specs.Opening.{Setup, fresh_account}
unfoldable pub use Rattle.silo_model.specs.Opening.{opening, start_of}
pub use Rattle.silo_model.specs.Pending.{has_pending, is_of_client, sends_of}
pub use Rattle.silo_model.specs.Run.{concerns, concerns_by, done_by, if_possible, machine_run, restricted_to, whole_run}
pub use Rattle.silo_model.specs.Sends.{first_from, first_target}
pub use Rattle.silo_model.specs.Settled.{all_pending, pending_at}
pub use Rattle.silo_model.specs.Step.{grain_of, shared_step}
unfoldable pub use Rattle.silo_model.specs.Step.{effect_of, machine_step}
pub use Rattle.silo_model.specs.Stores.{row_poked, row_written, version_value}
pub use Rattle.silo_model.specs.Todo.{delivery_of, is_among, sender_by}
pub use Rattle.silo_model.specs.Turns.{abandoned_entry, activated, closed, closed_entry, ends_activation, loaded, may_open, opened}
pub use Rattle.silo_model.specs.Turns.{opened_if_ready, outcome_of, plan_of, reads, resting_by, row_changed, stays_or_goes, stored}
pub use Rattle.silo_model.specs.Turns.{stored_by, unloaded, until_by, with_sends}
pub use Rattle.silo_model.specs.Whole.{Whole, is_of, is_to, whole_swept}
unfoldable pub use Rattle.silo_model.specs.Whole.{shown_to, spread, whole_step}
