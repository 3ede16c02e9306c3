-- Two turns that only read are open together.
use Rattle.silo_model.proofs.Common.{if◌then◌else◌, ◌&&◌, ◌==◌, ◌∙◌, ◌∷◌, ◌≡◌, ◌≢◌, Entry, Grain, List, Logic, Request, Some, Whole, ap}
use Rattle.silo_model.proofs.Common.{cond, entries-none, eq_by_cmp, false_from_ne_true, get-insert_same, grain_cmp_exact, grain_cmp_total}
use Rattle.silo_model.proofs.Common.{list_all, map_list, may_open, nat_cmp, nat_cmp-IsAntisymmetric, nat_cmp_total, reads, refl, true}
use Rattle.std.specs.FinMap as map
use Rattle.std.specs.FinMap.Entries.{put}
use Rattle.silo_model.specs.Readers.{ReadersTogether}
use Rattle.silo_model.proofs.Fair.{may_open_alone, same_number}
use Rattle.silo_model.proofs.TurnMaps.{Turns}
use Rattle.silo_model.proofs.EntrySteps.{begin_first}

module _ (logic : Logic) (grain : Grain) where
  -- the only open turn only reads
  all_of_one : (turns : Turns) (request : Request) → map.len turns ≡ 0 → reads logic grain request ≡ true → list_all (reads logic grain) (map.values (map.insert turns request.number request)) ≡ true
  all_of_one turns request none is =
      ap (λ es. list_all (reads logic grain) (map_list (λ d. d.1) es)) (map.entries-insert nat_cmp_total turns request.number request ∙ ap (put nat_cmp request.number request) (entries-none turns none))
      ∙ ap (λ b. b && true) is

  -- one that only reads may be open beside it
  may_open_beside : (e : Entry) (first second : Request) (others : List Request) → map.len e.turns ≡ 0 → reads logic grain first ≡ true → reads logic grain second ≡ true
      → may_open logic grain (record e { queue = second ∷ others; turns = map.insert e.turns first.number first }) second ≡ true
  may_open_beside e first second others none first_reads second_reads =
      ap (λ b. if b then list_all (reads logic grain) (map.values (map.insert e.turns first.number first)) else map.len (map.insert e.turns first.number first) == 0) second_reads
      ∙ all_of_one e.turns first none first_reads

-- a turn is open beside one that has another number
open_beside : (turns : Turns) (first second : Request) → first.number ≢ second.number → map.get (map.insert (map.insert turns first.number first) second.number second) first.number ≡ Some first
open_beside turns first second apart =
    map.get-insert nat_cmp_total (map.insert turns first.number first) second.number second first.number
    ∙ ap (λ b. cond b (Some second) (map.get (map.insert turns first.number first) first.number)) (false_from_ne_true (eq_by_cmp nat_cmp first.number second.number) (λ tied. apart (same_number first.number second.number tied)))
    ∙ get-insert_same nat_cmp_total nat_cmp-IsAntisymmetric turns first.number first

pub readers_together : ReadersTogether
readers_together logic w grain first second state waiting =
    let e = waiting.entry in
    let with_first : Entry = record e { queue = second ∷ waiting.others; turns = map.insert e.turns first.number first } in
    let with_both : Entry = record with_first { queue = waiting.others; turns = map.insert with_first.turns second.number second } in
    let one : Whole = record w { entries = map.insert w.entries grain with_first } in
    let both : Whole = record one { entries = map.insert one.entries grain with_both } in (
      one,
      both,
      begin_first logic w grain e waiting.found state waiting.version first (second ∷ waiting.others) waiting.phase waiting.queue (may_open_alone logic grain e first waiting.none_open),
      begin_first logic one grain with_first (get-insert_same grain_cmp_total grain_cmp_exact w.entries grain with_first) state waiting.version second waiting.others waiting.phase refl
          (may_open_beside logic grain e first second waiting.others waiting.none_open waiting.first_reads waiting.second_reads),
      record {
        entry = with_both;
        version = waiting.version;
        found = get-insert_same grain_cmp_total grain_cmp_exact one.entries grain with_both;
        phase = waiting.phase;
        first_open = open_beside e.turns first second waiting.apart;
        second_open = get-insert_same nat_cmp_total nat_cmp-IsAntisymmetric with_first.turns second.number second;
      },
    )
