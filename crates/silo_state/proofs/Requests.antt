-- Marked requests: the marks are kept, and the turn rule of the mailbox is that of the entry.
use Rattle.std.proofs.Common.{◌≡◌, ℕ, ◌==◌, List, [], ◌∷◌, Some, None, refl, sym, ◌∙◌}
use Rattle.std.specs.Prelude.{if◌then◌else◌}
use Rattle.std.specs.Cmp.{nat_cmp_total}
use Rattle.std.specs.List.{list_all, AllByRecursion}
use Rattle.std.specs.FinMap as map
use Rattle.std.specs.FinMap.{FinMap, nat_cmp-IsAntisymmetric}
use Rattle.grain_id.specs.Names.{Grain, grain_cmp}
use Rattle.grain_id.proofs.Order.{grain_cmp_total, grain_cmp_exact}
use Rattle.grain_logic.specs.Logic.{Logic}
use Rattle.turn_mailbox.specs.declared.request.Request.{Request}
use Rattle.turn_mailbox.specs.Contents.{Contents, begun, may_open}
use Rattle.finite_maps.proofs.Values.{values_alike}
use Rattle.finite_maps.proofs.Mapped.{all-mapped, len-mapped}
use Rattle.activation_directory.specs.declared.activation.Activation.{Activation}
use Rattle.silo_model.specs.Effect.{put, drop}
use Rattle.silo_model.specs.Turns as model
use Rattle.silo_model.specs.Turns.{reads}
use Rattle.silo_model.proofs.Changes.{changed_all}
use Rattle.silo_state.specs.Shown.{request_of, entry_of}
use Rattle.silo_state.specs.Marks.{IsMarked, AreMarked, AllMarked}

-- ---- the marks are kept

module _ (logic : Logic) where
  pub none_marked : AllMarked logic map.empty
  none_marked g a found = absurd (let none : map.get (map.empty {X = Activation} {R = grain_cmp}) g ≡ None = map.get-empty grain_cmp g in cc (none, found))

  pub marked-put : (m : FinMap grain_cmp Activation) (g : Grain) (a : Activation) → AllMarked logic m → AreMarked logic g a.mailbox → AllMarked logic (map.insert m g a)
  marked-put m g a all marked = changed_all grain_cmp_total grain_cmp_exact (λ q b. AreMarked logic q b.mailbox) m (Some g) (put a) all marked

  pub marked-removed : (m : FinMap grain_cmp Activation) (g : Grain) → AllMarked logic m → AllMarked logic (map.remove m g)
  marked-removed m g all = changed_all grain_cmp_total grain_cmp_exact (λ q b. AreMarked logic q b.mailbox) m (Some g) drop all tt

  pub marked-begun : (g : Grain) (mail : Contents) (waiting : List Request) → AllByRecursion (IsMarked logic g) waiting → AreMarked logic g mail → AreMarked logic g (begun mail waiting)
  marked-begun g mail [] all marked = marked
  marked-begun g mail (first ∷ others) all marked = record {
    known = marked.known;
    waiting = all.1;
    opened = changed_all nat_cmp_total nat_cmp-IsAntisymmetric (λ n r. IsMarked logic g r) mail.opened (Some first.number) (put first) marked.opened all.0;
    numbered = changed_all nat_cmp_total nat_cmp-IsAntisymmetric (λ n r. r.number ≡ n) mail.opened (Some first.number) (put first) marked.numbered refl;
  }

  -- by a turn that closes
  pub marked-closed : (g : Grain) (mail : Contents) (number : ℕ) → AreMarked logic g mail → AreMarked logic g (record mail { opened = map.remove mail.opened number })
  marked-closed g mail number marked = record {
    known = marked.known;
    waiting = marked.waiting;
    opened = changed_all nat_cmp_total nat_cmp-IsAntisymmetric (λ n r. IsMarked logic g r) mail.opened (Some number) drop marked.opened tt;
    numbered = changed_all nat_cmp_total nat_cmp-IsAntisymmetric (λ n r. r.number ≡ n) mail.opened (Some number) drop marked.numbered tt;
  }

-- ---- the turn rule

module _ (logic : Logic) (g : Grain) (a : Activation) (marked : AreMarked logic g a.mailbox) where
  all_read : list_all (λ turn. turn.reading) (map.values a.mailbox.opened) ≡ list_all (reads logic g) (map.values (entry_of a).turns)
  all_read =
      values_alike nat_cmp_total (λ (turn : Request). turn.reading) (λ turn. reads logic g (request_of turn)) a.mailbox.opened marked.opened
      ∙ sym (all-mapped nat_cmp_total nat_cmp-IsAntisymmetric request_of (reads logic g) a.mailbox.opened)

  -- a request may begin by its mark exactly if it may by the logic
  pub may_open-marked : (request : Request) → IsMarked logic g request → may_open a.mailbox.opened request ≡ model.may_open logic g (entry_of a) (request_of request)
  may_open-marked request mark =
      λ i. if mark i then all_read i else (sym (len-mapped nat_cmp_total nat_cmp-IsAntisymmetric request_of a.mailbox.opened) i == 0)
