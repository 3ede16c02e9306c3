-- Open turns by number, and the turn rule.
use Rattle.std.proofs.Common.{◌≡◌, ℕ, ◌<◌, Bool, true, false, ◌&&◌, ◌==◌, cond, List, [], ◌∷◌, length, slice_index_or, arith, Option, Some, None, refl, ap, sym, ◌∙◌, true≢false}
use Rattle.std.specs.Ordering.{nat_cmp, eq_by_cmp}
use Rattle.std.specs.Cmp.{nat_cmp_total}
use Rattle.std.specs.List.{list_all}
use Rattle.std.specs.FinMap as map
use Rattle.std.specs.FinMap.{FinMap, nat_cmp-IsAntisymmetric}
use Rattle.std.proofs.lemmas.Bool.Decides.{Decides-eqb}
use Rattle.std.proofs.lemmas.Option.{same_Some}
use Rattle.finite_maps.proofs.Maps.{found_some}
use Rattle.turn_mailbox.specs.declared.request.Request.{Request}
use Rattle.turn_mailbox.specs.Contents.{may_open, front_may_open, KeepsRule}
use Rattle.grain_id.proofs.Order.{eq_by_cmp-Decides}
use Rattle.finite_maps.proofs.Values.{values_pass, found_passes}

abbrev pub Turns : Type 0
Turns = FinMap nat_cmp Request

all_reading : (opened : Turns) → ((n : ℕ) (turn : Request) → map.get opened n ≡ Some turn → turn.reading ≡ true) → list_all (λ turn. turn.reading) (map.values opened) ≡ true
all_reading = values_pass nat_cmp_total (λ turn. turn.reading)

each_reading : (opened : Turns) (n : ℕ) (turn : Request) → map.get opened n ≡ Some turn → list_all (λ turn. turn.reading) (map.values opened) ≡ true → turn.reading ≡ true
each_reading = found_passes (λ turn. turn.reading)

-- ---- what one open turn tells

module _ (opened : Turns) (rule : KeepsRule opened) (n : ℕ) (turn : Request) (found : map.get opened n ≡ Some turn) where
  some_open : (b : Bool) → (map.len opened == 0) ≡ b → false ≡ b
  some_open false e = refl
  some_open true e =
      absurd (found_some opened n turn found ((Decides-eqb (map.len opened) 0).0 e))

  reads_too : (b : Bool) → turn.reading ≡ b → b ≡ true → (k : ℕ) (other : Request) (c : Bool) → map.get opened k ≡ Some other → other.reading ≡ c → c ≡ true
  reads_too b t e k other true at f = refl
  reads_too b t e k other false at f =
      let here : k ≡ n = rule k n other turn at found f in
      let same : other ≡ turn = same_Some other turn (sym at ∙ ap (map.get opened) here ∙ found) in
      sym f ∙ ap (λ (r : Request). r.reading) same ∙ t ∙ e

  all_read : (b : Bool) → turn.reading ≡ b → (c : Bool) → list_all (λ turn. turn.reading) (map.values opened) ≡ c → b ≡ c
  all_read true t true e = refl
  all_read false t false e = refl
  all_read true t false e = absurd (true≢false (sym (all_reading opened (λ k other at. reads_too true t refl k other other.reading at refl)) ∙ e))
  all_read false t true e = absurd (true≢false (sym (each_reading opened n turn found e) ∙ t))

  pub may_open-one : (request : Request) → (if_reads : Bool) → request.reading ≡ if_reads → (if_reads && turn.reading) ≡ may_open opened request
  may_open-one request true e = all_read turn.reading refl _ refl ∙ ap (λ b. cond b (list_all (λ turn. turn.reading) (map.values opened)) (map.len opened == 0)) (sym e)
  may_open-one request false e = some_open (map.len opened == 0) refl ∙ ap (λ b. cond b (list_all (λ turn. turn.reading) (map.values opened)) (map.len opened == 0)) (sym e)

pub may_open-none : (opened : Turns) → opened ≡ map.empty → (request : Request) → (b : Bool) → request.reading ≡ b → true ≡ may_open opened request
may_open-none opened none request true e =
    sym (all_reading opened (λ n turn at. let gone : map.get opened n ≡ None = ap (λ (m : Turns). map.get m n) none ∙ map.get-empty nat_cmp n in absurd (cc (gone, at))))
    ∙ ap (λ b. cond b (list_all (λ turn. turn.reading) (map.values opened)) (map.len opened == 0)) (sym e)
may_open-none opened none request false e =
    sym (ap (λ (m : Turns). map.len m == 0) none ∙ ap (λ n. n == 0) (map.len-empty nat_cmp Request))
    ∙ ap (λ b. cond b (list_all (λ turn. turn.reading) (map.values opened)) (map.len opened == 0)) (sym e)

-- ---- the rule is kept

pub rule-none : KeepsRule map.empty
rule-none n k turn beside at other e = absurd (let none : map.get (map.empty {X = Request} {R = nat_cmp}) n ≡ None = map.get-empty nat_cmp n in cc (none, at))

left_open : (b : Bool) (o : Option Request) (turn : Request) → cond b None o ≡ Some turn → o ≡ Some turn
left_open true o turn e = absurd (cc (e))
left_open false o turn e = e

-- by fewer turns
pub rule-removed : (opened : Turns) (k : ℕ) → KeepsRule opened → KeepsRule (map.remove opened k)
rule-removed opened k rule n m turn beside at other = rule n m turn beside
    (left_open (eq_by_cmp nat_cmp n k) (map.get opened n) turn (sym (map.get-remove nat_cmp_total opened k n) ∙ at))
    (left_open (eq_by_cmp nat_cmp m k) (map.get opened m) beside (sym (map.get-remove nat_cmp_total opened k m) ∙ other))

module _ (opened : Turns) (first : Request) where
  reads_on : first.reading ≡ true → list_all (λ turn. turn.reading) (map.values opened) ≡ true → (n : ℕ) (turn : Request) (b : Bool) → cond b (Some first) (map.get opened n) ≡ Some turn → turn.reading ≡ true
  reads_on reads all n turn true e = ap (λ (r : Request). r.reading) (sym (same_Some first turn e)) ∙ reads
  reads_on reads all n turn false e = each_reading opened n turn e all

  only_first : map.len opened ≡ 0 → (n : ℕ) (turn : Request) (b : Bool) → eq_by_cmp nat_cmp n first.number ≡ b → cond b (Some first) (map.get opened n) ≡ Some turn → n ≡ first.number
  only_first none n turn true t e = (numbers_tied n first.number).0 t
    where
      numbers_tied : (x y : ℕ) → (eq_by_cmp nat_cmp x y ≡ true → x ≡ y) × (x ≡ y → eq_by_cmp nat_cmp x y ≡ true)
      numbers_tied x y = eq_by_cmp-Decides nat_cmp_total nat_cmp-IsAntisymmetric x y
  only_first none n turn false t e = absurd (let gone : map.get opened n ≡ None = ap (λ (m : Turns). map.get m n) (map.empty_of_len opened none) ∙ map.get-empty nat_cmp n in cc (gone, e))

  rule_of : (b : Bool) → first.reading ≡ b → cond b (list_all (λ turn. turn.reading) (map.values opened)) (map.len opened == 0) ≡ true → KeepsRule (map.insert opened first.number first)
  rule_of true reads allowed n m turn beside at other writes =
      absurd (true≢false (sym (reads_on reads allowed n turn (eq_by_cmp nat_cmp n first.number) (sym (map.get-insert nat_cmp_total opened first.number first n) ∙ at)) ∙ writes))
  rule_of false reads allowed n m turn beside at other writes =
      let none = (Decides-eqb (map.len opened) 0).0 allowed in
      only_first none n turn (eq_by_cmp nat_cmp n first.number) refl (sym (map.get-insert nat_cmp_total opened first.number first n) ∙ at)
      ∙ sym (only_first none m beside (eq_by_cmp nat_cmp m first.number) refl (sym (map.get-insert nat_cmp_total opened first.number first m) ∙ other))

  -- by one more that may begin
  pub rule-begun : may_open opened first ≡ true → KeepsRule (map.insert opened first.number first)
  rule-begun = rule_of first.reading refl

-- ---- the first that waits

pub front_of : (opened : Turns) (waiting : List Request) (first : Request) → 0 < length waiting → first ≡ slice_index_or waiting 0 first → may_open opened first ≡ front_may_open opened waiting
front_of opened [] first some e = absurd (omega (arith, some))
front_of opened (w ∷ waiting) first some e = ap (may_open opened) e

pub allowed : (opened : Turns) (waiting rest : List Request) (first : Request) → waiting ≡ first ∷ rest → front_may_open opened waiting ≡ true → may_open opened first ≡ true
allowed opened waiting rest first e may = sym (ap (front_may_open opened) e) ∙ may
