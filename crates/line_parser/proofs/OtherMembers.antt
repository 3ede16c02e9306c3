-- An object with a member that no form has is no request.
use Rattle.std.proofs.Common.{◌≡◌, ℕ, ◌-◌, ◌<◌, ◌⊎◌, inl, inr, Bool, true, false, List, [], ◌∷◌, length, Option, Some, None, Ordering, Less, Equal, Greater, option_map, option_and_then, refl, sym, ap, subst, ◌∙◌, arith}
use Rattle.std.specs.Prelude.{codes, if◌then◌else◌}
use Rattle.std.specs.Ordering.{is_eq}
use Rattle.std.proofs.lemmas.Bool.{eqb-true}
use Rattle.std.proofs.lemmas.Map.Lookups.{exact_bytes}
use Rattle.json.specs.Token.{Token}
use Rattle.json.specs.Json as json
use Rattle.json.specs.Json.{Parse, parse_map, read_key, members}
use Rattle.json.proofs.Grammar.{members_fail, members_more}
use Rattle.serde_json.specs.Data.{Data, null, Members, put, object}
use Rattle.serde_json.specs.Events.{members_len}
use Rattle.serde_json.specs.Find.{get_member, as_str}
use Rattle.serde_json.specs.Read.{of_json, of_members, converted}
use Rattle.finite_maps.proofs.Options.{some_from_and_then}
use Rattle.silo_event.specs.declared.step.Step.{Step}
use Rattle.silo_event.specs.declared.step.Step.TheVariants as step
use Rattle.grain_id.specs.Names.{Grain}
use Rattle.line_parser.specs.Form.{where_so, text_at, natural_at, truth_at, grain_at, caller_at, has_members, argument_at, failed_at, call_of, poke_of, status_of, grain_form, load_of, store_of, turn_alone, turn_form, tick_of, sweep_of, form_of, step_of_json}
use Rattle.line_parser.specs.inside.LineMembers.{named}
use Rattle.line_parser.specs.declared.line_members.Name.{Name}
use Rattle.line_parser.specs.declared.line_members.Name.TheVariants.{Op, From, Method, Id, Turn, Now, Failed, Args, State}
use Rattle.line_parser.specs.declared.line_members.Name.TheVariants as name
use Rattle.line_parser.proofs.GrammarLoops.{found}
use Rattle.line_parser.proofs.MembersTaken.{order, get-put, get-put_other}
use Rattle.line_parser.proofs.OtherNames.{Has, HasAll, are_apart, one_more}

-- ---- it stays, whatever follows

has_put : (k l : List ℕ) (d : Data) (ms : Members) (o : Ordering) → order k l ≡ o → Has ms k → Has (put l d ms) k
has_put k l d ms Less is h = (h.0, get-put_other k l d ms (ap is_eq is) ∙ h.1)
has_put k l d ms Equal is h = (d, ap (λ i. get_member i (put l d ms)) (exact_bytes k l is) ∙ get-put l d ms)
has_put k l d ms Greater is h = (h.0, get-put_other k l d ms (ap is_eq is) ∙ h.1)

abbrev or_else : Members → Option Members → Members
or_else ms None = ms
or_else ms (Some found) = found

next : (js : json.Members) (k l : List ℕ) (ms final : Members) → ((d : Data) → of_members js (put l d ms) ≡ Some final → Has final k) → (o : Option Data) → option_and_then (λ d. of_members js (put l d ms)) o ≡ Some final → Has final k
next js k l ms final h None e = absurd (cc)
next js k l ms final h (Some d) e = h d e

stays : (js : json.Members) (k : List ℕ) (ms final : Members) → Has ms k → of_members js ms ≡ Some final → Has final k
stays json.no_members k ms final h e = subst (λ m. Has m k) (ap (or_else ms) e) h
stays (json.member l j js) k ms final h e = next js k l ms final (λ d. stays js k (put l d ms) final (has_put k l d ms (order k l) refl h)) (of_json j) e

first : (k : List ℕ) (j : json.Json) (ms final : Members) (r : List Token) (o : Option (json.Members × List Token)) → converted (λ js. of_members js ms) (parse_map (json.member k j) o) ≡ Some (final, r) → Has final k
first k j ms final r None e = absurd (cc)
first k j ms final r (Some p) e =
    next p.0 k k ms final (λ d. stays p.0 k (put k d ms) final (d, get-put k d ms)) (of_json j) (found final p.1 r (of_members (json.member k j p.0) ms) final e).1

module _ (p : Parse json.Json) (n : ℕ) (k : List ℕ) (ts s : List Token) (some : 0 < n) (key : read_key ts ≡ Some (Some k, s)) (ms final : Members) (r : List Token) where
  by_value : (o : Option (json.Json × List Token)) → p s ≡ o → converted (λ js. of_members js ms) (members p n ts) ≡ Some (final, r) → Has final k
  by_value None is e = absurd (let none : converted (λ js. of_members js ms) (members p n ts) ≡ None = ap (converted (λ js. of_members js ms)) (members_fail p n k ts s key is) in cc)
  by_value (Some q) is e = first k q.0 ms final r (members p (n - 1) q.1) (sym (ap (converted (λ js. of_members js ms)) (members_more p n k ts s q.1 q.0 some key is)) ∙ e)

  pub other_stays : converted (λ js. of_members js ms) (members p n ts) ≡ Some (final, r) → Has final k
  other_stays e = by_value (p s) refl e

-- ---- what a form has

mapped : {A B : Type 0} (f : A → B) (o : Option A) (b : B) → option_map f o ≡ Some b → (a : A) × (o ≡ Some a)
mapped f None b e = absurd (cc)
mapped f (Some a) b e = (a, refl)

under : {A : Type 0} (b : Bool) (o : Option A) (a : A) → where_so b o ≡ Some a → (b ≡ true) × (o ≡ Some a)
under true o a e = (refl, e)
under false o a e = absurd (cc)

either : {A : Type 0} (b c : Bool) (o : Option A) (x a : A) → (if b then Some x else where_so c o) ≡ Some a → (b ≡ true) ⊎ ((c ≡ true) × (o ≡ Some a))
either true c o x a e = inl refl
either false c o x a e = inr (under c o a e)

if_none : {A : Type 0} (b : Bool) (o p : Option A) → o ≡ None → p ≡ None → (if b then o else p) ≡ None
if_none true o p e f = e
if_none false o p e f = f

none_of_it : {A : Type 0} (o : Option A) → ((a : A) → o ≡ Some a → ⊥) → o ≡ None
none_of_it None h = refl
none_of_it (Some a) h = absurd (h a refl)

module _ (k : List ℕ) (ms : Members) (other : named k ≡ None) (has : Has ms k) where
  -- so many members have no room for it
  full : (ns : List Name) (n : ℕ) → length ns ≡ n → are_apart ns ≡ true → HasAll ms ns → has_members n (object ms) ≡ true → ⊥
  full ns n e apart all count = omega (arith, one_more k ns ms other has apart all, eqb-true (members_len ms) n count, e)

  there : {A : Type 0} (f : Data → Option A) (name : List ℕ) (a : A) → option_and_then f (get_member name ms) ≡ Some a → Has ms name
  there f name a e = let b = some_from_and_then f (get_member name ms) a e in (b.0, b.1)

  -- of which a text is read
  read_there : {A : Type 0} (f : List ℕ → Option A) (name : List ℕ) (a : A) → option_and_then f (text_at name (object ms)) ≡ Some a → Has ms name
  read_there f name a e = let b = some_from_and_then f (text_at name (object ms)) a e in there as_str name b.0 b.1

  module _ (op : Has ms (codes "op")) where
    no_sweep : (x : Step) → sweep_of (object ms) ≡ Some x → ⊥
    unfolding sweep_of
    no_sweep x e = full (Op ∷ []) 1 refl refl (op, tt) (under (has_members 1 (object ms)) _ x e).0

    no_tick : (x : Step) → tick_of (object ms) ≡ Some x → ⊥
    unfolding tick_of
    no_tick x e =
        let u = under (has_members 2 (object ms)) _ x e in
        let now = mapped _ (natural_at (codes "now") (object ms)) x u.1 in
        full (Op ∷ Now ∷ []) 2 refl refl (op, (there _ (codes "now") now.0 now.1, tt)) u.0

    no_grain : (make : Grain → Step) (x : Step) → grain_form make (object ms) ≡ Some x → ⊥
    no_grain make x e =
        let u = under (has_members 2 (object ms)) _ x e in
        let g = mapped make (grain_at (object ms)) x u.1 in
        full (Op ∷ name.Grain ∷ []) 2 refl refl (op, (read_there _ (codes "grain") g.0 g.1, tt)) u.0

    no_turn : (make : Grain → ℕ → Step) (x : Step) → turn_form make (object ms) ≡ Some x → ⊥
    no_turn make x e =
        let m = mapped _ (turn_alone (object ms)) x e in
        let u = under (has_members 3 (object ms)) _ m.0 m.1 in
        let g = some_from_and_then _ (grain_at (object ms)) m.0 u.1 in
        let t = mapped _ (natural_at (codes "turn") (object ms)) m.0 g.2 in
        full (Op ∷ name.Grain ∷ Turn ∷ []) 3 refl refl (op, (read_there _ (codes "grain") g.0 g.1, (there _ (codes "turn") t.0 t.1, tt))) u.0

    no_status : (x : Step) → status_of (object ms) ≡ Some x → ⊥
    unfolding status_of
    no_status x e =
        let u = under (has_members 3 (object ms)) _ x e in
        let c = some_from_and_then _ (caller_at (object ms)) x u.1 in
        let i = mapped _ (natural_at (codes "id") (object ms)) x c.2 in
        full (Op ∷ From ∷ Id ∷ []) 3 refl refl (op, (read_there _ (codes "from") c.0 c.1, (there _ (codes "id") i.0 i.1, tt))) u.0

    no_poke : (x : Step) → poke_of (object ms) ≡ Some x → ⊥
    unfolding poke_of
    no_poke x e =
        let u = under (has_members 5 (object ms)) _ x e in
        let c = some_from_and_then _ (caller_at (object ms)) x u.1 in
        let i = some_from_and_then _ (natural_at (codes "id") (object ms)) x c.2 in
        let g = some_from_and_then _ (text_at (codes "grain") (object ms)) x i.2 in
        let v = mapped _ (get_member (codes "state") ms) x g.2 in
        full (Op ∷ From ∷ Id ∷ name.Grain ∷ State ∷ []) 5 refl refl (op, (read_there _ (codes "from") c.0 c.1, (there _ (codes "id") i.0 i.1, (there _ (codes "grain") g.0 g.1, ((v.0, v.1), tt))))) u.0

    no_load : (x : Step) → load_of (object ms) ≡ Some x → ⊥
    unfolding load_of
    no_load x e =
        let f = some_from_and_then _ (failed_at 2 (object ms)) x e in
        let g = mapped _ (grain_at (object ms)) x f.2 in
        elim (either (has_members 2 (object ms)) (has_members 3 (object ms)) (truth_at (codes "failed") (object ms)) false f.0 f.1) [
          | inl two ↦ full (Op ∷ name.Grain ∷ []) 2 refl refl (op, (read_there _ (codes "grain") g.0 g.1, tt)) two
          | inr three ↦ full (Op ∷ name.Grain ∷ Failed ∷ []) 3 refl refl (op, (read_there _ (codes "grain") g.0 g.1, (there _ (codes "failed") f.0 three.1, tt))) three.0
        ]

    no_store : (x : Step) → store_of (object ms) ≡ Some x → ⊥
    unfolding store_of
    no_store x e =
        let f = some_from_and_then _ (failed_at 3 (object ms)) x e in
        let g = some_from_and_then _ (grain_at (object ms)) x f.2 in
        let t = mapped _ (natural_at (codes "turn") (object ms)) x g.2 in
        elim (either (has_members 3 (object ms)) (has_members 4 (object ms)) (truth_at (codes "failed") (object ms)) false f.0 f.1) [
          | inl three ↦ full (Op ∷ name.Grain ∷ Turn ∷ []) 3 refl refl (op, (read_there _ (codes "grain") g.0 g.1, (there _ (codes "turn") t.0 t.1, tt))) three
          | inr four ↦ full (Op ∷ name.Grain ∷ Turn ∷ Failed ∷ []) 4 refl refl (op, (read_there _ (codes "grain") g.0 g.1, (there _ (codes "turn") t.0 t.1, (there _ (codes "failed") f.0 four.1, tt)))) four.0
        ]

    no_call : (x : Step) → call_of (object ms) ≡ Some x → ⊥
    unfolding call_of
    no_call x e =
        let a = some_from_and_then _ (argument_at (object ms)) x e in
        let c = some_from_and_then _ (caller_at (object ms)) x a.2 in
        let i = some_from_and_then _ (natural_at (codes "id") (object ms)) x c.2 in
        let g = some_from_and_then _ (text_at (codes "grain") (object ms)) x i.2 in
        let m = mapped _ (text_at (codes "method") (object ms)) x g.2 in
        let from = read_there _ (codes "from") c.0 c.1 in
        let id = there _ (codes "id") i.0 i.1 in
        let grain_text = there _ (codes "grain") g.0 g.1 in
        let method = there _ (codes "method") m.0 m.1 in
        elim (either (has_members 5 (object ms)) (has_members 6 (object ms)) (get_member (codes "args") ms) null a.0 a.1) [
          | inl five ↦ full (Op ∷ From ∷ Id ∷ name.Grain ∷ Method ∷ []) 5 refl refl (op, (from, (id, (grain_text, (method, tt))))) five
          | inr six ↦ full (Op ∷ From ∷ Id ∷ name.Grain ∷ Method ∷ Args ∷ []) 6 refl refl (op, (from, (id, (grain_text, (method, ((a.0, six.1), tt)))))) six.0
        ]

    no_form : (word : List ℕ) → form_of word (object ms) ≡ None
    unfolding form_of
    no_form word = (if_none _ _ _ (none_of_it _ no_call) (if_none _ _ _ (none_of_it _ no_poke) (if_none _ _ _ (none_of_it _ no_status) (if_none _ _ _ (none_of_it _ (no_grain step.Deliver)) (if_none _ _ _ (none_of_it _ (no_grain step.Activate)) (if_none _ _ _ (none_of_it _ no_load) (if_none _ _ _ (none_of_it _ (no_grain step.Begin)) (if_none _ _ _ (none_of_it _ no_store) (if_none _ _ _ (none_of_it _ (no_turn step.End)) (if_none _ _ _ (none_of_it _ (no_turn step.Abandon)) (if_none _ _ _ (none_of_it _ no_tick) (if_none _ _ _ (none_of_it _ no_sweep) refl))))))))))))

  by_op : (o : Option (List ℕ)) → text_at (codes "op") (object ms) ≡ o → option_and_then (λ word. form_of word (object ms)) o ≡ None
  by_op None is = refl
  by_op (Some word) is = no_form (there as_str (codes "op") word is) word

  pub no_step : step_of_json (object ms) ≡ None
  unfolding step_of_json
  no_step = by_op (text_at (codes "op") (object ms)) refl
