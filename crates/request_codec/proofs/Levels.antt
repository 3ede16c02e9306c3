-- Reading one level of a value.
use Rattle.std.proofs.Common.{◌≡◌, ℕ, suc, zero, ◌-◌, ◌<◌, List, Option, Some, None, refl, sym, ap, ◌∙◌, arith}
use Rattle.request_codec.specs.Tree.{Tree, list, map, Members, Fields}
use Rattle.request_codec.specs.Reading.{◌>>=◌, members_at, fields_at, value_at}
use Rattle.request_codec.specs.Start.{Begun, leaf, list_of, map_of, start_at, value_behind}
use Rattle.request_codec.proofs.Starts.{value_at-by_start}

pub value_at-zero : (limit : ℕ) (bytes : List ℕ) → limit ≡ 0 → value_at limit bytes ≡ None
unfolding value_at
value_at-zero limit bytes e = rw e refl

pub value_at-unstarted : (limit : ℕ) (bytes : List ℕ) → start_at bytes ≡ None → value_at limit bytes ≡ None
unfolding value_at
value_at-unstarted zero bytes h = refl
value_at-unstarted (suc limit) bytes h = value_at-by_start limit bytes ∙ ap (λ o. o >>= λ s. value_behind (value_at limit) s.0 s.1) h

-- a start by its form
pub started : {found : Option (Begun × List ℕ)} {rest : List ℕ} {s form : Begun} → Some (s, rest) ≡ found → s ≡ form → found ≡ Some (form, rest)
started {rest} h is = sym h ∙ ap (λ (b : Begun). Some (b, rest)) is

pub value_at-started : (limit : ℕ) (bytes : List ℕ) (s : Begun) (rest : List ℕ) → 0 < limit → start_at bytes ≡ Some (s, rest) → value_at limit bytes ≡ value_behind (value_at (limit - 1)) s rest
value_at-started limit bytes s rest lt h =
    let k : limit ≡ suc (limit - 1) = omega arith in
    ap (λ (n : ℕ). value_at n bytes) k ∙ value_at-by_start (limit - 1) bytes ∙ ap (λ o. o >>= λ x. value_behind (value_at (limit - 1)) x.0 x.1) h

pub value_at-leaf : (limit : ℕ) (bytes : List ℕ) (v shown : Tree) (rest : List ℕ) → 0 < limit → start_at bytes ≡ Some (leaf v, rest) → shown ≡ v → value_at limit bytes ≡ Some (shown, rest)
unfolding value_behind
value_at-leaf limit bytes v shown rest lt h is = value_at-started limit bytes (leaf v) rest lt h ∙ ap (λ (u : Tree). Some (u, rest)) (sym is)

pub value_at-list : (limit : ℕ) (bytes : List ℕ) (n : ℕ) (rest : List ℕ) (vs : Members) (shown : Tree) (after : List ℕ) → 0 < limit → start_at bytes ≡ Some (list_of n, rest) → members_at (value_at (limit - 1)) n rest ≡ Some (vs, after)
    → shown ≡ list vs → value_at limit bytes ≡ Some (shown, after)
unfolding value_behind
value_at-list limit bytes n rest vs shown after lt h members is =
    let one : value_behind (value_at (limit - 1)) (list_of n) rest ≡ Some (shown, after) = rw (members, is) refl in
    value_at-started limit bytes (list_of n) rest lt h ∙ one

pub value_at-map : (limit : ℕ) (bytes : List ℕ) (n : ℕ) (rest : List ℕ) (fs : Fields) (shown : Tree) (after : List ℕ) → 0 < limit → start_at bytes ≡ Some (map_of n, rest) → fields_at (value_at (limit - 1)) n None rest ≡ Some (fs, after)
    → shown ≡ map fs → value_at limit bytes ≡ Some (shown, after)
unfolding value_behind
value_at-map limit bytes n rest fs shown after lt h members is =
    let one : value_behind (value_at (limit - 1)) (map_of n) rest ≡ Some (shown, after) = rw (members, is) refl in
    value_at-started limit bytes (map_of n) rest lt h ∙ one

pub value_at-no_list : (limit : ℕ) (bytes : List ℕ) (n : ℕ) (rest : List ℕ) → 0 < limit → start_at bytes ≡ Some (list_of n, rest) → members_at (value_at (limit - 1)) n rest ≡ None → value_at limit bytes ≡ None
unfolding value_behind
value_at-no_list limit bytes n rest lt h members =
    let one : value_behind (value_at (limit - 1)) (list_of n) rest ≡ None = rw members refl in
    value_at-started limit bytes (list_of n) rest lt h ∙ one

pub value_at-no_map : (limit : ℕ) (bytes : List ℕ) (n : ℕ) (rest : List ℕ) → 0 < limit → start_at bytes ≡ Some (map_of n, rest) → fields_at (value_at (limit - 1)) n None rest ≡ None → value_at limit bytes ≡ None
unfolding value_behind
value_at-no_map limit bytes n rest lt h members =
    let one : value_behind (value_at (limit - 1)) (map_of n) rest ≡ None = rw members refl in
    value_at-started limit bytes (map_of n) rest lt h ∙ one
