-- A code of values, by which a proof tells them apart. It is no message form.
use Rattle.std.specs.Prelude.{◌≡◌, ℕ, zero, suc, true, false, List, [], ◌∷◌, pos, negsuc, refl}
use Rattle.std.proofs.Common.{sym, ap, ◌∙◌}
use base.Stored.{Gv, gnil, gnum, gcons, Coded}
use Rattle.request_codec.specs.Tree.{Tree, null, truth, integer, text, list, map, Members, no_members, member, Fields, no_fields, field}
use Rattle.request_codec.specs.Tree as tree

abbrev pub bytes_code : List ℕ → Gv
bytes_code [] = gnil
bytes_code (b ∷ bytes) = gcons (gnum b) (bytes_code bytes)

abbrev mutual
  pub tree_code : Tree → Gv
  tree_code null = gnum 0
  tree_code (truth false) = gnum 1
  tree_code (truth true) = gnum 2
  tree_code (integer (pos n)) = gcons (gnum 0) (gnum n)
  tree_code (integer (negsuc n)) = gcons (gnum 1) (gnum n)
  tree_code (text s) = gcons (gnum 2) (bytes_code s)
  tree_code (list vs) = gcons (gnum 3) (members_code vs)
  tree_code (map fs) = gcons (gnum 5) (fields_code fs)
  tree_code (tree.bytes b) = gcons (gnum 4) (bytes_code b)

  pub members_code : Members → Gv
  members_code no_members = gnil
  members_code (member v vs) = gcons (tree_code v) (members_code vs)

  pub fields_code : Fields → Gv
  fields_code no_fields = gnil
  fields_code (field n v fs) = gcons (bytes_code n) (gcons (tree_code v) (fields_code fs))

abbrev number_back : Gv → ℕ
number_back gnil = 0
number_back (gnum n) = n
number_back (gcons a b) = 0

abbrev bytes_back : Gv → List ℕ
bytes_back gnil = []
bytes_back (gnum n) = []
bytes_back (gcons a b) = number_back a ∷ bytes_back b

bytes_again : (s : List ℕ) → bytes_back (bytes_code s) ≡ s
bytes_again [] = refl
bytes_again (b ∷ s) = ap (λ (t : List ℕ). b ∷ t) (bytes_again s)

abbrev leaf_back : ℕ → Tree
leaf_back zero = null
leaf_back (suc zero) = truth false
leaf_back (suc (suc n)) = truth true

-- a part with its number in front
abbrev node_back : Gv → Gv → Members → Fields → Tree
node_back gnil g vs fs = null
node_back (gnum zero) g vs fs = integer (pos (number_back g))
node_back (gnum (suc zero)) g vs fs = integer (negsuc (number_back g))
node_back (gnum (suc (suc zero))) g vs fs = text (bytes_back g)
node_back (gnum (suc (suc (suc zero)))) g vs fs = list vs
node_back (gnum (suc (suc (suc (suc zero))))) g vs fs = tree.bytes (bytes_back g)
node_back (gnum (suc (suc (suc (suc (suc n)))))) g vs fs = map fs
node_back (gcons a b) g vs fs = null

-- read in each of the ways in which a code may stand: as a value, as members, as fields, and as a value in front of fields
abbrev back : Gv → Tree × Members × Fields × (Tree × Fields)
back gnil = (null, no_members, no_fields, (null, no_fields))
back (gnum n) = (leaf_back n, no_members, no_fields, (null, no_fields))
back (gcons a b) = (
  node_back a b (back b).1 (back b).2,
  member (back a).0 (back b).1,
  field (bytes_back a) (back b).3.0 (back b).3.1,
  ((back a).0, (back b).2),
)

mutual
  tree_again : (v : Tree) → (back (tree_code v)).0 ≡ v
  tree_again null = refl
  tree_again (truth false) = refl
  tree_again (truth true) = refl
  tree_again (integer (pos n)) = refl
  tree_again (integer (negsuc n)) = refl
  tree_again (text s) = ap text (bytes_again s)
  tree_again (list vs) = ap list (members_again vs)
  tree_again (map fs) = ap map (fields_again fs)
  tree_again (tree.bytes b) = ap tree.bytes (bytes_again b)

  members_again : (vs : Members) → (back (members_code vs)).1 ≡ vs
  members_again no_members = refl
  members_again (member v vs) = λ i. member (tree_again v i) (members_again vs i)

  fields_again : (fs : Fields) → (back (fields_code fs)).2 ≡ fs
  fields_again no_fields = refl
  fields_again (field n v fs) = λ i. field (bytes_again n i) (tree_again v i) (fields_again fs i)

pub code_inj : (v w : Tree) → tree_code v ≡ tree_code w → v ≡ w
code_inj v w e = sym (tree_again v) ∙ ap (λ g. (back g).0) e ∙ tree_again w

abbrev pub coded_tree : Coded Tree
coded_tree = record { code = tree_code; inj = code_inj }
