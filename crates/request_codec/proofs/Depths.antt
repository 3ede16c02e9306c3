-- A test of the members one after another is a test of them all.
use Rattle.std.proofs.Common.{◌≡◌, ℕ, ◌-◌, ◌<◌, ◌≤◌, ◌≢◌, Bool, true, false, List, ◌∷◌, [], sym, subst, arith}
use Rattle.std.specs.Prelude.{max, IsUtf8}
use Rattle.request_codec.specs.Tree as tree
use Rattle.request_codec.specs.Tree.{Tree, null, truth, integer, text, list, map, Members, no_members, member, Fields, no_fields, field, depth, members_depth, fields_depth, members_of, fields_of}
use Rattle.request_codec.specs.Spelling.{IsBelowFirst}
use Rattle.request_codec.specs.Formed.{IsFormed, TestsDepth, TestDepths, TestFieldDepths}
use Rattle.request_codec.specs.inside.Build.{Named}

-- ---- a list

passed : (b : Bool) (limit : ℕ) (v : Tree) (vs : Members) → TestsDepth true limit v → TestDepths b limit vs → TestDepths b limit (member v vs)
passed true limit v vs h t =
    let within : max (depth v) (members_depth vs) ≤ limit = omega (arith, h.0, t.0) in
    (within, (h.1, t.1))
passed false limit v vs h t =
    let above : limit < max (depth v) (members_depth vs) = omega (arith, t) in
    above

-- what is answered of those that are left is answered of all
abbrev pub TellsMembers : ℕ → (Bool → Type 0) → List Tree → Type 0
TellsMembers limit goal vs = (b : Bool) → TestDepths b limit (members_of vs) → goal b

pub passed-next : (limit : ℕ) (vs : List Tree) (v : Tree) (rest : List Tree) (goal : Bool → Type 0) → vs ≡ v ∷ rest → TestsDepth true limit v → TellsMembers limit goal vs → TellsMembers limit goal rest
passed-next limit vs v rest goal is h so_far b t = subst (TellsMembers limit goal) is so_far b (passed b limit v (members_of rest) h t)

pub passed-fails : (limit : ℕ) (vs : List Tree) (v : Tree) (rest : List Tree) (goal : Bool → Type 0) → vs ≡ v ∷ rest → TestsDepth false limit v → TellsMembers limit goal vs → goal false
passed-fails limit vs v rest goal is h so_far =
    let above : limit < max (depth v) (members_depth (members_of rest)) = omega (arith, h) in
    subst (TellsMembers limit goal) is so_far false above

pub passed-all : (limit : ℕ) (vs : List Tree) (goal : Bool → Type 0) → vs ≡ [] → TellsMembers limit goal vs → goal true
passed-all limit vs goal is so_far =
    let nothing : TestDepths true limit no_members = (omega arith, tt) in
    subst (TellsMembers limit goal) is so_far true nothing

-- ---- a map

field_passed : (b : Bool) (limit : ℕ) (n : List ℕ) (v : Tree) (fs : Fields) → IsUtf8 n → IsBelowFirst n fs → TestsDepth true limit v → TestFieldDepths b limit fs → TestFieldDepths b limit (field n v fs)
field_passed true limit n v fs valid below h t =
    let within : max (depth v) (fields_depth fs) ≤ limit = omega (arith, h.0, t.0) in
    (within, (valid, h.1, below, t.1))
field_passed false limit n v fs valid below h t =
    let above : limit < max (depth v) (fields_depth fs) = omega (arith, t) in
    above

abbrev pub TellsFields : ℕ → (Bool → Type 0) → List Named → Type 0
TellsFields limit goal fs = (b : Bool) → TestFieldDepths b limit (fields_of fs) → goal b

pub fields_passed-next : (limit : ℕ) (fs : List Named) (f : Named) (rest : List Named) (goal : Bool → Type 0) → fs ≡ f ∷ rest → IsUtf8 f.0 → IsBelowFirst f.0 (fields_of rest) → TestsDepth true limit f.1
    → TellsFields limit goal fs → TellsFields limit goal rest
fields_passed-next limit fs f rest goal is valid below h so_far b t = subst (TellsFields limit goal) is so_far b (field_passed b limit f.0 f.1 (fields_of rest) valid below h t)

pub fields_passed-fails : (limit : ℕ) (fs : List Named) (f : Named) (rest : List Named) (goal : Bool → Type 0) → fs ≡ f ∷ rest → TestsDepth false limit f.1 → TellsFields limit goal fs → goal false
fields_passed-fails limit fs f rest goal is h so_far =
    let above : limit < max (depth f.1) (fields_depth (fields_of rest)) = omega (arith, h) in
    subst (TellsFields limit goal) is so_far false above

pub fields_passed-all : (limit : ℕ) (fs : List Named) (goal : Bool → Type 0) → fs ≡ [] → TellsFields limit goal fs → goal true
fields_passed-all limit fs goal is so_far =
    let nothing : TestFieldDepths true limit no_fields = (omega arith, tt) in
    subst (TellsFields limit goal) is so_far true nothing

-- ---- one level

pub list_tested : (b : Bool) (limit : ℕ) (vs : Members) → limit ≢ 0 → TestDepths b (limit - 1) vs → TestsDepth b limit (list vs)
list_tested true limit vs some t = (omega (arith, t.0), t.1)
list_tested false limit vs some t = omega (arith, t)

pub map_tested : (b : Bool) (limit : ℕ) (fs : Fields) → limit ≢ 0 → TestFieldDepths b (limit - 1) fs → TestsDepth b limit (map fs)
map_tested true limit fs some t = (omega (arith, t.0), t.1)
map_tested false limit fs some t = omega (arith, t)

-- a value that is no list and no map
pub leaf_tested : (b : Bool) (limit : ℕ) (v w : Tree) → limit ≢ 0 → b ≡ true → v ≡ w → depth w ≡ 1 → IsFormed w → TestsDepth b limit v
leaf_tested b limit v w some held is one formed =
    let within : depth w ≤ limit = omega arith in
    let tested = subst (λ (u : Tree). TestsDepth true limit u) (sym is) (within, formed) in
    subst (λ (c : Bool). TestsDepth c limit v) (sym held) tested

-- each value has a level
pub deeper_than_none : (limit : ℕ) (v : Tree) → limit ≡ 0 → limit < depth v
deeper_than_none limit null e = omega (arith, e)
deeper_than_none limit (truth b) e = omega (arith, e)
deeper_than_none limit (integer i) e = omega (arith, e)
deeper_than_none limit (text s) e = omega (arith, e)
deeper_than_none limit (list vs) e = omega (arith, e)
deeper_than_none limit (map fs) e = omega (arith, e)
deeper_than_none limit (tree.bytes b) e = omega (arith, e)
