-- A well-formed name is read back from its text.
use Rattle.std.proofs.Common.{◌≡◌, ℕ, ◌+◌, ◌<◌, ◌≤◌, Bool, true, false, cond, not, ◌&&◌, eqb, ltb, leb, List, [], ◌∷◌, ◌++◌, length, get_or, take, drop, Option, Some, None, Result, Ok, Err, refl, ap, sym, ◌∙◌, lt-ltb, ltb-true, true≢false, arith}
use Rattle.std.proofs.Math.Seq.{take-append_seam, drop-append-add}
use Rattle.std.proofs.lemmas.List.{length-append}
use Rattle.std.proofs.lemmas.Bool.{eqb-true, eq-eqb, leb-true}
use Rattle.std.proofs.lemmas.List.Sums.{split_at_first, passes_at_first}
use Rattle.std.proofs.lemmas.Option.{same_Some}
use Rattle.std.specs.List.{list_all, position_or_len, before_first, after_first}
use Rattle.std.specs.Cmp.{first_so, second_so}
use Rattle.std.specs.Prelude.{IsTrue}
use Rattle.grain_id.specs.declared.fault.IdFault.{IdFault}
use Rattle.grain_id.specs.declared.fault.IdFault.TheVariants as faults
use Rattle.grain_id.specs.Words.{is_word, is_name, is_word_byte}
use Rattle.grain_id.specs.Names.{Grain, Client, is_grain, is_client, grain_text, client_text, same_text, grain_eq, client_eq, IsTextOfGrain, IsTextOfClient, IsTextOfNoGrain, IsTextOfNoClient}
use Rattle.grain_id.specs.Order.{same_text_decides, grain_eq_decides, client_eq_decides}
use Rattle.std.proofs.lemmas.Bool.Decides.{Decides-like, same_from_decides}
use Rattle.grain_id.specs.Reading.{cut_at, part, or_fault, grain_read, caller_read, Fails, IfFaulty, ◌>>=◌}

-- ---- faults

pub IfFaulty-from : (Y : Type 0) {said : Type 0} (e : IdFault) → said → IfFaulty {Y = Y} (Err e) said
IfFaulty-from Y faults.Kind known = known
IfFaulty-from Y faults.Tenant known = known
IfFaulty-from Y faults.Name known = known
IfFaulty-from Y faults.Client known = known
IfFaulty-from Y faults.Memory known = tt

ok_no_err : {Y : Type 0} (y : Y) (e : IdFault) (read : Result Y IdFault) → read ≡ Ok y → read ≡ Err e → ⊥
ok_no_err y e read is isn't = cc

-- ---- a cut at the first separator

same_byte : (x c : ℕ) (b : Bool) → is_word_byte c ≡ false → is_word_byte x ≡ true → eqb x c ≡ b → b ≡ false
same_byte x c true out inside e = absurd (true≢false (sym inside ∙ ap is_word_byte (eqb-true x c e) ∙ out))
same_byte x c false out inside e = refl

pub position-word : (c : ℕ) (xs ys : List ℕ) → is_word_byte c ≡ false → list_all is_word_byte xs ≡ true → position_or_len (λ b. eqb b c) (xs ++ c ∷ ys) ≡ length xs
position-word c [] ys out all = ap (λ b. cond (not b) (1 + position_or_len (λ b. eqb b c) ys) 0) (eq-eqb c c refl)
position-word c (x ∷ xs) ys out all =
    ap (λ b. cond (not b) (1 + position_or_len (λ b. eqb b c) (xs ++ c ∷ ys)) 0) (same_byte x c (eqb x c) out (first_so (is_word_byte x) (list_all is_word_byte xs) all) refl)
    ∙ ap (λ n. 1 + n) (position-word c xs ys out (second_so (is_word_byte x) (list_all is_word_byte xs) all))
    ∙ omega arith

cut_here : (c n : ℕ) (xs ys : List ℕ) → n ≡ length xs → cond {A = Option (List ℕ × List ℕ)} (ltb n (length (xs ++ c ∷ ys))) (Some (take n (xs ++ c ∷ ys), drop (n + 1) (xs ++ c ∷ ys))) None ≡ Some (xs, ys)
cut_here c n xs ys e =
    let inside : n < length (xs ++ c ∷ ys) = omega (arith, length-append xs (c ∷ ys), e) in
    let parts : List ℕ × List ℕ = (take n (xs ++ c ∷ ys), drop (n + 1) (xs ++ c ∷ ys)) in
    let front : take n (xs ++ c ∷ ys) ≡ xs = ap (λ k. take k (xs ++ c ∷ ys)) e ∙ take-append_seam xs (c ∷ ys) in
    let back : drop (n + 1) (xs ++ c ∷ ys) ≡ ys = ap (λ k. drop (k + 1) (xs ++ c ∷ ys)) e ∙ drop-append-add xs (c ∷ ys) 1 in
    ap (λ b. cond b (Some parts) None) (lt-ltb n (length (xs ++ c ∷ ys)) inside) ∙ (λ i. Some (front i, back i))

pub cut_at-first : (c : ℕ) (xs ys : List ℕ) → is_word_byte c ≡ false → list_all is_word_byte xs ≡ true → cut_at c (xs ++ c ∷ ys) ≡ Some (xs, ys)
unfolding cut_at
cut_at-first c xs ys out all = cut_here c _ xs ys (position-word c xs ys out all)

-- what is cut stands around the separator
joined : (c : ℕ) (text front back : List ℕ) (b : Bool) → ltb (position_or_len (λ x. eqb x c) text) (length text) ≡ b → cond {A = Option (List ℕ × List ℕ)} b (Some (before_first (λ x. eqb x c) text, after_first (λ x. eqb x c) text)) None ≡ Some (front, back) → text ≡ front ++ c ∷ back
joined c text front back true inside e =
    let lt = ltb-true (position_or_len (λ x. eqb x c) text) (length text) inside in
    let there = eqb-true (get_or text (position_or_len (λ x. eqb x c) text) 0) c (passes_at_first (λ x. eqb x c) text 0 lt) in
    let parts : (before_first (λ x. eqb x c) text, after_first (λ x. eqb x c) text) ≡ (front, back) = same_Some _ _ e in
    split_at_first (λ x. eqb x c) text 0 lt ∙ (λ i. (parts i).0 ++ there i ∷ (parts i).1)
joined c text front back false inside e = absurd cc

pub cut_at-joined : (c : ℕ) (text front back : List ℕ) → cut_at c text ≡ Some (front, back) → text ≡ front ++ c ∷ back
unfolding cut_at
cut_at-joined c text front back e = joined c text front back _ refl e

-- ---- the parts

pub word_length : (word : List ℕ) → is_word word ≡ true → length word ≤ 32
unfolding is_word
word_length word is = leb-true (length word) 32 (second_so _ (leb (length word) 32) (first_so _ (list_all is_word_byte word) is))

pub word_bytes : (word : List ℕ) → is_word word ≡ true → list_all is_word_byte word ≡ true
unfolding is_word
word_bytes word is = second_so _ (list_all is_word_byte word) is

pub part-passes : (test : List ℕ → Bool) (fault : IdFault) (bytes : List ℕ) → test bytes ≡ true → part test fault bytes ≡ Ok bytes
part-passes test fault bytes e = ap (λ b. cond b (Ok bytes) (Err fault)) e

-- ---- a step of a reading

then_Ok : {A B : Type 0} (r : Result A IdFault) (x : A) (f : A → Result B IdFault) → r ≡ Ok x → (r >>= f) ≡ f x
then_Ok r x f e = ap (λ r. r >>= f) e

pub grain_read-parts : (kind tenant name : List ℕ) → is_word kind ≡ true → is_word tenant ≡ true → is_name name ≡ true → grain_read (kind ++ 47 ∷ (tenant ++ 58 ∷ name)) ≡ Ok (record { kind = kind; tenant = tenant; name = name })
unfolding grain_read
grain_read-parts kind tenant name k t n =
    then_Ok _ (kind, tenant ++ 58 ∷ name) _ (ap (or_fault faults.Kind) (cut_at-first 47 kind (tenant ++ 58 ∷ name) refl (word_bytes kind k)))
    ∙ then_Ok _ kind _ (part-passes is_word faults.Kind kind k)
    ∙ then_Ok _ (tenant, name) _ (ap (or_fault faults.Tenant) (cut_at-first 58 tenant name refl (word_bytes tenant t)))
    ∙ then_Ok _ tenant _ (part-passes is_word faults.Tenant tenant t)
    ∙ then_Ok _ name _ (part-passes is_name faults.Name name n)

pub caller_read-parts : (tenant client : List ℕ) → is_word tenant ≡ true → is_word client ≡ true → caller_read (tenant ++ 47 ∷ client) ≡ Ok (record { tenant = tenant; client = client })
unfolding caller_read
caller_read-parts tenant client t c =
    then_Ok _ (tenant, client) _ (ap (or_fault faults.Tenant) (cut_at-first 47 tenant client refl (word_bytes tenant t)))
    ∙ then_Ok _ tenant _ (part-passes is_word faults.Tenant tenant t)
    ∙ then_Ok _ client _ (part-passes is_word faults.Client client c)

-- ---- round trips

pub grain_parts : (g : Grain) → IsTrue (is_grain g) → (is_word g.kind ≡ true) × (is_word g.tenant ≡ true) × (is_name g.name ≡ true)
grain_parts g ok =
    let words = first_so (is_word g.kind && is_word g.tenant) (is_name g.name) ok in
    (first_so (is_word g.kind) (is_word g.tenant) words, second_so (is_word g.kind) (is_word g.tenant) words, second_so (is_word g.kind && is_word g.tenant) (is_name g.name) ok)

pub client_parts : (c : Client) → IsTrue (is_client c) → (is_word c.tenant ≡ true) × (is_word c.client ≡ true)
client_parts c ok = (first_so (is_word c.tenant) (is_word c.client) ok, second_so (is_word c.tenant) (is_word c.client) ok)

pub grain_read-grain_text : (g : Grain) → IsTrue (is_grain g) → grain_read (grain_text g) ≡ Ok g
grain_read-grain_text g ok = let parts = grain_parts g ok in grain_read-parts g.kind g.tenant g.name parts.0 parts.1 parts.2

pub caller_read-client_text : (c : Client) → IsTrue (is_client c) → caller_read (client_text c) ≡ Ok c
caller_read-client_text c ok = let parts = client_parts c ok in caller_read-parts c.tenant c.client parts.0 parts.1

-- the text of a grain is read as that grain
pub grain_read-found : (text : List ℕ) (g : Grain) → IsTextOfGrain text g → grain_read text ≡ Ok g
grain_read-found text g of = ap grain_read of.1 ∙ grain_read-grain_text g of.0

pub caller_read-found : (text : List ℕ) (c : Client) → IsTextOfClient text c → caller_read text ≡ Ok c
caller_read-found text c of = ap caller_read of.1 ∙ caller_read-client_text c of.0

-- what isn't read is the text of none
pub grain_read-none : (text : List ℕ) (e : IdFault) → grain_read text ≡ Err e → IsTextOfNoGrain text
grain_read-none text e isn't g of = ok_no_err g e (grain_read text) (grain_read-found text g of) isn't

pub caller_read-none : (text : List ℕ) (e : IdFault) → caller_read text ≡ Err e → IsTextOfNoClient text
caller_read-none text e isn't c of = ok_no_err c e (caller_read text) (caller_read-found text c of) isn't

ok_same : {Y : Type 0} (x y : Y) (read : Result Y IdFault) → read ≡ Ok x → read ≡ Ok y → x ≡ y
ok_same x y read e f = cc

-- a text is the text of one grain alone
pub one_grain : (g h : Grain) → IsTrue (is_grain g) → IsTrue (is_grain h) → grain_text g ≡ grain_text h → g ≡ h
one_grain g h ok fine e = ok_same g h (grain_read (grain_text g)) (grain_read-grain_text g ok) (ap grain_read e ∙ grain_read-grain_text h fine)

pub one_client : (c d : Client) → IsTrue (is_client c) → IsTrue (is_client d) → client_text c ≡ client_text d → c ≡ d
one_client c d ok fine e = ok_same c d (caller_read (client_text c)) (caller_read-client_text c ok) (ap caller_read e ∙ caller_read-client_text d fine)

-- a test of the texts tests the values
pub same_text-grain_text : (g h : Grain) → IsTrue (is_grain g) → IsTrue (is_grain h) → same_text (grain_text g) (grain_text h) ≡ grain_eq g h
same_text-grain_text g h ok fine =
    same_from_decides _ _ (Decides-like _ (one_grain g h ok fine) (ap grain_text) (same_text_decides (grain_text g) (grain_text h))) (grain_eq_decides g h)

pub same_text-client_text : (c d : Client) → IsTrue (is_client c) → IsTrue (is_client d) → same_text (client_text c) (client_text d) ≡ client_eq c d
same_text-client_text c d ok fine =
    same_from_decides _ _ (Decides-like _ (one_client c d ok fine) (ap client_text) (same_text_decides (client_text c) (client_text d))) (client_eq_decides c d)
