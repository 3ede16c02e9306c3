-- A number or a text that was written is read again, and what is read was written so.
use Rattle.std.proofs.Common.{◌≡◌, ℕ, suc, ◌+◌, ◌^◌, ◌<◌, ◌≤◌, false, ltb, List, ◌∷◌, ◌++◌, length, take, drop, Some, refl, sym, ap, subst, ◌∙◌, append_assoc, arith, inl, inr}
use Rattle.std.specs.Prelude.{IsUtf8}
use Rattle.std.specs.Int.{Width, w32, w64, byte_len, from_be_bytes, to_be_bytes}
use Rattle.std.specs.Str.{is_utf8}
use Rattle.std.proofs.lemmas.Bool.{ltb-false, le-ltb, cases_lt}
use Rattle.std.proofs.lemmas.List.{take_at, drop_at, take-append-drop, length-append, length-take, get_or-drop, get_or-take, get_or_past}
use Rattle.std.proofs.lemmas.Nat.{from_be_bytes-to_be_bytes_4, from_be_bytes-to_be_bytes_8, be_bytes_4, be_bytes_8}
use Rattle.std.proofs.lemmas.Option.{some_pair_parts}
use Rattle.std.proofs.lemmas.Str.{is_utf8-from_IsUtf8, IsUtf8-from_is_utf8}
use Rattle.finite_maps.proofs.Options.{some_if_fails, some_if_passes}
use Rattle.request_codec.specs.Spelling.{SpellsText}
use Rattle.hex.specs.Hex.{IsBytes}
use Rattle.request_codec.specs.Reading.{number_at, octets_at, bytes_at, text_at}
use Rattle.request_codec.proofs.Steps.{bound}

pub record IsWide (w : Width) (limit : ℕ) : Type 0 where
  pub len : (n : ℕ) → length (to_be_bytes w n) ≡ byte_len w
  pub back : (bytes : List ℕ) → length bytes ≡ byte_len w → IsBytes bytes → to_be_bytes w (from_be_bytes w bytes) ≡ bytes
  pub again : (n : ℕ) → n < limit → from_be_bytes w (to_be_bytes w n) ≡ n
  pub below : (bytes : List ℕ) → IsBytes bytes → from_be_bytes w bytes < limit

pub wide32 : IsWide w32 (2 ^ 32)
wide32 = record {
  len = λ n. refl;
  back = λ bytes len fits. be_bytes_4 bytes _ len fits refl;
  again = λ n lt. from_be_bytes-to_be_bytes_4 n lt;
  below = λ bytes fits. omega (arith, fits 0, fits 1, fits 2, fits 3);
}

pub wide64 : IsWide w64 (2 ^ 64)
wide64 = record {
  len = λ n. refl;
  back = λ bytes len fits. be_bytes_8 bytes _ len fits refl;
  again = λ n lt. from_be_bytes-to_be_bytes_8 n lt;
  below = λ bytes fits. omega (arith, fits 0, fits 1, fits 2, fits 3, fits 4, fits 5, fits 6, fits 7);
}

pub number_again : (w : Width) (limit : ℕ) (wide : IsWide w limit) (n : ℕ) (rest : List ℕ) → n < limit → number_at w (to_be_bytes w n ++ rest) ≡ Some (n, rest)
unfolding number_at
number_again w limit wide n rest lt =
    let len = wide.len n in
    let long : ltb (length (to_be_bytes w n ++ rest)) (byte_len w) ≡ false = le-ltb _ _ (omega (arith, length-append (to_be_bytes w n) rest)) in
    rw (long, take_at (to_be_bytes w n) rest (byte_len w) len, drop_at (to_be_bytes w n) rest (byte_len w) len, wide.again n lt) refl

-- with any bytes before them that are read as their length
bytes_behind : (front s x : List ℕ) → number_at w32 (front ++ (s ++ x)) ≡ Some (length s, s ++ x) → bytes_at ((front ++ s) ++ x) ≡ Some (s, x)
unfolding bytes_at
bytes_behind front s x e =
    let long : ltb (length (s ++ x)) (length s) ≡ false = le-ltb _ _ (omega (arith, length-append s x)) in
    rw (append_assoc front s x, e, long, take_at s x (length s) refl, drop_at s x (length s) refl) refl

pub bytes_again : (s x : List ℕ) → length s < 2 ^ 32 → bytes_at ((to_be_bytes w32 (length s) ++ s) ++ x) ≡ Some (s, x)
bytes_again s x short = bytes_behind (to_be_bytes w32 (length s)) s x (number_again w32 (2 ^ 32) wide32 (length s) (s ++ x) short)

text_of_bytes : (bytes s x : List ℕ) → bytes_at bytes ≡ Some (s, x) → IsUtf8 s → text_at bytes ≡ Some (s, x)
unfolding text_at
text_of_bytes bytes s x e valid = rw (e, is_utf8-from_IsUtf8 s valid) refl

pub text_again : (s a x : List ℕ) → SpellsText s a → text_at (a ++ x) ≡ Some (s, x)
text_again s a x h = rw h.2 (text_of_bytes _ s x (bytes_again s x h.0) h.1)

-- ---- what is read

-- the front of the bytes is as wanted, and the rest follows it
pub record Found (P : List ℕ → Type 0) (bytes rest : List ℕ) : Type 0 where
  pub used : List ℕ
  pub wanted : P used
  pub parts : bytes ≡ used ++ rest
  pub rest_fits : IsBytes rest

pub IsBytes-drop : (n : ℕ) (bytes : List ℕ) → IsBytes bytes → IsBytes (drop n bytes)
IsBytes-drop n bytes h i = rw get_or-drop (h (n + i))

pub IsBytes-take : (n : ℕ) (bytes : List ℕ) → IsBytes bytes → IsBytes (take n bytes)
IsBytes-take n bytes h i =
    elim (cases_lt i n) [
      | inl lt ↦ rw (get_or-take n bytes i 0 lt) (h i)
      | inr le ↦ rw (get_or_past (take n bytes) i 0 (omega (arith, length-take n bytes))) (omega arith)
    ]

pub IsBytes-rest : (b : ℕ) (bytes : List ℕ) → IsBytes (b ∷ bytes) → IsBytes bytes
IsBytes-rest b bytes h i = h (suc i)

pub number_found : (w : Width) (limit : ℕ) (wide : IsWide w limit) (bytes : List ℕ) (n : ℕ) (rest : List ℕ) → IsBytes bytes → number_at w bytes ≡ Some (n, rest) → (bytes ≡ to_be_bytes w n ++ rest) × (n < limit) × IsBytes rest
unfolding number_at
number_found w limit wide bytes n rest fits e =
    let g = some_if_fails (ltb (length bytes) (byte_len w)) (Some (from_be_bytes w (take (byte_len w) bytes), drop (byte_len w) bytes)) (n, rest) e in
    let long : byte_len w ≤ length bytes = ltb-false _ _ g.0 in
    let is = some_pair_parts _ _ _ _ g.1 in
    let front : to_be_bytes w n ≡ take (byte_len w) bytes = rw (← is.0) (wide.back (take (byte_len w) bytes) (omega (arith, length-take (byte_len w) bytes)) (IsBytes-take (byte_len w) bytes fits)) in
    (rw (front, ← is.1) (sym (take-append-drop (byte_len w) bytes)), rw (← is.0) (wide.below (take (byte_len w) bytes) (IsBytes-take (byte_len w) bytes fits)), rw (← is.1) (IsBytes-drop (byte_len w) bytes fits))

-- behind a length k
octets_parts : (k : ℕ) (m s rest : List ℕ) → IsBytes m → octets_at k m ≡ Some (s, rest) → (length s ≡ k) × IsBytes s × (m ≡ s ++ rest) × IsBytes rest
octets_parts k m s rest fits e =
    let g = some_if_fails (ltb (length m) k) _ (s, rest) e in
    let long : k ≤ length m = ltb-false _ _ g.0 in
    let is = some_pair_parts _ _ _ _ g.1 in
    (rw (← is.0) (omega (arith, length-take k m)), rw (← is.0) (IsBytes-take k m fits), rw (← is.0, ← is.1) (sym (take-append-drop k m)), rw (← is.1) (IsBytes-drop k m fits))

-- bytes behind their length
abbrev pub IsCountedBytes : List ℕ → List ℕ → Type 0
IsCountedBytes s bytes = (length s < 2 ^ 32) × IsBytes s × (bytes ≡ to_be_bytes w32 (length s) ++ s)

pub bytes_found : (bytes s rest : List ℕ) → IsBytes bytes → bytes_at bytes ≡ Some (s, rest) → Found (IsCountedBytes s) bytes rest
unfolding bytes_at
bytes_found bytes s rest fits e =
    let b = bound (number_at w32 bytes) _ (s, rest) e in
    let t = number_found w32 (2 ^ 32) wide32 bytes b.0.0 b.0.1 fits b.1 in
    let p = octets_parts b.0.0 b.0.1 s rest t.2 b.2 in
    record {
      used = to_be_bytes w32 (length s) ++ s;
      wanted = (subst (λ (k : ℕ). k < 2 ^ 32) (sym p.0) t.1, p.1, refl);
      parts = t.0 ∙ ap (λ (m : List ℕ). to_be_bytes w32 b.0.0 ++ m) p.2 ∙ sym (append_assoc (to_be_bytes w32 b.0.0) s rest) ∙ ap (λ (k : ℕ). (to_be_bytes w32 k ++ s) ++ rest) (sym p.0);
      rest_fits = p.3;
    }

-- a text is bytes that are UTF-8
pub bytes_of_text : (bytes s rest : List ℕ) → text_at bytes ≡ Some (s, rest) → (bytes_at bytes ≡ Some (s, rest)) × IsUtf8 s
unfolding text_at
bytes_of_text bytes s rest e =
    let b = bound (bytes_at bytes) _ (s, rest) e in
    let valid = some_if_passes (is_utf8 b.0.0) (Some b.0) (s, rest) b.2 in
    let is = some_pair_parts _ _ _ _ valid.1 in
    (b.1 ∙ valid.1, subst IsUtf8 is.0 (IsUtf8-from_is_utf8 b.0.0 valid.0))

pub text_found : (bytes s rest : List ℕ) → IsBytes bytes → text_at bytes ≡ Some (s, rest) → Found (SpellsText s) bytes rest
text_found bytes s rest fits e =
    let t = bytes_of_text bytes s rest e in
    let found = bytes_found bytes s rest fits t.0 in
    record {
      used = found.used;
      wanted = (found.wanted.0, t.1, found.wanted.2);
      parts = found.parts;
      rest_fits = found.rest_fits;
    }
