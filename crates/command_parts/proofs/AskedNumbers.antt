-- A line asks under a number below 2^63, since JSON gives no other.
use Rattle.std.proofs.Common.{◌^◌, ◌&&◌, ◌==◌, ℕ, zero, suc, Bool, true, false, List, [], ◌∷◌, length, drop, Option, Some, None, Result, Ok, Err, pos, if◌then◌else◌, arith}
use Rattle.std.specs.Prelude.{IfOk, IfSome, bytes_eq, codes, nat_le, nat_lt, option_and_then, option_map, slice_index}
use Rattle.std.specs.Cmp.Lexicographic.{slice_cmp}
use Rattle.std.specs.Float.{binary64, float_is_finite}
use Rattle.std.specs.Ordering.{match_ordering, nat_cmp}
use Rattle.std.specs.Str.{is_utf8}
use Rattle.std.specs.declared.cmp.Ordering.{Ordering}
use Rattle.std.specs.declared.cmp.Ordering.TheVariants.{Less, Equal, Greater}
use Rattle.std.proofs.lemmas.Bool.{ltb-true}
use Rattle.fast_float.specs.Text.{minus, Parts, digits_of, nearest, scan, with_sign}
use Rattle.json.specs.Json as json
use Rattle.json.specs.Lex.{tokens}
use Rattle.serde_json.specs.Data.{Num, unsigned, negative, float, Data, null, boolean, number, string, array, object, Members, no_members, member, put}
use Rattle.serde_json.specs.Find.{as_i64, as_number, get, get_member}
use Rattle.serde_json.specs.Read.{float_of, is_integer, max_depth, number_from, number_of, of_items, of_json, of_members, read}
use Rattle.grain_id.specs.Names.{Client, Grain}
use Rattle.silo_event.specs.declared.refusal.Refusal.{Refusal}
use Rattle.silo_event.specs.declared.step.Step.{Step}
use Rattle.silo_event.specs.declared.step.Step.TheVariants.{Status, Deliver, Activate, Begin, End, Abandon, Tick, Sweep}
use Rattle.silo_model.proofs.Tests.{on_found, on_test}
use Rattle.line_parser.specs.Form.{argument_at, call_of, caller_at, failed_at, form_of, grain_asked, grain_at, grain_form, has_members, load_of, message_asked, natural, natural_at, poke_of, state_asked, status_of, step_of_json, step_or_refusal, store_of, sweep_of, text_at, tick_of, turn_alone, unless_refused, where_so}
use Rattle.line_parser.specs.Meaning.{json_of_line, line_limit, meaning_by, meaning_of}
use Rattle.line_parser.specs.declared.line.Line.{Line}
use Rattle.line_parser.specs.declared.line.Line.TheVariants as line
use Rattle.line_parser.specs.declared.line.LineRefusal.TheVariants as refusal
use Rattle.journal_text.specs.Rules.{AsksInRange, IsNumber}

-- ---- numbers of JSON

-- what it is as a number that is not below 0 is below 2^63
abbrev IsFine : Num → Type 0
IsFine n = IfSome (option_and_then natural (as_i64 n)) IsNumber

fine_unsigned : (n : ℕ) → IsFine (unsigned n)
fine_unsigned n =
    on_test (λ b. IfSome (option_and_then natural (if b then Some (pos n) else None)) IsNumber) (nat_lt n (2 ^ 63)) (λ below. ltb-true n (2 ^ 63) below) (λ _. tt)

fine_negative : (n : ℕ) → IsFine (negative (with_sign true n))
fine_negative zero = omega arith
fine_negative (suc n) = tt

fine_float : (b : Bool) (p : Parts) → IfSome (float_of b p) IsFine
fine_float b p =
    on_test (λ c. IfSome (if c then Some (float (nearest binary64 b p)) else None) IsFine) (float_is_finite (nearest binary64 b p)) (λ _. tt) (λ _. tt)

fine_parts : (b : Bool) (p : Parts) → IfSome (number_from b p) IsFine
fine_parts false p =
    on_test (λ c. IfSome (if c then Some (unsigned (digits_of p)) else float_of false p) IsFine) (is_integer p && nat_lt (digits_of p) (2 ^ 64))
    (λ _. fine_unsigned (digits_of p)) (λ _. fine_float false p)
fine_parts true p =
    on_test (λ c. IfSome (if c then Some (negative (with_sign true (digits_of p))) else float_of true p) IsFine)
    (is_integer p && nat_lt 0 (digits_of p) && nat_le (digits_of p) (2 ^ 63)) (λ _. fine_negative (digits_of p)) (λ _. fine_float true p)

fine_text : (s : List ℕ) → IfSome (number_of s) IsFine
unfolding number_of
fine_text s =
    on_test (λ c. IfSome (if c then number_from true (scan (drop 1 s)) else number_from false (scan s)) IsFine) (slice_index s 0 == minus)
    (λ _. fine_parts true (scan (drop 1 s))) (λ _. fine_parts false (scan s))

-- ---- the members of an object that was read

abbrev IsFineData : Data → Type 0
IsFineData (number n) = IsFine n
IsFineData _ = Unit {0}

abbrev AreFine : Members → Type 0
AreFine no_members = Unit {0}
AreFine (member k d ms) = IsFineData d × AreFine ms

abbrev HasFine : Data → Type 0
HasFine (object ms) = AreFine ms
HasFine _ = Unit {0}

put_fine : (k : List ℕ) (d : Data) (ms : Members) → IsFineData d → AreFine ms → AreFine (put k d ms)
put_fine k d no_members fine all = (fine, tt)
put_fine k d (member l e ms) fine all = in_order (slice_cmp nat_cmp k l) (put_fine k d ms fine all.1)
  where
    in_order : (o : Ordering) → AreFine (put k d ms) → AreFine (match_ordering o (member k d (member l e ms)) (member l d ms) (member l e (put k d ms)))
    in_order Less rest = (fine, all)
    in_order Equal rest = (fine, all.1)
    in_order Greater rest = (all.0, rest)

json_fine : (j : json.Json) → IfSome (of_json j) IsFineData
json_fine json.null = tt
json_fine (json.boolean b) = tt
json_fine (json.number s) =
    on_found (λ o. IfSome o IsFine → IfSome (option_map number o) IsFineData) (number_of s) (λ _ _. tt) (λ n _ fine. fine) (fine_text s)
json_fine (json.string s) = tt
json_fine (json.array js) = on_found (λ o. IfSome (option_map array o) IsFineData) (of_items js) (λ _. tt) (λ _ _. tt)
json_fine (json.object ms) = on_found (λ o. IfSome (option_map object o) IsFineData) (of_members ms no_members) (λ _. tt) (λ _ _. tt)

members_fine : (ms : json.Members) (found : Members) → AreFine found → IfSome (of_members ms found) AreFine
members_fine json.no_members found fine = fine
members_fine (json.member k j ms) found fine =
    on_found (λ o. IfSome o IsFineData → IfSome (option_and_then (λ d. of_members ms (put k d found)) o) AreFine) (of_json j) (λ _ _. tt)
    (λ d _ is. members_fine ms (put k d found) (put_fine k d found is fine)) (json_fine j)

has_fine : (j : json.Json) → IfSome (of_json j) HasFine
has_fine json.null = tt
has_fine (json.boolean b) = tt
has_fine (json.number s) = on_found (λ o. IfSome (option_map number o) HasFine) (number_of s) (λ _. tt) (λ _ _. tt)
has_fine (json.string s) = tt
has_fine (json.array js) = on_found (λ o. IfSome (option_map array o) HasFine) (of_items js) (λ _. tt) (λ _ _. tt)
has_fine (json.object ms) =
    on_found (λ o. IfSome o AreFine → IfSome (option_map object o) HasFine) (of_members ms no_members) (λ _ _. tt) (λ _ _ fine. fine) (members_fine ms no_members tt)

found_fine : (k : List ℕ) (ms : Members) → AreFine ms → IfSome (get_member k ms) IsFineData
found_fine k no_members fine = tt
found_fine k (member l e ms) fine = in_order (slice_cmp nat_cmp k l) (found_fine k ms fine.1)
  where
    in_order : (o : Ordering) → IfSome (get_member k ms) IsFineData → IfSome (match_ordering o (get_member k ms) (Some e) (get_member k ms)) IsFineData
    in_order Less rest = rest
    in_order Equal rest = fine.0
    in_order Greater rest = rest

got_fine : (name : List ℕ) (d : Data) → HasFine d → IfSome (get name d) IsFineData
got_fine name (object ms) fine = found_fine name ms fine
got_fine name null fine = tt
got_fine name (boolean b) fine = tt
got_fine name (number n) fine = tt
got_fine name (string s) fine = tt
got_fine name (array ds) fine = tt

number_fine : (d : Data) → IsFineData d → IfSome (as_number d) IsFine
number_fine (number n) fine = fine
number_fine null fine = tt
number_fine (boolean b) fine = tt
number_fine (string s) fine = tt
number_fine (array ds) fine = tt
number_fine (object ms) fine = tt

natural_fits : (name : List ℕ) (d : Data) → HasFine d → IfSome (natural_at name d) IsNumber
natural_fits name d fine =
    on_found (λ o. IfSome o IsFineData → IfSome (option_and_then (λ v. option_and_then (λ n. option_and_then natural (as_i64 n)) (as_number v)) o) IsNumber)
    (get name d) (λ _ _. tt)
    (λ v _ is.
    on_found (λ o. IfSome o IsFine → IfSome (option_and_then (λ n. option_and_then natural (as_i64 n)) o) IsNumber) (as_number v) (λ _ _. tt)
    (λ n _ number. number) (number_fine v is))
    (got_fine name d fine)

-- ---- steps

abbrev Fits : Option Step → Type 0
Fits o = IfSome o AsksInRange

then_fits : {A : Type 0} (o : Option A) (f : A → Option Step) → ((x : A) → Fits (f x)) → Fits (option_and_then f o)
then_fits None f all = tt
then_fits (Some x) f all = all x

number_fits : (o : Option ℕ) (f : ℕ → Option Step) → IfSome o IsNumber → ((n : ℕ) → IsNumber n → Fits (f n)) → Fits (option_and_then f o)
number_fits None f is all = tt
number_fits (Some n) f is all = all n is

map_fits : {A : Type 0} (o : Option A) (f : A → Step) → ((x : A) → AsksInRange (f x)) → Fits (option_map f o)
map_fits None f all = tt
map_fits (Some x) f all = all x

id_fits : (o : Option ℕ) (f : ℕ → Step) → IfSome o IsNumber → ((n : ℕ) → IsNumber n → AsksInRange (f n)) → Fits (option_map f o)
id_fits None f is all = tt
id_fits (Some n) f is all = all n is

so_fits : (b : Bool) (o : Option Step) → Fits o → Fits (where_so b o)
so_fits true o fits = fits
so_fits false o fits = tt

if_fits : (b : Bool) (x y : Option Step) → Fits x → Fits y → Fits (if b then x else y)
if_fits true x y first second = first
if_fits false x y first second = second

refused_fits : (caller : Client) (id : ℕ) (r : Result Step Refusal) → IsNumber id → IfOk r AsksInRange → AsksInRange (step_or_refusal caller id r)
refused_fits caller id (Ok s) is fits = fits
refused_fits caller id (Err why) is fits = is

unless_fits : {A : Type 0} (r : Result A Refusal) (f : A → Result Step Refusal) → ((x : A) → IfOk (f x) AsksInRange) → IfOk (unless_refused r f) AsksInRange
unless_fits (Ok x) f all = all x
unless_fits (Err why) f all = tt

call_fits : (d : Data) → HasFine d → Fits (call_of d)
unfolding call_of
call_fits d fine =
    then_fits (argument_at d) _ (λ argument. then_fits (caller_at d) _ (λ caller. number_fits (natural_at (codes "id") d) _ (natural_fits (codes "id") d fine) (λ id is.
    then_fits (text_at (codes "grain") d) _ (λ grain. map_fits (text_at (codes "method") d) _ (λ method.
    refused_fits caller id _ is (unless_fits (message_asked method argument) _ (λ message. unless_fits (grain_asked grain) _ (λ _. is))))))))

poke_fits : (d : Data) → HasFine d → Fits (poke_of d)
unfolding poke_of
poke_fits d fine =
    so_fits (has_members 5 d) _ (then_fits (caller_at d) _ (λ caller. number_fits (natural_at (codes "id") d) _ (natural_fits (codes "id") d fine) (λ id is.
    then_fits (text_at (codes "grain") d) _ (λ grain. map_fits (get (codes "state") d) _ (λ state.
    refused_fits caller id _ is (unless_fits (state_asked state) _ (λ v. unless_fits (grain_asked grain) _ (λ _. is))))))))

status_fits : (d : Data) → HasFine d → Fits (status_of d)
unfolding status_of
status_fits d fine =
    so_fits (has_members 3 d) _ (then_fits (caller_at d) _ (λ caller. id_fits (natural_at (codes "id") d) (Status caller) (natural_fits (codes "id") d fine) (λ id is. is)))

grain_fits : (make : Grain → Step) (d : Data) → ((g : Grain) → AsksInRange (make g)) → Fits (grain_form make d)
grain_fits make d all = so_fits (has_members 2 d) _ (map_fits (grain_at d) make all)

load_fits : (d : Data) → Fits (load_of d)
unfolding load_of
load_fits d = then_fits (failed_at 2 d) _ (λ failed. map_fits (grain_at d) _ (λ _. tt))

store_fits : (d : Data) → Fits (store_of d)
unfolding store_of
store_fits d = then_fits (failed_at 3 d) _ (λ failed. then_fits (grain_at d) _ (λ grain. map_fits (natural_at (codes "turn") d) _ (λ _. tt)))

tick_fits : (d : Data) → Fits (tick_of d)
unfolding tick_of
tick_fits d = so_fits (has_members 2 d) _ (map_fits (natural_at (codes "now") d) Tick (λ _. tt))

sweep_fits : (d : Data) → Fits (sweep_of d)
unfolding sweep_of
sweep_fits d = so_fits (has_members 1 d) (Some Sweep) tt

form_fits : (op : List ℕ) (d : Data) → HasFine d → Fits (form_of op d)
unfolding form_of
form_fits op d fine =
    if_fits (bytes_eq op (codes "call")) _ _ (call_fits d fine)
    (if_fits (bytes_eq op (codes "poke")) _ _ (poke_fits d fine)
    (if_fits (bytes_eq op (codes "status")) _ _ (status_fits d fine)
    (if_fits (bytes_eq op (codes "deliver")) _ _ (grain_fits Deliver d (λ _. tt))
    (if_fits (bytes_eq op (codes "activate")) _ _ (grain_fits Activate d (λ _. tt))
    (if_fits (bytes_eq op (codes "load")) _ _ (load_fits d)
    (if_fits (bytes_eq op (codes "begin")) _ _ (grain_fits Begin d (λ _. tt))
    (if_fits (bytes_eq op (codes "store")) _ _ (store_fits d)
    (if_fits (bytes_eq op (codes "end")) _ _ (map_fits (turn_alone d) (λ found. End found.0 found.1) (λ _. tt))
    (if_fits (bytes_eq op (codes "abandon")) _ _ (map_fits (turn_alone d) (λ found. Abandon found.0 found.1) (λ _. tt))
    (if_fits (bytes_eq op (codes "tick")) _ _ (tick_fits d)
    (if_fits (bytes_eq op (codes "sweep")) _ None (sweep_fits d) tt)))))))))))

step_fits : (o : Option Data) → IfSome o HasFine → Fits (option_and_then step_of_json o)
unfolding step_of_json
step_fits None fine = tt
step_fits (Some d) fine = then_fits (text_at (codes "op") d) _ (λ op. form_fits op d fine)

-- ---- lines

-- what the line asks, if it does, it asks under a number in range
abbrev pub SaysInRange : Line → Type 0
SaysInRange (line.Step s) = AsksInRange s
SaysInRange _ = Unit {0}

read_fine : (o : Option json.Json) → IfSome (option_and_then of_json o) HasFine
read_fine None = tt
read_fine (Some j) = has_fine j

line_fine : (bytes : List ℕ) → IfSome (json_of_line bytes) HasFine
line_fine bytes = on_test (λ b. IfSome (if b then read bytes else None) HasFine) (is_utf8 bytes) (λ _. read_fine (option_and_then (λ p. json.if_last p.0 p.1) (json.value max_depth (tokens bytes)))) (λ _. tt)

meaning_fits : (o : Option Step) → Fits o → SaysInRange (meaning_by o)
meaning_fits None fits = tt
meaning_fits (Some s) fits = fits

pub meaning_in_range : (bytes : List ℕ) → SaysInRange (meaning_of bytes)
unfolding meaning_of
meaning_in_range [] = tt
meaning_in_range (b ∷ bytes) =
    on_test (λ c. SaysInRange (if c then line.Refusal refusal.TooLong else meaning_by (option_and_then step_of_json (json_of_line (b ∷ bytes)))))
    (nat_lt line_limit (length (b ∷ bytes))) (λ _. tt) (λ _. meaning_fits _ (step_fits (json_of_line (b ∷ bytes)) (line_fine (b ∷ bytes))))
