-- What was answered, by what a part answered.
use Rattle.std.proofs.Common.{◌≡◌, ℕ, ◌<◌, ◌≤◌, List, length, Option, Some, None, Result, Ok, Err, IfOk, sym, ap, subst, ◌∙◌}
use Rattle.serde_json.specs.Data.{Data}
use Rattle.request_codec.specs.Limits.{depth_limit, message_limit}
use Rattle.request_codec.specs.Tree.{Tree, depth}
use Rattle.request_codec.specs.Written.{WritesAll}
use Rattle.request_codec.specs.Answers.{Reads, Writes, read_json, Converts, WritesJson, message_length}
use Rattle.request_codec.specs.Json.{value_of_json}
use Rattle.request_codec.specs.inside.Converted.{Gives}
use Rattle.std.proofs.lemmas.Option.{same_Some}
use Rattle.finite_maps.proofs.Options.{some_none}
use Rattle.request_codec.specs.declared.fault.CodecFault.{CodecFault}
use Rattle.request_codec.specs.declared.fault.CodecFault.TheVariants as faults

-- why nothing was read
abbrev pub Fails : {A : Type 0} → CodecFault → Option A → Type 0
Fails faults.NotAMessage found = found ≡ None
Fails faults.TooDeep found = ⊥
Fails faults.TooLong found = ⊥
Fails faults.NotWhole found = ⊥
Fails faults.NotHex found = ⊥
Fails faults.Memory found = Unit {0}

-- a fault of a part is the whole's fault
pub Fails-whole : {A B : Type 0} (e : CodecFault) (part : Option A) (whole : Option B) → (part ≡ None → whole ≡ None) → Fails e part → Fails e whole
Fails-whole faults.NotAMessage part whole none h = none h
Fails-whole faults.Memory part whole none h = tt
Fails-whole faults.TooDeep part whole none h = absurd h
Fails-whole faults.TooLong part whole none h = absurd h
Fails-whole faults.NotWhole part whole none h = absurd h
Fails-whole faults.NotHex part whole none h = absurd h

-- what was read, and that there was nothing to read
pub Reads-ok : {X A : Type 0} (view : X → A) (r : Result X CodecFault) (found : Option A) → Reads view r found → IfOk r (λ x. found ≡ Some (view x))
Reads-ok view (Ok x) found h = h
Reads-ok view (Err e) found h = tt

pub Reads-none : {X A : Type 0} (view : X → A) (r : Result X CodecFault) (found : Option A) → Reads view r found → r ≡ Err faults.NotAMessage → found ≡ None
Reads-none {X} view r found h is = subst (λ (s : Result X CodecFault). Reads view s found) is h

-- what was not written was too long, or there was no memory
pub Writes-fault : {A : Type 0} (e : CodecFault) (written : A) (v : Tree) (len limit : ℕ) (bytes : List ℕ) → depth v ≤ depth_limit → length bytes ≡ len → WritesAll limit (Err e) bytes → Writes (Err e) written v len limit
Writes-fault faults.TooLong written v len limit bytes deep same h = (deep, subst (λ (n : ℕ). limit < n) same h)
Writes-fault faults.Memory written v len limit bytes deep same h = tt
Writes-fault faults.TooDeep written v len limit bytes deep same h = absurd h
Writes-fault faults.NotWhole written v len limit bytes deep same h = absurd h
Writes-fault faults.NotHex written v len limit bytes deep same h = absurd h
Writes-fault faults.NotAMessage written v len limit bytes deep same h = absurd h

pub WritesJson-fault : (e : CodecFault) (method : List ℕ) (d : Data) (v : Tree) (bytes : List ℕ) → read_json d ≡ Ok v → length bytes ≡ message_length method v → WritesAll message_limit (Err e) bytes
    → WritesJson (Err e) method d
WritesJson-fault faults.TooLong method d v bytes is same h = (v, is, subst (λ (n : ℕ). message_limit < n) same h)
WritesJson-fault faults.Memory method d v bytes is same h = tt
WritesJson-fault faults.TooDeep method d v bytes is same h = absurd h
WritesJson-fault faults.NotWhole method d v bytes is same h = absurd h
WritesJson-fault faults.NotHex method d v bytes is same h = absurd h
WritesJson-fault faults.NotAMessage method d v bytes is same h = absurd h

-- what was converted is what was read
pub Converts-given : {X : Type 0} (view : X → Tree) (r : Result X CodecFault) (d : Data) (v : Tree) → read_json d ≡ Ok v → value_of_json d ≡ Some v → Gives view r (value_of_json d) → Converts view r d
Converts-given view (Ok x) d v is found h = is ∙ ap (λ w. Ok w) (same_Some v (view x) (sym found ∙ h))
Converts-given view (Err faults.NotWhole) d v is found h = absurd (some_none (value_of_json d) v h found)
Converts-given view (Err faults.NotHex) d v is found h = absurd (some_none (value_of_json d) v h found)
Converts-given view (Err faults.Memory) d v is found h = tt
Converts-given view (Err faults.NotAMessage) d v is found h = absurd h
Converts-given view (Err faults.TooDeep) d v is found h = absurd h
Converts-given view (Err faults.TooLong) d v is found h = absurd h
