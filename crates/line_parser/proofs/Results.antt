-- What follows where a result is ok, or there is something.
use Rattle.std.proofs.Common.{Option, Some, None, Result, Ok, Err}
use Rattle.std.specs.Prelude.{IfSome, IfOk, OnOk}

pub on_ok : {T E P Q : Type 0} (r : Result T E) → OnOk r P → (P → Q) → OnOk r Q
on_ok (Ok x) p f = f p
on_ok (Err e) p f = tt

pub on_ok₂ : {T E O P Q : Type 0} (r : Result T E) → OnOk r O → OnOk r P → (O → P → Q) → OnOk r Q
on_ok₂ (Ok x) o p f = f o p
on_ok₂ (Err e) o p f = tt

pub on_ok₃ : {T E N O P Q : Type 0} (r : Result T E) → OnOk r N → OnOk r O → OnOk r P → (N → O → P → Q) → OnOk r Q
on_ok₃ (Ok x) n o p f = f n o p
on_ok₃ (Err e) n o p f = tt

pub if_ok_as : {T E : Type 0} {P Q : T → Type 0} (r : Result T E) → IfOk r P → ((x : T) → P x → Q x) → IfOk r Q
if_ok_as (Ok x) p f = f x p
if_ok_as (Err e) p f = tt

pub if_some_as : {T : Type 0} {P Q : T → Type 0} (o : Option T) → IfSome o P → ((x : T) → P x → Q x) → IfSome o Q
if_some_as (Some x) p f = f x p
if_some_as None p f = tt
