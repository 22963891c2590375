-- One step of reading words: what holds of what a step gives holds behind it.
use Rattle.std.proofs.Common.{◌≡◌, Option, Some, None, Result, Ok, Err, refl}
use Rattle.std.specs.Prelude.{IfOk, IfSome}
use Rattle.script_lines.specs.declared.fault.Reason.{Reason}
use Rattle.script_lines.specs.Operation.{◌>>=◌, needed}

abbrev pub Any : {A : Type 0} → A → Type 0
Any x = x ≡ x

pub any : {A : Type 0} (o : Option A) → IfSome o Any
any (Some x) = refl
any None = tt

pub some_then : {A B : Type 0} (P : A → Type 0) (Q : B → Type 0) (o : Option A) (f : A → Result B Reason) → IfSome o P → ((x : A) → P x → IfOk (f x) Q) → IfOk (needed o >>= f) Q
some_then P Q (Some x) f is goes = goes x is
some_then P Q None f is goes = tt

pub ok_then : {A B : Type 0} (P : A → Type 0) (Q : B → Type 0) (r : Result A Reason) (f : A → Result B Reason) → IfOk r P → ((x : A) → P x → IfOk (f x) Q) → IfOk (r >>= f) Q
ok_then P Q (Ok x) f is goes = goes x is
ok_then P Q (Err reason) f is goes = tt
