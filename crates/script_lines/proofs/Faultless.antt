-- What is known of a step of reading that is not at fault.
use Rattle.std.proofs.Common.{◌≡◌, Bool, true, false, cond, Option, Some, None, Result, Ok, Err, refl, ap}
use Rattle.std.specs.Option.{ok_or}
use Rattle.script_lines.specs.declared.fault.Reason.{Reason}
use Rattle.script_lines.specs.declared.fault.Reason.TheVariants.{BadByte, UnknownName, TooManyEvents}
use Rattle.script_lines.specs.Operation.{◌>>=◌}
use Rattle.script_lines.proofs.Soundness.{made_is}

abbrev pub given : {A : Type 0} → A → Result A Reason
given x = Ok x

pub then_ok : {A B : Type 0} (r : Result A Reason) (f : A → Result B Reason) (y : B) → (r >>= f) ≡ Ok y → (x : A) × (r ≡ Ok x) × (f x ≡ Ok y)
then_ok (Ok x) f y e = (x, refl, e)
then_ok (Err reason) f y e = absurd cc

pub given_by :
    {A B : Type 0} (r : Result A Reason) (f : A → B) (v : B) → (r >>= λ x. given (f x)) ≡ Ok v →
    (x : A) × (r ≡ Ok x) × (f x ≡ v)
given_by r f v e = let got = then_ok r (λ x. given (f x)) v e in (got.0, got.1, made_is (f got.0) v got.2)

pub found_is : {A : Type 0} (o : Option A) (x : A) → ok_or o UnknownName ≡ Ok x → o ≡ Some x
found_is (Some z) x e = ap Some (made_is z x e)
found_is None x e = absurd cc

pub chosen_ok : {A : Type 0} (b : Bool) (r : Result A Reason) (y : A) → cond b r (Err BadByte) ≡ Ok y → r ≡ Ok y
chosen_ok true r y e = e
chosen_ok false r y e = absurd cc

pub allowed_ok : {A : Type 0} (b : Bool) (x y : A) → cond b (Err TooManyEvents) (Ok x) ≡ Ok y → (b ≡ false) × (x ≡ y)
allowed_ok true x y e = absurd cc
allowed_ok false x y e = (refl, made_is x y e)
