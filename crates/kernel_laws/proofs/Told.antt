-- What is told, by a number for it, and what holds just where it is told.
use Rattle.std.proofs.Common.{◌≡◌, ℕ, Result, Ok, Err, ap, refl}
use Rattle.std.specs.Prelude.{◌↔◌}
use Rattle.ipc_ids.specs.declared.numbers.Code.{Code}

-- the code of a refusal, and no code else
abbrev pub code_in : {A : Type 0} → Result A Code → ℕ
code_in (Ok x) = 100
code_in (Err code) = code.0

-- where two numbers differ, the one is told and not the other
pub differ : {A : Type 0} {r s : Result A Code} → (code_in r ≡ code_in s → ⊥) → r ≡ s → ⊥
differ other e = other (ap code_in e)

-- it is not told, and what it stands for does not hold
pub never : {A P : Type 0} {r s : Result A Code} → (code_in r ≡ code_in s → ⊥) → (P → ⊥) → r ≡ s ↔ P
never other none = (λ e. absurd (other (ap code_in e)), λ p. absurd (none p))

-- it is told, and holds
pub always : {A P : Type 0} {r : Result A Code} → P → r ≡ r ↔ P
always p = (λ _. p, λ _. refl)
