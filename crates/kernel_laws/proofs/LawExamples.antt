-- Wrong machines that the laws refuse, each on one small state.
use Rattle.std.proofs.Common.{ℕ, zero, suc, ◌+◌, ◌≡◌, ◌≤◌, ap, true, Option, Some, None, List, [], ◌∷◌, refl, arith}
use Rattle.std.specs.FinMap.{empty, get-empty}
use Rattle.std.specs.Prelude.{slice_get}
use Rattle.std.specs.Ordering.{nat_cmp}
use Rattle.ipc_ids.specs.declared.numbers.TaskNo.{TaskNo}
use Rattle.ipc_ids.specs.declared.message.PhoneState.{PhoneState}
use Rattle.ipc_ids.specs.declared.message.PhoneState.TheVariants.{Connected, HungUp}
use Rattle.answerbox.specs.Calls.{call_at, no_calls}
use Rattle.address_space.specs.Areas.{Area}
use Rattle.address_space.specs.Memory.{Memory, no_memory}
use Rattle.switchboard.specs.State.{KernelState}
use Rattle.kernel_laws.specs.KillLaws.{TellsWhereItLed}
use Rattle.kernel_laws.specs.MemoryLaws.{Drops}

abbrev one : TaskNo
one = record { 0 = 1 }

abbrev two : TaskNo
two = record { 0 = 2 }

-- two tasks that are alive, where these are the phones of the first
abbrev phones : List PhoneState → KernelState
phones row = record { tasks = record { alive = true ∷ true ∷ []; phones = row ∷ [] ∷ [] }; calls = no_calls; memory = no_memory; events = 0 }

-- a kill tells nobody of the phone that led to the second task
told_nobody : TellsWhereItLed one (phones (Connected two ∷ [])) (phones (HungUp ∷ [])) → ⊥
told_nobody law =
    let told = law.told 0 two refl (λ e. omega (arith, e)) in
    let none : call_at no_calls told.0 ≡ None = get-empty nat_cmp told.0 in
    let come = told.2.1 in
    absurd (cc (come, none))

-- two areas of the first task, over two stores
abbrev low : Area
low = record { base = 0; pages = 1; rights = 3; store = 1 }

abbrev high : Area
high = record { base = 4096; pages = 1; rights = 3; store = 2 }

abbrev memory : List Area → Memory
memory areas = record { areas = areas ∷ []; stores = empty; next_store = 3 }

-- a number of it
abbrev base_of : Option Area → ℕ
base_of None = 1
base_of (Some a) = a.base

-- the other area goes than the one that was to go
other_gone : Drops (memory (low ∷ high ∷ [])) one low (memory (low ∷ [])) → ⊥
other_gone law = by law.place law.there law.behind where
  by : (i : ℕ) → slice_get (low ∷ high ∷ []) i ≡ Some low → ((j : ℕ) → i ≤ j → slice_get (low ∷ []) j ≡ slice_get (low ∷ high ∷ []) (j + 1)) → ⊥
  by zero there behind = let e : 0 ≡ 4096 = ap base_of (behind 0 (omega arith)) in omega (arith, e)
  by (suc zero) there behind = let e : 4096 ≡ 0 = ap base_of there in omega (arith, e)
  by (suc (suc i)) there behind = cc there

-- both areas go
both_gone : Drops (memory (low ∷ high ∷ [])) one low (memory []) → ⊥
both_gone law = by law.place law.there law.behind where
  by : (i : ℕ) → slice_get (low ∷ high ∷ []) i ≡ Some low → ((j : ℕ) → i ≤ j → slice_get [] j ≡ slice_get (low ∷ high ∷ []) (j + 1)) → ⊥
  by zero there behind = let e : 1 ≡ 4096 = ap base_of (behind 0 (omega arith)) in omega (arith, e)
  by (suc zero) there behind = let e : 4096 ≡ 0 = ap base_of there in omega (arith, e)
  by (suc (suc i)) there behind = cc there
