-- A poke and a peek do what is said of them, and are determined by it.
use Rattle.std.proofs.Common.{◌≡◌, ℕ, ◌≤◌, inl, inr, List, length, Option, None, Some, refl, sym, ap, subst, ◌∙◌, arith}
use Rattle.std.specs.Prelude.{Result, Ok, Err}
use Rattle.std.proofs.lemmas.Bool.{cases_lt}
use Rattle.ipc_ids.specs.declared.numbers.Code.{Code}
use Rattle.ipc_ids.specs.declared.numbers.StoreNo.{StoreNo}
use Rattle.ipc_ids.specs.declared.numbers.TaskNo.{TaskNo}
use Rattle.ipc_ids.specs.declared.message.Request.TheVariants as request
use Rattle.address_space.specs.declared.area.Right.TheVariants.{Read}
use Rattle.address_space.specs.Areas.{Area, holder}
use Rattle.address_space.specs.Memory.{Memory, Step, areas_of, write, peek}
use Rattle.switchboard.specs.State.{KernelState}
use Rattle.switchboard.specs.Sound.{IsSound}
use Rattle.switchboard.specs.Serving.{Served}
use Rattle.kernel_core.specs.Kernel.{serve}
use Rattle.kernel_laws.specs.MemoryLaws.{NoArea, IsReadable, IsLawfulRead, IsLawfulPeek}
use Rattle.kernel_laws.specs.MemoryRequests.{Tells, TellsBytes, written}
use Rattle.kernel_laws.proofs.OneArea.{found_readable, none_readable}
use Rattle.kernel_laws.proofs.LawfulReads.{peek_is_lawful}
use Rattle.kernel_laws.proofs.MemoryRequests.{tells, tells_bytes, written_is}
use Rattle.kernel_determined.specs.MemoryLaw.{IsPoke, IsPeek}
use Rattle.kernel_determined.proofs.Same.{leaves_same}
use Rattle.kernel_determined.proofs.WriteDetermined.{write_is_determined}
use Rattle.kernel_determined.proofs.TakesSo.{write_is_whole}
use Rattle.kernel_determined.proofs.ChecksDetermined.{bytes_read_same}

module _ (t : TaskNo) (k : KernelState) (a b : Served) where
  pub outcome_same : {A : Type 0} (told : Result A Code) → Tells told a.outcome → Tells told b.outcome
      → a.outcome ≡ b.outcome
  outcome_same (Ok x) f g = f ∙ sym g
  outcome_same (Err code) f g = f ∙ sym g

  bytes_told_same : (told : Result (List ℕ) Code) → TellsBytes told a.outcome → TellsBytes told b.outcome
      → a.outcome ≡ b.outcome
  bytes_told_same (Ok x) f g = f ∙ sym g
  bytes_told_same (Err code) f g = f ∙ sym g

  pub poke_is_determined : (at : ℕ) (new : List ℕ) → IsPoke t at new k a → IsPoke t at new k b → a ≡ b
  poke_is_determined at new x y =
      let same : x.step ≡ y.step = write_is_determined k.memory t at new x.step y.step x.write y.write in
      let told = subst (λ (s : Step (Option StoreNo)). Tells s.told a.outcome) same x.told in
      leaves_same k a b _ _ _ _ x.leaves y.leaves (ap (λ (s : Step (Option StoreNo)). s.memory) same)
      (ap (λ (s : Step (Option StoreNo)). written t at (length new) s.told) same) (x.events ∙ sym y.events)
      (outcome_same y.step.told told y.told)

read_same : (m : Memory) (t : TaskNo) (at count : ℕ) (a b : Result (List ℕ) Code) → IsLawfulRead m t at count a
    → IsLawfulRead m t at count b → a ≡ b
read_same m t at count a b f g = elim (cases_lt 0 count) [
  | inr none ↦ let z : count ≡ 0 = omega (arith, none) in f.none z ∙ sym (g.none z)
  | inl some ↦ by_holder a b f g (holder at count Read (areas_of m t)) refl (omega (arith, some))
] where
  by_holder : (a b : Result (List ℕ) Code) → IsLawfulRead m t at count a → IsLawfulRead m t at count b
      → (o : Option Area) → holder at count Read (areas_of m t) ≡ o → 1 ≤ count → a ≡ b
  by_holder a b f g None e some = let none : NoArea (IsReadable m t at count) =
      λ x r. none_readable m t at count x e r in f.refused some none ∙ sym (g.refused some none)
  by_holder (Ok xs) (Ok ys) f g (Some h) e some = ap Ok (bytes_read_same m t at count xs ys f g)
  by_holder (Err x) b f g (Some h) e some = absurd (f.bytes h some (found_readable m t at count h e))
  by_holder (Ok xs) (Err y) f g (Some h) e some = absurd (g.bytes h some (found_readable m t at count h e))

peek_same : (m : Memory) (t : TaskNo) (at count : ℕ) (a b : Result (List ℕ) Code) → IsLawfulPeek m t at count a
    → IsLawfulPeek m t at count b → a ≡ b
peek_same m t at count a b f g = elim (cases_lt 64 count)
    [ inl many ↦ f.many many ∙ sym (g.many many) | inr few ↦ read_same m t at count a b (f.few few) (g.few few) ]

module _ (t : TaskNo) (k : KernelState) (a b : Served) where
  pub peek_is_determined : (at count : ℕ) → IsPeek t at count k a → IsPeek t at count k b → a ≡ b
  peek_is_determined at count x y =
      let same = peek_same k.memory t at count x.told y.told x.read y.read in
      leaves_same k a b _ _ _ _ x.leaves y.leaves refl refl (x.events ∙ sym y.events)
      (bytes_told_same t k a b y.told (subst (λ r. TellsBytes r a.outcome) same x.tells) y.tells)

pub poke_is_so : (k : KernelState) (t : TaskNo) (at : ℕ) (new : List ℕ) → IsSound k
    → IsPoke t at new k (serve k t (request.Poke at new))
poke_is_so k t at new sound =
    let step : Step (Option StoreNo) = write k.memory t at new in
    record {
      step = step;
      write = write_is_whole k.memory t at new sound.memory.spaces;
      told = tells step.told;
      leaves = record {
        memory_after = refl;
        entries = written_is t at (length new) step.told;
        tasks = refl;
        calls = refl;
      };
      events = refl;
    }

pub peek_is_so : (k : KernelState) (t : TaskNo) (at count : ℕ) → IsSound k
    → IsPeek t at count k (serve k t (request.Peek at count))
peek_is_so k t at count sound =
    let told : Result (List ℕ) Code = peek k.memory t at count in
    record {
      told = told;
      read = peek_is_lawful k.memory t at count sound.memory.spaces;
      tells = tells_bytes told;
      leaves = record { memory_after = refl; entries = refl; tasks = refl; calls = refl };
      events = refl;
    }
