-- The making of an area does what is said of it, and is determined by it.
use Rattle.std.proofs.Common.{◌≡◌, ℕ, ◌-◌, ◌*◌, ◌≤◌, Bool, true, false, ◌⊎◌, inl, inr, List, Option, None, Some, refl, sym, ap, subst, ◌∙◌, arith}
use Rattle.std.specs.Prelude.{Result, Ok, Err, replicate, if◌then◌else◌}
use Rattle.std.specs.FinMap.{get}
use Rattle.std.proofs.Math.ListN.{length-set}
use Rattle.std.proofs.lemmas.Bool.{cases_eq, cases_lt}
use Rattle.ipc_ids.specs.declared.numbers.Code.{Code}
use Rattle.ipc_ids.specs.declared.numbers.StoreNo.{StoreNo}
use Rattle.ipc_ids.specs.declared.numbers.TaskNo.{TaskNo}
use Rattle.ipc_ids.specs.declared.message.Request.TheVariants as request
use Rattle.ipc_ids.specs.Codes.{einval, eexist, elimit}
use Rattle.address_space.specs.Areas.{Area, refusal, is_malformed, is_taken, is_full}
use Rattle.address_space.specs.Memory.{Memory, Step, areas_of, make_unless, make}
use Rattle.address_space.specs.Sound as spaces
use Rattle.switchboard.specs.State.{KernelState, is_alive}
use Rattle.switchboard.specs.Sound.{IsSound}
use Rattle.switchboard.specs.Serving.{Served}
use Rattle.kernel_core.specs.Kernel.{serve}
use Rattle.kernel_laws.specs.MemoryLaws.{byte_in, byte_at, IsFirstCause, Gives, IsLawfulMake}
use Rattle.kernel_laws.specs.MemoryRequests.{Tells, made}
use Rattle.kernel_laws.proofs.LawfulAreas.{make_is_lawful}
use Rattle.kernel_laws.proofs.MemoryRequests.{tells, made_is, added}
use Rattle.kernel_determined.specs.MemoryLaw.{IsWholeMake, IsAreaMake}
use Rattle.kernel_determined.proofs.Same.{each_task, areas_same, memory_same, done_same, leaves_same}
use Rattle.kernel_determined.proofs.WriteDetermined.{stores_same}
use Rattle.kernel_determined.proofs.TakesSo.{put_elsewhere}
use Rattle.kernel_determined.proofs.MemoryDetermined.{outcome_same}

-- what the first cause can be
abbrev pub Comes : Result StoreNo Code → ℕ → Type 0
Comes d store = (d ≡ Ok (record { 0 = store })) ⊎ ((d ≡ Err einval) ⊎ ((d ≡ Err eexist) ⊎ (d ≡ Err elimit)))

make_comes : (m : Memory) (t : TaskNo) (base pages rights : ℕ) → Comes (make m t base pages rights).told m.next_store
make_comes m t base pages rights = by (is_malformed base pages rights) (is_taken base pages (areas_of m t))
    (is_full (areas_of m t)) where
      by : (a b c : Bool)
          → Comes (make_unless m t (record { base = base; pages = pages; rights = rights; store = m.next_store })
          (if a then Some einval else (if b then Some eexist else (if c then Some elimit else None)))).told m.next_store
      by true b c = inr (inl refl)
      by false true c = inr (inr (inl refl))
      by false false true = inr (inr (inr refl))
      by false false false = inl refl

pub cause_same : (m : Memory) (t : TaskNo) (base pages rights store : ℕ) (a d : Result StoreNo Code) → Comes d store
    → IsFirstCause m t base pages rights store a → IsFirstCause m t base pages rights store d → a ≡ d
cause_same m t base pages rights store a d (inl e) f g = f.given.1 (g.given.0 e) ∙ sym e
cause_same m t base pages rights store a d (inr (inl e)) f g = f.impossible.1 (g.impossible.0 e) ∙ sym e
cause_same m t base pages rights store a d (inr (inr (inl e))) f g = f.taken.1 (g.taken.0 e) ∙ sym e
cause_same m t base pages rights store a d (inr (inr (inr e))) f g = f.full.1 (g.full.0 e) ∙ sym e

pub gives_same : (m : Memory) (t : TaskNo) (x : Area) (a b : Memory) → Gives m t x a → Gives m t x b → (u : TaskNo)
    → 1 ≤ u.0 → areas_of a u ≡ areas_of b u
gives_same m t x a b f g u some = each_task (areas_of a) (areas_of b) t (f.area ∙ sym g.area) u
    (λ ne. f.others u some ne ∙ sym (g.others u some ne))

none_some : (o : Option (List ℕ)) (n : ℕ) → o ≡ None → byte_in o 0 ≡ Some n → ⊥
none_some o n e f = let g : None ≡ Some n = sym (ap (λ x. byte_in x 0) e) ∙ f in cc

module _ (m : Memory) (t : TaskNo) (base pages rights : ℕ) (sound : spaces.IsSound m)
    (law : IsLawfulMake m t base pages rights (make m t base pages rights)) where
  told_same : (x y : Step StoreNo) → IsWholeMake m t base pages rights x → IsWholeMake m t base pages rights y
      → x.told ≡ y.told
  told_same x y f g =
      let comes = make_comes m t base pages rights in
      cause_same m t base pages rights m.next_store x.told _ comes f.lawful.cause law.cause
      ∙ sym (cause_same m t base pages rights m.next_store y.told _ comes g.lawful.cause law.cause)

  module _ (x y : Step StoreNo) (f : IsWholeMake m t base pages rights x) (g : IsWholeMake m t base pages rights y)
    where
      by_told : (r : Result StoreNo Code) → x.told ≡ r → y.told ≡ r → x.memory ≡ y.memory
      by_told (Err code) e h = f.lawful.refused code e ∙ sym (g.lawful.refused code h)
      by_told (Ok store) e h = memory_same x.memory y.memory
          (areas_same x.memory y.memory (f.spaces ∙ sym g.spaces)
          (gives_same m t _ x.memory y.memory (f.lawful.gives store e) (g.lawful.gives store h)))
          (stores_same x.memory y.memory bytes (λ s none. comes x.memory y.memory x f refl e s none
          (λ ne. g.came s ne (f.went s ne none))) (λ s none. comes y.memory x.memory y g refl h s none
          (λ ne. f.came s ne (g.went s ne none))))
          (f.next store e ∙ sym (g.next store h)) where
            number : (z : Step StoreNo) → IsWholeMake m t base pages rights z → z.told ≡ Ok store
                → (store.0 ≡ m.next_store) × (1 ≤ pages)
            number z w is = elim (make_comes m t base pages rights) [
              | inl d ↦ (let same : Ok store ≡ Ok (record { 0 = m.next_store }) = sym is
                  ∙ cause_same m t base pages rights m.next_store z.told _ (inl d) w.lawful.cause law.cause ∙ d in
                  let one : store ≡ record { 0 = m.next_store } = told_ok store (record { 0 = m.next_store }) same in
                  (ap (λ (s : StoreNo). s.0) one, (law.cause.given.0 d).0.some))
              | inr o ↦ absurd (elim o [
                | inl d ↦ refused_not einval (sym is ∙ cause_same m t base pages rights m.next_store z.told _
                    (inr (inl d)) w.lawful.cause law.cause ∙ d)
                | inr p ↦ elim p [
                  | inl d ↦ refused_not eexist (sym is ∙ cause_same m t base pages rights m.next_store z.told _
                      (inr (inr (inl d))) w.lawful.cause law.cause ∙ d)
                  | inr d ↦ refused_not elimit (sym is ∙ cause_same m t base pages rights m.next_store z.told _
                      (inr (inr (inr d))) w.lawful.cause law.cause ∙ d)
                ]
              ])
            ] where
              told_ok : (s r : StoreNo) → (let a : Result StoreNo Code = Ok s in a) ≡ Ok r → s ≡ r
              told_ok s r q = cc

              refused_not : (code : Code) → (let a : Result StoreNo Code = Ok store in a) ≡ Err code → ⊥
              refused_not code q = cc

            bytes : (s n : ℕ) → byte_at x.memory s n ≡ byte_at y.memory s n
            bytes s n = elim (cases_eq s m.next_store) [
              | inl q ↦ (let own : s ≡ store.0 = q ∙ sym (number x f e).0 in
                  elim (cases_lt n (pages * 4096)) [
                    | inl few ↦ ap (λ i. byte_at x.memory i n) own ∙ (f.lawful.zeros store e n).0 few
                        ∙ sym ((g.lawful.zeros store h n).0 few) ∙ ap (λ i. byte_at y.memory i n) (sym own)
                    | inr far ↦ ap (λ i. byte_at x.memory i n) own ∙ (f.lawful.zeros store e n).1 far
                        ∙ sym ((g.lawful.zeros store h n).1 far) ∙ ap (λ i. byte_at y.memory i n) (sym own)
                  ])
              | inr ne ↦ f.lawful.others s n ne ∙ sym (g.lawful.others s n ne)
            ]

            comes : (a b : Memory) (z : Step StoreNo) → IsWholeMake m t base pages rights z → z.memory ≡ a
                → z.told ≡ Ok store → (s : ℕ) → get a.stores s ≡ None → ((s ≡ m.next_store → ⊥) → get b.stores s ≡ None)
                → get b.stores s ≡ None
            comes a b z w same is s none other = elim (cases_eq s m.next_store) [
              | inl q ↦ (let own : s ≡ store.0 = q ∙ sym (number z w is).0 in
                  let some = (number z w is).1 in
                  let zero_byte : byte_at a store.0 0 ≡ Some 0 = ap (λ (v : Memory). byte_at v store.0 0) (sym same)
                  ∙ (w.lawful.zeros store is 0).0 (omega (arith, some)) in
                  absurd (none_some (get a.stores store.0) 0 (ap (get a.stores) (sym own) ∙ none) zero_byte))
              | inr ne ↦ other ne
            ]

      pub make_is_determined : x ≡ y
      make_is_determined = let told = told_same x y f g in done_same x y (by_told y.told told refl) told

-- ---- the definition

pub make_is_whole : (m : Memory) (t : TaskNo) (base pages rights : ℕ)
    → IsLawfulMake m t base pages rights (make m t base pages rights)
    → IsWholeMake m t base pages rights (make m t base pages rights)
make_is_whole m t base pages rights law = by (refusal base pages rights (areas_of m t)) law where
  new : Area
  new = record { base = base; pages = pages; rights = rights; store = m.next_store }

  by : (o : Option Code)
      → IsLawfulMake m t base pages rights (make_unless m t
      (record { base = base; pages = pages; rights = rights; store = m.next_store }) o)
      → IsWholeMake m t base pages rights (make_unless m t
      (record { base = base; pages = pages; rights = rights; store = m.next_store }) o)
  by (Some code) law = record {
    lawful = law;
    next = λ s e. absurd (cc e);
    spaces = refl;
    came = λ n ne h. h;
    went = λ n ne h. h;
  }
  by None law = record {
    lawful = law;
    next = λ s e. refl;
    spaces = length-set m.areas (t.0 - 1) _;
    came = λ n ne h. put_elsewhere m.stores m.next_store (replicate (pages * 4096) 0) n ne ∙ h;
    went = λ n ne h. sym (put_elsewhere m.stores m.next_store (replicate (pages * 4096) 0) n ne) ∙ h;
  }

pub area_make_is_so : (k : KernelState) (t : TaskNo) (base pages rights : ℕ) → IsSound k → is_alive k t ≡ true
    → IsAreaMake t base pages rights k (serve k t (request.AreaMake base pages rights))
area_make_is_so k t base pages rights sound alive =
    let step : Step StoreNo = make k.memory t base pages rights in
    record {
      step = step;
      make = make_is_whole k.memory t base pages rights
          (make_is_lawful k.memory t base pages rights sound.memory.spaces (added k t sound alive));
      told = tells step.told;
      leaves = record {
        memory_after = refl;
        entries = made_is t base pages rights step.told;
        tasks = refl;
        calls = refl;
      };
      events = refl;
    }

pub area_make_is_determined : (k : KernelState) (t : TaskNo) (base pages rights : ℕ) (a b : Served) → IsSound k
    → is_alive k t ≡ true → IsAreaMake t base pages rights k a → IsAreaMake t base pages rights k b → a ≡ b
area_make_is_determined k t base pages rights a b sound alive x y =
    let law = make_is_lawful k.memory t base pages rights sound.memory.spaces (added k t sound alive) in
    let same : x.step ≡ y.step = make_is_determined k.memory t base pages rights sound.memory.spaces law x.step y.step
    x.make y.make in
    let told = subst (λ (s : Step StoreNo). Tells s.told a.outcome) same x.told in
    leaves_same k a b _ _ _ _ x.leaves y.leaves (ap (λ (s : Step StoreNo). s.memory) same)
    (ap (λ (s : Step StoreNo). made t base pages rights s.told) same) (x.events ∙ sym y.events)
    (outcome_same t k a b y.step.told told y.told)
