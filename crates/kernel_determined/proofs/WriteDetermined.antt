-- A write is determined by what is said of it.
use Rattle.std.proofs.Common.{◌≡◌, ℕ, ◌<◌, ◌≤◌, ◌+◌, ◌-◌, ◌⊎◌, inl, inr, List, length, Option, None, Some, refl, sym, ap, subst, ◌∙◌, arith}
use Rattle.std.specs.Cmp.{nat_cmp_total}
use Rattle.std.specs.FinMap.{get, same_map, nat_cmp-IsAntisymmetric}
use Rattle.std.proofs.lemmas.Bool.{cases_eq, cases_lt}
use Rattle.ipc_ids.specs.declared.numbers.StoreNo.{StoreNo}
use Rattle.ipc_ids.specs.declared.numbers.TaskNo.{TaskNo}
use Rattle.address_space.specs.declared.area.Right.TheVariants.{Write}
use Rattle.address_space.specs.Areas.{Area, holder}
use Rattle.address_space.specs.Memory.{Memory, Step, areas_of}
use Rattle.kernel_laws.specs.MemoryLaws.{IsWritable, NoArea, byte_in, byte_at, Writes}
use Rattle.kernel_laws.proofs.OneArea.{found_writable, none_writable}
use Rattle.kernel_determined.specs.MemoryLaw.{IsWholeWrite}
use Rattle.kernel_determined.proofs.Same.{list_same, memory_same, done_same}
use Rattle.std.proofs.lemmas.Option.{none-some, slice_get-get_or}

-- stores with the same bytes, where none comes and none goes
pub stores_same : (a b : Memory) → ((s n : ℕ) → byte_at a s n ≡ byte_at b s n)
    → ((s : ℕ) → get a.stores s ≡ None → get b.stores s ≡ None)
    → ((s : ℕ) → get b.stores s ≡ None → get a.stores s ≡ None) → a.stores ≡ b.stores
stores_same a b bytes to from = same_map nat_cmp_total nat_cmp-IsAntisymmetric a.stores b.stores
    (λ s. at s (get a.stores s) (get b.stores s) refl refl) where
      at : (s : ℕ) (o q : Option (List ℕ)) → get a.stores s ≡ o → get b.stores s ≡ q → o ≡ q
      at s None q e f = sym (to s e) ∙ f
      at s (Some xs) None e f = absurd (none-some xs (sym (from s f) ∙ e))
      at s (Some xs) (Some ys) e f = ap Some (list_same xs ys
          (λ n. ap (λ o. byte_in o n) (sym e) ∙ bytes s n ∙ ap (λ o. byte_in o n) f))

module _ (m : Memory) (a : Area) (at : ℕ) (new : List ℕ) (x y : Memory) (f : Writes m a at new x)
    (g : Writes m a at new y) where
  named : (n : ℕ) → at ≤ a.base + n → a.base + n < at + length new → byte_at x a.store n ≡ byte_at y a.store n
  named n low high =
      let i : ℕ = a.base + n - at in
      let few : i < length new = omega arith in
      let there : a.base + n ≡ at + i = omega arith in
      let there_is = slice_get-get_or new i 0 few in
      f.named i n _ there_is there ∙ sym (g.named i n _ there_is there)

  unnamed : (s n : ℕ) → (s ≡ a.store → (a.base + n < at) ⊎ (at + length new ≤ a.base + n))
      → byte_at x s n ≡ byte_at y s n
  unnamed s n h = f.others s n h ∙ sym (g.others s n h)

  in_store : (n : ℕ) → byte_at x a.store n ≡ byte_at y a.store n
  in_store n = elim (cases_lt (a.base + n) at) [
    | inl low ↦ unnamed a.store n (λ _. inl low)
    | inr from ↦ elim (cases_lt (a.base + n) (at + length new))
        [ inl to ↦ named n from to | inr far ↦ unnamed a.store n (λ _. inr far) ]
  ]

  pub bytes_same : (s n : ℕ) → byte_at x s n ≡ byte_at y s n
  bytes_same s n = elim (cases_eq s a.store) [
    | inl e ↦ subst (λ i. byte_at x i n ≡ byte_at y i n) (sym e) (in_store n)
    | inr ne ↦ unnamed s n (λ e. absurd (ne e))
  ]

module _ (m : Memory) (t : TaskNo) (at : ℕ) (new : List ℕ) (x y : Step (Option StoreNo))
    (f : IsWholeWrite m t at new x) (g : IsWholeWrite m t at new y) where
  by_holder : (o : Option Area) → 1 ≤ length new → holder at (length new) Write (areas_of m t) ≡ o → x ≡ y
  by_holder None some e =
      let none : NoArea (IsWritable m t at (length new)) = λ a r. none_writable m t at (length new) a e r in
      let u = f.lawful.refused some none in
      let v = g.lawful.refused some none in
      done_same x y (u.1 ∙ sym v.1) (u.0 ∙ sym v.0)
  by_holder (Some a) some e =
      let may = found_writable m t at (length new) a e in
      let u = f.lawful.bytes a some may in
      let v = g.lawful.bytes a some may in
      done_same x y
      (memory_same x.memory y.memory (u.1.areas ∙ sym v.1.areas)
      (stores_same x.memory y.memory (bytes_same m a at new x.memory y.memory u.1 v.1)
      (λ s none. g.came s (f.went s none)) (λ s none. f.came s (g.went s none)))
      (u.1.next ∙ sym v.1.next))
      (u.0 ∙ sym v.0)

  pub write_is_determined : x ≡ y
  write_is_determined = elim (cases_lt 0 (length new)) [
    | inl some ↦ by_holder (holder at (length new) Write (areas_of m t)) (omega (arith, some)) refl
    | inr none ↦ let u = f.lawful.none (omega (arith, none)) in let v = g.lawful.none (omega (arith, none)) in
        done_same x y (u.1 ∙ sym v.1) (u.0 ∙ sym v.0)
  ]
