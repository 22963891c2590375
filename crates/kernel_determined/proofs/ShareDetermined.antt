-- A share does what is said of it, and is determined by it.
use Rattle.std.proofs.Common.{◌≡◌, ℕ, Bool, true, false, ◌⊎◌, inl, inr, Option, None, Some, refl, sym, ◌∙◌}
use Rattle.std.specs.Prelude.{Result, Ok, Err, ◌==◌, ◌&&◌, if◌then◌else◌}
use Rattle.ipc_ids.specs.declared.numbers.Code.{Code}
use Rattle.ipc_ids.specs.declared.numbers.StoreNo.{StoreNo}
use Rattle.ipc_ids.specs.declared.numbers.TaskNo.{TaskNo}
use Rattle.ipc_ids.specs.Codes.{enoent, eperm, einval, eexist, elimit}
use Rattle.address_space.specs.Areas.{Area, refusal, is_malformed, is_taken, is_full, is_subset}
use Rattle.address_space.specs.Memory.{Memory, Step, IsAdded, areas_of, area_at, share, share_area, share_unless, refused}
use Rattle.address_space.specs.Sound as spaces
use Rattle.address_space.proofs.Rows.{length_share}
use Rattle.switchboard.proofs.Repeats.{by_test}
use Rattle.kernel_laws.specs.MemoryLaws.{IsSharable}
use Rattle.kernel_laws.proofs.LawfulAreas.{sharable, found_at, share_is_lawful}
use Rattle.kernel_determined.specs.AnswerLaw.{IsWholeShare}
use Rattle.kernel_determined.proofs.Same.{areas_same, memory_same, done_same}
use Rattle.kernel_determined.proofs.AreasDetermined.{Comes, cause_same, gives_same}

module _ (m : Memory) (from : TaskNo) (base : ℕ) (to : TaskNo) (target pages rights : ℕ) (sound : spaces.IsSound m)
    (added : IsAdded m to) where
  abbrev given : Area → Area
  given a = record { base = target; pages = pages; rights = rights; store = a.store }

  -- what it can come to where an area can be shared
  record CanShare (told : Result StoreNo Code) : Type 0 where
    area : Area
    sharable : IsSharable m from base pages rights area
    comes : Comes told area.store

  -- what it can come to
  abbrev ShareComes : Result StoreNo Code → Type 0
  ShareComes told = (told ≡ Err enoent) ⊎ ((told ≡ Err eperm) ⊎ CanShare told)

  share_comes : ShareComes (share m from base to target pages rights).told
  share_comes = by_found (area_at m from base) refl where
    by_cause : (a : Area) (b c d : Bool) → Comes (share_unless m to (given a)
        (if b then Some einval else (if c then Some eexist else (if d then Some elimit else None)))).told a.store
    by_cause a true c d = inr (inl refl)
    by_cause a false true d = inr (inr (inl refl))
    by_cause a false false true = inr (inr (inr refl))
    by_cause a false false false = inl refl

    by_found : (o : Option Area) → area_at m from base ≡ o → ShareComes (share_area m to target pages rights o).told
    by_found None is = inl refl
    by_found (Some a) is =
        by_test (λ (s : Step StoreNo). ShareComes s.told) ((a.pages == pages) && is_subset rights a.rights)
        (share_unless m to (given a) (refusal target pages rights (areas_of m to))) (refused m eperm)
        (λ may. inr (inr (record {
          area = a;
          sharable = sharable m from base to target pages rights sound added a (found_at m from base a is) may;
          comes = by_cause a (is_malformed target pages rights) (is_taken target pages (areas_of m to))
              (is_full (areas_of m to));
        })))
        (λ not. inr (inl refl))

  share_told : (x : Step StoreNo) → IsWholeShare m from base to target pages rights x
      → x.told ≡ (share m from base to target pages rights).told
  share_told x f = let law = share_is_lawful m from base to target pages rights sound added in elim share_comes [
    | inl e ↦ f.lawful.gone.1 (law.gone.0 e) ∙ sym e
    | inr o ↦ elim o [
      | inl e ↦ f.lawful.unlike.1 (law.unlike.0 e) ∙ sym e
      | inr can ↦ cause_same m to target pages rights can.area.store x.told _ can.comes
          (f.lawful.cause can.area can.sharable) (law.cause can.area can.sharable)
    ]
  ]

  module _ (x y : Step StoreNo) (f : IsWholeShare m from base to target pages rights x)
      (g : IsWholeShare m from base to target pages rights y) where
    by_told : (r : Result StoreNo Code) → x.told ≡ r → y.told ≡ r → x.memory ≡ y.memory
    by_told (Err code) e h = f.lawful.refused code e ∙ sym (g.lawful.refused code h)
    by_told (Ok store) e h = memory_same x.memory y.memory
        (areas_same x.memory y.memory (f.spaces ∙ sym g.spaces)
        (gives_same m to _ x.memory y.memory (f.lawful.gives store e) (g.lawful.gives store h)))
        (f.lawful.bytes ∙ sym g.lawful.bytes) (f.next ∙ sym g.next)

    pub share_is_determined : x ≡ y
    share_is_determined =
        let told = share_told x f ∙ sym (share_told y g) in
        done_same x y (by_told y.told told refl) told

  pub share_is_whole : IsWholeShare m from base to target pages rights (share m from base to target pages rights)
  share_is_whole = record {
    lawful = share_is_lawful m from base to target pages rights sound added;
    next = by_found (area_at m from base);
    spaces = length_share m from base to target pages rights;
  } where
    by_cause : (a : Area) (o : Option Code) → (share_unless m to (given a) o).memory.next_store ≡ m.next_store
    by_cause a None = refl
    by_cause a (Some code) = refl

    by_found : (o : Option Area) → (share_area m to target pages rights o).memory.next_store ≡ m.next_store
    by_found None = refl
    by_found (Some a) = by_test (λ (s : Step StoreNo). s.memory.next_store ≡ m.next_store)
        ((a.pages == pages) && is_subset rights a.rights)
        (share_unless m to (given a) (refusal target pages rights (areas_of m to))) (refused m eperm)
        (λ _. by_cause a (refusal target pages rights (areas_of m to))) (λ _. refl)
