-- The law of shared areas is the one that is read entry by entry.
use Rattle.std.proofs.Common.{ℕ, ◌≡◌, ◌<◌, ◌≤◌, ◌⊎◌, ◌↔◌, Option, Some, None, List, [], ◌∷◌, refl, inl, inr, arith, eq-eqb, ne_eqb}
use Rattle.ipc_ids.specs.declared.numbers.TaskNo.{TaskNo}
use Rattle.ipc_ids.specs.declared.numbers.CallNo.{CallNo}
use Rattle.ipc_ids.specs.declared.numbers.StoreNo.{StoreNo}
use Rattle.ipc_ids.specs.declared.numbers.Label.{Label}
use Rattle.ipc_ids.specs.declared.message.Request.TheVariants as request
use Rattle.ipc_ids.specs.declared.entry.Entry.{Entry}
use Rattle.ipc_ids.specs.declared.entry.Entry.TheVariants as entry
use Rattle.ipc_ids.specs.Methods.{data_read}
use Rattle.ipc_ids.specs.Tales.{tale, tales}
use Rattle.ipc_ids.specs.Life.{last_number}
use Rattle.ipc_ids.specs.Laws.{IsAllowed, AllAllowed, LivesAreLawful}
use Rattle.ipc_ids.specs.Holdings.{present, making}
use Rattle.ipc_ids.specs.AreaLaw.{HasMethod, Delivers, Pokes, AcceptsWrite, TakesRead, IsLawfulEntry, AllLawful, AreasAreLawful}
use Rattle.law_check.specs.AreaSteps.{wants_in, wants, Reads, IsServed, Receives, MayCome, AreasFrom}
use Rattle.law_check.specs.Allowed.{WasAllowed}

-- only a number up to the last has a making
made_is_known : (p : List Entry) (n method : ℕ) → WasAllowed (tales p) → HasMethod method (making n p) → n ≤ last_number (tales p)
made_is_known [] n method l h = absurd h
made_is_known (e ∷ p) n method l h = grind (arith, eq-eqb, ne_eqb, made_is_known p n method l.0, l.1)

-- what was wanted before is wanted of calls that are known
wants_known : (p : List Entry) (m : ℕ) → WasAllowed (tales p) → wants p ≡ Some m → m ≤ last_number (tales p)
wants_known [] m l h = cc
wants_known (e ∷ p) m l h = grind (arith, wants_known p m l.0, l.1)

-- what is served stays so over an entry that says nothing of it
abbrev pub Served : List Entry → List Entry → Type 0
Served p es = IsServed (wants p) p es

over_delivery :
    (w : Option ℕ) (p es : List Entry) (n : CallNo) (t : TaskNo) →
    IsServed w p (entry.Delivered n t ∷ es) ↔ IsServed w (entry.Delivered n t ∷ p) es
over_delivery None p es n t = (λ s. tt, λ s. tt)
over_delivery (Some m) p es n t = (
  λ r. (r.0, r.1, r.2, elim r.3 [ inl before ↦ inl (inr before) | inr later ↦ elim later [ inl here ↦ inl (inl here) | inr after ↦ inr after ] ]),
  λ r. (r.0, r.1, r.2, elim r.3 [ inl before ↦ elim before [ inl here ↦ inr (inl here) | inr first ↦ inl first ] | inr later ↦ inr (inr later) ]),
)

over_acceptance :
    (w : Option ℕ) (p es : List Entry) (n : CallNo) (from : Label) (method : ℕ) (to : Option TaskNo) →
    ((m : ℕ) → w ≡ Some m → m < n.0) →
    IsServed w p (entry.Accepted n from method to ∷ es) ↔ IsServed w (entry.Accepted n from method to ∷ p) es
over_acceptance None p es n from method to new = (λ s. tt, λ s. tt)
over_acceptance (Some m) p es n from method to new =
    let low : m < n.0 = new m refl in (
      λ r. (r.0, r.1, rw (ne_eqb n.0 r.0 (λ e. not_same low r.1 e)) r.2, r.3),
      λ r. (r.0, r.1, (rw (ne_eqb n.0 r.0 (λ e. not_same low r.1 e)) at r.2), r.3),
    )
  where
    not_same : {m n k : ℕ} → m < n → k ≤ m → n ≡ k → ⊥
    not_same a b c = omega (arith, a, b, c)

new_number : (p : List Entry) (n : CallNo) (from : Label) (method : ℕ) (to : Option TaskNo) → WasAllowed (tales p) → IsAllowed (tales p) (tale (entry.Accepted n from method to)) → (m : ℕ) → wants p ≡ Some m → m < n.0
new_number p n from method to l a m w = grind (arith, wants_known p m l w)

-- a write says nothing of deliveries
over_write :
    (w : Option ℕ) (p es : List Entry) (t : TaskNo) (at count : ℕ) (store : StoreNo) →
    IsServed w p es ↔ IsServed w (entry.Wrote t at count store ∷ p) es
over_write None p es t at count store = (λ s. tt, λ s. tt)
over_write (Some m) p es t at count store = (λ s. s, λ s. s)

reads_of : (p es : List Entry) (t u : TaskNo) → WasAllowed (tales p) → ⊥ ⊎ ⊥ ⊎ TakesRead t p es → Reads (last_number (tales p)) p es
reads_of p es t u l (inl h) = absurd h
reads_of p es t u l (inr (inl h)) = absurd h
reads_of p es t u l (inr (inr r)) = (r.1, made_is_known p r.1 data_read l r.2, r.2, r.3)

-- a write, by the head of the event
served_write :
    (x : Option Entry) (w : Option ℕ) (p es : List Entry) (t : TaskNo) (at count : ℕ) (store : StoreNo) →
    WasAllowed (tales p) → IsServed w p es → (Pokes t x ⊎ AcceptsWrite t p x ⊎ TakesRead t p es) →
    IsServed (wants_in x w (last_number (tales p))) (entry.Wrote t at count store ∷ p) es
served_write (Some (entry.Head u request.Receive)) None p es t at count store l served sort = reads_of p es t u l sort
served_write (Some (entry.Head u request.Receive)) (Some m) p es t at count store l served sort = served
served_write _ w p es t at count store l served sort = (over_write w p es t at count store).0 served

-- the write was wanted, and what was wanted before it
wrote_before :
    (x : Option Entry) (w : Option ℕ) (p es : List Entry) (t : TaskNo) (at count : ℕ) (store : StoreNo) (now : ℕ) →
    IsServed (wants_in x w now) (entry.Wrote t at count store ∷ p) es → IsServed w p es
wrote_before x None p es t at count store now served = tt
wrote_before (Some (entry.Head u request.Receive)) (Some m) p es t at count store now served = served
wrote_before _ (Some m) p es t at count store now served = served

wrote_here :
    (x : Option Entry) (w : Option ℕ) (p es : List Entry) (t : TaskNo) (at count : ℕ) (store : StoreNo) (now : ℕ) →
    IsServed (wants_in x w now) (entry.Wrote t at count store ∷ p) es → Receives t x →
    (n : ℕ) × HasMethod data_read (making n p) × (Delivers n p ⊎ Delivers n es)
wrote_here (Some (entry.Head u request.Receive)) None p es t at count store now served r = (served.0, served.2, served.3)
wrote_here (Some (entry.Head u request.Receive)) (Some m) p es t at count store now served r = (served.0, served.2, served.3)
wrote_here _ w p es t at count store now served r = cc

kind_of_write : (t : TaskNo) (p es : List Entry) → (Pokes t (present p) ⊎ AcceptsWrite t p (present p) ⊎ TakesRead t p es) → Pokes t (present p) ⊎ AcceptsWrite t p (present p) ⊎ Receives t (present p)
kind_of_write t p es (inl h) = inl h
kind_of_write t p es (inr (inl h)) = inr (inl h)
kind_of_write t p es (inr (inr h)) = inr (inr h.0)

-- an entry that says nothing of writes
over_other : (w : Option ℕ) (p es : List Entry) (e : Entry) → wants (e ∷ p) ≡ wants p → ((m : ℕ) → Reads m p (e ∷ es) → Reads m (e ∷ p) es) → ((m : ℕ) → Reads m (e ∷ p) es → Reads m p (e ∷ es)) → IsServed w p (e ∷ es) ↔ IsServed w (e ∷ p) es
over_other None p es e same to back = (λ s. tt, λ s. tt)
over_other (Some m) p es e same to back = (to m, back m)

-- a head delivers nothing more
at_head : (w : Option ℕ) (p es : List Entry) (e : Entry) → ((n : ℕ) → Delivers n (e ∷ es) → ⊥) → IsServed w p (e ∷ es) ↔ IsServed w p []
at_head None p es e none = (λ s. tt, λ s. tt)
at_head (Some m) p es e none = (
  λ r. (r.0, r.1, r.2, elim r.3 [ inl before ↦ inl before | inr later ↦ absurd (none r.0 later) ]),
  λ r. (r.0, r.1, r.2, elim r.3 [ inl before ↦ inl before | inr later ↦ absurd later ]),
)

write_skipped :
    (w : Option ℕ) (p es : List Entry) (t : TaskNo) (at count : ℕ) (store : StoreNo) →
    IsServed w p (entry.Wrote t at count store ∷ es) ↔ IsServed w p es
write_skipped None p es t at count store = (λ s. tt, λ s. tt)
write_skipped (Some m) p es t at count store = (λ s. s, λ s. s)

module _ (p es : List Entry) where
  step_on :
      (e : Entry) → WasAllowed (tales p) → IsAllowed (tales p) (tale e) → Served p (e ∷ es) → IsLawfulEntry p e es →
      MayCome p e × Served (e ∷ p) es
  step_on (entry.Head t asked) l a s lawful = ((at_head (wants p) p es (entry.Head t asked) (λ n d. d)).0 s, tt)
  step_on (entry.Kill t) l a s lawful = ((at_head (wants p) p es (entry.Kill t) (λ n d. d)).0 s, tt)
  step_on (entry.Gone t) l a s lawful = ((at_head (wants p) p es (entry.Gone t) (λ n d. d)).0 s, tt)
  step_on (entry.Spawn t) l a s lawful = ((at_head (wants p) p es (entry.Spawn t) (λ n d. d)).0 s, tt)
  step_on (entry.Wrote t at count store) l a s lawful = (
    (kind_of_write t p es lawful.0, lawful.1),
    served_write (present p) (wants p) p es t at count store l ((write_skipped (wants p) p es t at count store).0 s) lawful.0,
  )
  step_on (entry.Accepted n from method to) l a s lawful =
      (tt, (over_acceptance (wants p) p es n from method to (new_number p n from method to l a)).0 s)
  step_on (entry.Delivered n t) l a s lawful = (tt, (over_delivery (wants p) p es n t).0 s)
  step_on (entry.AreaMade t base pages rights store) l a s lawful =
      (lawful, (over_other (wants p) p es (entry.AreaMade t base pages rights store) refl (λ m r. r) (λ m r. r)).0 s)
  step_on e l a s lawful = (tt, (over_other (wants p) p es e refl (λ m r. r) (λ m r. r)).0 s)

  step_back :
      (e : Entry) → WasAllowed (tales p) → IsAllowed (tales p) (tale e) → MayCome p e → Served (e ∷ p) es →
      IsLawfulEntry p e es × Served p (e ∷ es)
  step_back (entry.Head t asked) l a may s = (tt, (at_head (wants p) p es (entry.Head t asked) (λ n d. d)).1 may)
  step_back (entry.Kill t) l a may s = (tt, (at_head (wants p) p es (entry.Kill t) (λ n d. d)).1 may)
  step_back (entry.Gone t) l a may s = (tt, (at_head (wants p) p es (entry.Gone t) (λ n d. d)).1 may)
  step_back (entry.Spawn t) l a may s = (tt, (at_head (wants p) p es (entry.Spawn t) (λ n d. d)).1 may)
  step_back (entry.Wrote t at count store) l a may s = (
    (
      elim may.0 [
        | inl pokes ↦ inl pokes
        | inr more ↦ elim more [
          | inl accepts ↦ inr (inl accepts)
          | inr receives ↦
              let here = wrote_here (present p) (wants p) p es t at count store (last_number (tales p)) s receives in
              inr (inr (receives, here.0, here.1, here.2))
        ]
      ],
      may.1,
    ),
    (write_skipped (wants p) p es t at count store).1 (wrote_before (present p) (wants p) p es t at count store (last_number (tales p)) s),
  )
  step_back (entry.Accepted n from method to) l a may s =
      (tt, (over_acceptance (wants p) p es n from method to (new_number p n from method to l a)).1 s)
  step_back (entry.Delivered n t) l a may s = (tt, (over_delivery (wants p) p es n t).1 s)
  step_back (entry.AreaMade t base pages rights store) l a may s =
      (may, (over_other (wants p) p es (entry.AreaMade t base pages rights store) refl (λ m r. r) (λ m r. r)).1 s)
  step_back e l a may s = (tt, (over_other (wants p) p es e refl (λ m r. r) (λ m r. r)).1 s)

areas_from : (es p : List Entry) → WasAllowed (tales p) → AllAllowed (tales p) (tales es) → Served p es → AllLawful p es → AreasFrom p es
areas_from [] p l a s lawful = s
areas_from (e ∷ es) p l a s lawful =
    let step = step_on p es e l a.1 s lawful.0 in
    (step.0, areas_from es (e ∷ p) (l, a.0, a.1) a.2 step.1 lawful.1)

areas_back : (es p : List Entry) → WasAllowed (tales p) → AllAllowed (tales p) (tales es) → AreasFrom p es → AllLawful p es × Served p es
areas_back [] p l a s = (tt, s)
areas_back (e ∷ es) p l a s =
    let rest = areas_back es (e ∷ p) (l, a.0, a.1) a.2 s.1 in
    let step = step_back p es e l a.1 s.0 rest.1 in
    ((step.0, rest.0), step.1)

pub areas_are_law : (h : List Entry) → LivesAreLawful h → AreasFrom [] h ↔ AreasAreLawful h
areas_are_law h l = (λ a. (areas_back h [] tt l a).0, λ a. areas_from h [] tt l tt a)
