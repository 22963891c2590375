-- The law of a kill is the one that is read entry by entry.
use Rattle.std.proofs.Common.{ℕ, ◌≡◌, ◌≤◌, ◌<◌, ◌⊎◌, ◌↔◌, Option, Some, None, List, [], ◌∷◌, ◌++◌, arith, refl, inl, inr, sym, subst, ap, ◌∙◌, true, false, Bool, append_assoc}
use Rattle.std.proofs.lemmas.Bool.{eq-eqb, ne_eqb, cases_eq}
use Rattle.ipc_ids.specs.declared.numbers.TaskNo.{TaskNo}
use Rattle.ipc_ids.specs.declared.entry.Entry.{Entry}
use Rattle.ipc_ids.specs.declared.entry.Entry.TheVariants as entry
use Rattle.ipc_ids.specs.Tales.{Event, Kill, Way, To, Note, Accepted, Tale, Head, On, Other, tale, tales, onto, past}
use Rattle.ipc_ids.specs.Life.{Life, Nowhere, Incoming, Answers, Over, caller_of, life, event, is_killed, last_number, Allowed}
use Rattle.ipc_ids.specs.Lawful.{IsHead, StandsAt}
use Rattle.ipc_ids.specs.Laws.{AllAllowed, LivesAreLawful, ends, HasNoHead, BeginsAnEvent, IsHeldBy, end_in_kill, IsLawfulKill, KillEndsHeldCalls}
use Rattle.ipc_ids.proofs.Pasts.{onto-append, tales-append, past-append}
use Rattle.ipc_ids.proofs.LawfulLists.{ends-append, event_goes_on, same_are_killed, no_head-parts}
use Rattle.law_check.specs.Kills.{heads, kill_of, earlier_kill_of, Ends, EndsWell, MayPlace, KillsFrom, IsLate, KillsFoundLate}
use Rattle.law_check.specs.Allowed.{WasAllowed}
use Rattle.law_check.proofs.AtMostOnce.{HasEnd, above}
use Rattle.law_check.proofs.KillParts.{allowed_parts, no_ends, dropped_is_over, was_held, was_answer, held_calls, waiting_answers, number_goes_on, earlier_stays, kill_stays, earlier_without_head}
use Rattle.law_check.proofs.Late.{earlier_first, kills_of_late, late_of_kills, ends_of, somewhere}
use Rattle.law_check.proofs.Blocks.{le_or_lt}

-- the entry that kills t
kill_entry : (x : Entry) (t : ℕ) → tale x ≡ Head (Kill t) → (u : TaskNo) × (x ≡ entry.Kill u) × (u.0 ≡ t)
kill_entry (entry.Kill u) t h = (u, refl, cc)
kill_entry (entry.Head u asked) t h = cc
kill_entry (entry.Gone u) t h = cc
kill_entry (entry.Spawn u) t h = cc
kill_entry _ t h = cc

past-split :
    (before es later : List Entry) (u : TaskNo) →
    past (before ++ (entry.Kill u ∷ (es ++ later))) ≡ onto (tales later) (onto (tales es) (Head (Kill u.0) ∷ past before))
past-split before es later u =
    past-append before (entry.Kill u ∷ (es ++ later))
    ∙ ap (λ x. onto x (Head (Kill u.0) ∷ past before)) (tales-append es later)
    ∙ onto-append (tales es) (tales later) (Head (Kill u.0) ∷ past before)

nothing_now : (t : ℕ) → (let e : Option Event = None in e ≡ Some (Kill t)) → ⊥
nothing_now t h = cc

append_nil : {A : Type 0} (xs : List A) → xs ++ [] ≡ xs
append_nil [] = refl
append_nil (x ∷ xs) = ap (λ l. x ∷ l) (append_nil xs)

same_event : (a b : Event) → Some a ≡ Some b → a ≡ b
same_event a b h = cc

-- the present event, which kills t, began in these entries, or before them
pub record HasKill (t : ℕ) (xs : List Entry) : Type 0 where
  pub before : List Entry
  pub task : TaskNo
  pub event_of : List Entry
  pub whole : xs ≡ before ++ (entry.Kill task ∷ event_of)
  pub same : task.0 ≡ t
  pub heads : HasNoHead (tales event_of)

abbrev pub Began : ℕ → List Entry → List Tale → Type 0
Began t xs p = (HasNoHead (tales xs) × (event p ≡ Some (Kill t))) ⊎ HasKill t xs

began_step :
    (t : ℕ) (x : Entry) (y : Tale) (xs : List Entry) (p : List Tale) → tale x ≡ y → HasNoHead (tales xs) →
    event (y ∷ p) ≡ Some (Kill t) → Began t (x ∷ xs) p
began_step t x (Head e) xs p same heads now =
    let k = kill_entry x t (same ∙ ap Head (same_event e (Kill t) now)) in
    inr (record { before = []; task = k.0; event_of = xs; whole = ap (λ (z : Entry). z ∷ xs) k.1; same = k.2; heads = heads })
began_step t x (On n w) xs p same heads now = inl (rw (same) heads, now)
began_step t x Other xs p same heads now = inl (rw (same) heads, now)

present_event : (t : ℕ) (xs : List Entry) (p : List Tale) → event (onto (tales xs) p) ≡ Some (Kill t) → Began t xs p
present_event t [] p h = inl (tt, h)
present_event t (x ∷ xs) p h =
    elim (present_event t xs (tale x ∷ p) h) [
      | inr k ↦ inr (record { before = x ∷ k.before; task = k.task; event_of = k.event_of; whole = ap (λ l. x ∷ l) k.whole; same = k.same; heads = k.heads })
      | inl old ↦ began_step t x (tale x) xs p refl old.0 old.1
    ]

-- the first entries, up to the next head, and the others
pub record Cut (xs : List Entry) : Type 0 where
  pub event_of : List Entry
  pub first : Entry
  pub others : List Entry
  pub whole : xs ≡ event_of ++ (first ∷ others)
  pub heads : HasNoHead (tales event_of)
  pub next : IsHead (tale first)

cut_step : (x : Entry) (y : Tale) (xs : List Entry) → tale x ≡ y → HasNoHead (tales xs) ⊎ Cut xs → HasNoHead (y ∷ tales xs) ⊎ Cut (x ∷ xs)
cut_step x (Head e) xs same rest =
    inr (record { event_of = []; first = x; others = xs; whole = refl; heads = tt; next = rw (same) tt })
cut_step x (On n w) xs same (inl none) = inl none
cut_step x (On n w) xs same (inr c) =
    inr (record { event_of = x ∷ c.event_of; first = c.first; others = c.others; whole = ap (λ l. x ∷ l) c.whole; heads = rw (same) c.heads; next = c.next })
cut_step x Other xs same (inl none) = inl none
cut_step x Other xs same (inr c) =
    inr (record { event_of = x ∷ c.event_of; first = c.first; others = c.others; whole = ap (λ l. x ∷ l) c.whole; heads = rw (same) c.heads; next = c.next })

cut : (xs : List Entry) → HasNoHead (tales xs) ⊎ Cut xs
cut [] = inl tt
cut (x ∷ xs) = cut_step x (tale x) xs refl (cut xs)

-- t was killed before the present event: by one of these entries, or before them
pub record HadKill (t : ℕ) (xs : List Entry) : Type 0 where
  pub before : List Entry
  pub task : TaskNo
  pub event_of : List Entry
  pub first : Entry
  pub others : List Entry
  pub whole : xs ≡ before ++ (entry.Kill task ∷ (event_of ++ (first ∷ others)))
  pub same : task.0 ≡ t
  pub heads : HasNoHead (tales event_of)
  pub next : IsHead (tale first)

had_kill : (t : ℕ) (x : Entry) (xs : List Entry) → tale x ≡ Head (Kill t) → Cut xs → HadKill t (x ∷ xs)
had_kill t x xs same c =
    let k = kill_entry x t same in
    record {
      before = [];
      task = k.0;
      event_of = c.event_of;
      first = c.first;
      others = c.others;
      whole = ap (λ (z : Entry). z ∷ xs) k.1 ∙ ap (λ (l : List Entry). entry.Kill k.0 ∷ l) c.whole;
      same = k.2;
      heads = c.heads;
      next = c.next;
    }

-- the first entry kills t, or changes nothing about it
first_kill : (t : ℕ) (y : Tale) (p : List Tale) → 0 < kill_of t (y ∷ p) → (0 < kill_of t p) ⊎ (y ≡ Head (Kill t))
first_kill t (Head (Kill u)) p h = elim (cases_eq u t) [ inl e ↦ inr (ap (λ (n : ℕ). Head (Kill n)) e) | inr apart ↦ inl (rw (ne_eqb u t apart) at h) ]
first_kill t y p h = inl h

kill_before :
    (t : ℕ) (xs : List Entry) (p : List Tale) → 0 < earlier_kill_of t (onto (tales xs) p) →
    (0 < kill_of t p) ⊎ HadKill t xs
kill_before t [] p h = inl (omega (arith, h, earlier_first t p))
kill_before t (x ∷ xs) p h =
    elim (kill_before t xs (tale x ∷ p) h) [
      | inr k ↦ inr (record { before = x ∷ k.before; task = k.task; event_of = k.event_of; first = k.first; others = k.others; whole = ap (λ l. x ∷ l) k.whole; same = k.same; heads = k.heads; next = k.next })
      | inl now ↦ elim (first_kill t (tale x) p now) [
        | inl old ↦ inl old
        | inr same ↦ elim (cut xs) [
          | inr c ↦ inr (had_kill t x xs same c)
          | inl none ↦ inl (rw (same, earlier_without_head t (tales xs) (Head (Kill t) ∷ p) none) at h)
        ]
      ]
    ]

allowed_at : (before rest : List Entry) → LivesAreLawful (before ++ rest) → WasAllowed (past before) × AllAllowed (past before) (tales rest)
allowed_at before rest l = allowed_parts (tales before) (tales rest) [] tt (rw (← tales-append before rest) l)

is_end : (b : Bool) → end_in_kill b ≡ [] → ⊥
is_end true h = cc
is_end false h = cc

held_has_no_end : (t : ℕ) (l : Life) → IsHeldBy t l → HasEnd l → ⊥
held_has_no_end t l h e = grind arith

not_both : (t : ℕ) (l : Life) → l ≡ Over → l ≡ Answers t → ⊥
not_both t l h k = cc

-- a lawful kill leaves nothing with the task
ends_of_kill :
    (t : ℕ) (q es later : List Tale) → WasAllowed (Head (Kill t) ∷ q) → AllAllowed (Head (Kill t) ∷ q) (es ++ later) →
    HasNoHead es → IsLawfulKill t q es later → Ends (Some (Kill t)) (onto es (Head (Kill t) ∷ q))
ends_of_kill t q es later l a heads k =
    let p : List Tale = Head (Kill t) ∷ q in
    let none : (n : ℕ) → IsHeldBy t (life n (onto es p)) → ends n es ≡ [] =
    λ n held. no_ends es later p n a (held_has_no_end t (life n (onto es p)) held) in (
      λ n held. elim (was_held n t es later p a heads refl held) [
        | inl before ↦ is_end (is_killed (caller_of (life n q)) p) (sym (k.held n before) ∙ none n held)
        | inr i ↦ is_end (is_killed i.caller p) (sym (k.accepted n i.caller i.phone i.method i.one i.two i.there) ∙ none n held)
      ],
      λ n before there.
          let old : life n q ≡ Answers t = was_answer n t es later p l a heads refl (subst (λ (m : ℕ). n ≤ m) (number_goes_on es p heads) before) there in
          not_both t (life n (onto es p)) (dropped_is_over es later p n t a (k.answers n old)) there,
    )

past-kill : (before es : List Entry) (u : TaskNo) → past (before ++ (entry.Kill u ∷ es)) ≡ onto (tales es) (Head (Kill u.0) ∷ past before)
past-kill before es u = past-append before (entry.Kill u ∷ es)

module _ (h : List Entry) (l : LivesAreLawful h) (k : KillEndsHeldCalls h) where
  ends_in :
      (before es rest : List Entry) (u : TaskNo) → h ≡ before ++ (entry.Kill u ∷ (es ++ rest)) → HasNoHead (tales es) →
      BeginsAnEvent (tales rest) → Ends (Some (Kill u.0)) (onto (tales es) (Head (Kill u.0) ∷ past before))
  ends_in before es rest u e heads next =
      let a = allowed_at before (entry.Kill u ∷ (es ++ rest)) (subst LivesAreLawful e l) in
      ends_of_kill u.0 (past before) (tales es) (tales rest) (a.0, a.1.0, a.1.1) (rw (← tales-append es rest) a.1.2) heads
      (k before es rest u e heads next)

  ends_at : (before rest : List Entry) (e : Option Event) → h ≡ before ++ rest → BeginsAnEvent (tales rest) → event (past before) ≡ e → Ends e (past before)
  ends_at before rest (Some (Kill t)) whole next now =
      elim (present_event t before [] now) [
        | inl old ↦ absurd (nothing_now t old.1)
        | inr i ↦
            let at : h ≡ i.before ++ (entry.Kill i.task ∷ (i.event_of ++ rest)) =
            whole ∙ ap (λ (xs : List Entry). xs ++ rest) i.whole ∙ append_assoc i.before (entry.Kill i.task ∷ i.event_of) rest in
            let done = ends_in i.before i.event_of rest i.task at i.heads next in
            subst (λ (p : List Tale). Ends (Some (Kill t)) p) (sym (ap past i.whole ∙ past-kill i.before i.event_of i.task))
            (subst (λ (n : ℕ). Ends (Some (Kill n)) (onto (tales i.event_of) (Head (Kill i.task.0) ∷ past i.before))) i.same done)
      ]
  ends_at before rest _ whole next now = tt

  placed_late :
      (before rest : List Entry) (x : Entry) (n : ℕ) (w : Note) (t : ℕ) → h ≡ before ++ (x ∷ rest) → tale x ≡ On n w →
      HadKill t before → StandsAt t (life n (On n w ∷ past before)) → ⊥
  placed_late before rest x n w t whole same i stands =
      let between : List Entry = i.first ∷ i.others in
      let at : h ≡ i.before ++ (entry.Kill i.task ∷ (i.event_of ++ (between ++ (x ∷ rest)))) =
      whole
      ∙ ap (λ (xs : List Entry). xs ++ (x ∷ rest)) i.whole
      ∙ append_assoc i.before (entry.Kill i.task ∷ (i.event_of ++ between)) (x ∷ rest)
      ∙ ap (λ (xs : List Entry). i.before ++ (entry.Kill i.task ∷ xs)) (append_assoc i.event_of between (x ∷ rest)) in
      let done = k i.before i.event_of (between ++ (x ∷ rest)) i.task at i.heads i.next in
      let ways : tales (between ++ (x ∷ rest)) ≡ tales between ++ (On n w ∷ tales rest) =
      tales-append between (x ∷ rest) ∙ ap (λ (y : Tale). tales between ++ (y ∷ tales rest)) same in
      let there : past before ≡ onto (tales between) (onto (tales i.event_of) (Head (Kill i.task.0) ∷ past i.before)) =
      ap past i.whole ∙ past-split i.before i.event_of between i.task in
      done.after n w (tales between) (tales rest) ways
      (subst (λ (p : List Tale). StandsAt i.task.0 (life n (On n w ∷ p))) there (subst (λ (m : ℕ). StandsAt m (life n (On n w ∷ past before))) (sym i.same) stands))

  place_at :
      (before rest : List Entry) (x : Entry) (n : ℕ) (w : Note) → h ≡ before ++ (x ∷ rest) → tale x ≡ On n w →
      MayPlace (past before) n w
  place_at before rest x n w whole same t stands =
      elim (cases_eq (earlier_kill_of t (past before)) 0) [
        | inl zero ↦ zero
        | inr some ↦ elim (kill_before t before [] (omega (arith, some))) [
          | inl old ↦ absurd (omega (arith, old))
          | inr i ↦ absurd (placed_late before rest x n w t whole same i stands)
        ]
      ]

  kills_step :
      (before rest : List Entry) (x : Entry) (y : Tale) → h ≡ before ++ (x ∷ rest) → tale x ≡ y →
      KillsFrom (y ∷ past before) (tales rest) → KillsFrom (past before) (y ∷ tales rest)
  kills_step before rest x (Head e) whole same next =
      (ends_at before (x ∷ rest) (event (past before)) whole (rw (same) tt) refl, next)
  kills_step before rest x (On n w) whole same next = (place_at before rest x n w whole same, next)
  kills_step before rest x Other whole same next = next

  kills_from : (rest before : List Entry) → h ≡ before ++ rest → KillsFrom (past before) (tales rest)
  kills_from [] before whole = ends_at before [] (event (past before)) whole tt refl
  kills_from (x ∷ rest) before whole =
      kills_step before rest x (tale x) whole refl
      (subst (λ (p : List Tale). KillsFrom p (tales rest)) (past-append before (x ∷ []))
      (kills_from rest (before ++ (x ∷ [])) (whole ∙ sym (append_assoc before (x ∷ []) rest))))

pub kills_from_law : (h : List Entry) → LivesAreLawful h → KillEndsHeldCalls h → KillsFrom [] (tales h)
kills_from_law h l k = kills_from h l k h [] refl

-- and back
kills_parts : (xs ys p : List Tale) → KillsFrom p (xs ++ ys) → KillsFrom (onto xs p) ys
kills_parts [] ys p k = k
kills_parts (Head e ∷ xs) ys p k = kills_parts xs ys (Head e ∷ p) k.1
kills_parts (On n w ∷ xs) ys p k = kills_parts xs ys (On n w ∷ p) k.1
kills_parts (Other ∷ xs) ys p k = kills_parts xs ys (Other ∷ p) k

ends_first : (es p : List Tale) → BeginsAnEvent es → KillsFrom p es → EndsWell p
ends_first [] p b k = k
ends_first (Head e ∷ es) p b k = k.0
ends_first (On n w ∷ es) p b k = absurd b
ends_first (Other ∷ es) p b k = absurd b

-- a later event comes first
killed_earlier :
    (t n : ℕ) (w : Note) (one two p : List Tale) → BeginsAnEvent (one ++ (On n w ∷ two)) → 0 < kill_of t p →
    0 < earlier_kill_of t (onto one p)
killed_earlier t n w [] two p b h = absurd b
killed_earlier t n w (Head e ∷ one) two p b h = earlier_stays t one (Head e ∷ p) h
killed_earlier t n w (On m v ∷ one) two p b h = absurd b
killed_earlier t n w (Other ∷ one) two p b h = absurd b

kills_now : (t : ℕ) (q : List Tale) → 0 < kill_of t (Head (Kill t) ∷ q)
kills_now t q = rw (eq-eqb t t refl) (omega arith)

no_ends_before : (es p : List Tale) (n : ℕ) → WasAllowed p → (rest : List Tale) → AllAllowed p (es ++ rest) → life n (onto es p) ≡ Nowhere → ends n es ≡ []
no_ends_before es p n l rest a there = no_ends es rest p n a (λ e. nowhere_ends (life n (onto es p)) there e) where
  nowhere_ends : (l : Life) → l ≡ Nowhere → HasEnd l → ⊥
  nowhere_ends l h e = grind arith

-- an acceptance comes first of all that happens to a call
accepted_first :
    (p : List Tale) (n u phone method : ℕ) (way : Way) (l : Life) → Allowed p n (Accepted u phone method way) l →
    l ≡ Nowhere
accepted_first p n u phone method way l a = grind arith

known_number : (n t : ℕ) (q : List Tale) → WasAllowed q → life n q ≡ Answers t → n ≤ last_number q
known_number n t q l there =
    elim (le_or_lt n (last_number q)) [
      | inl before ↦ before
      | inr new ↦ absurd (somewhere t (life n q) there (above q l n new))
    ]

module _
    (t : ℕ) (q es later : List Tale) (l : WasAllowed (Head (Kill t) ∷ q))
    (a : AllAllowed (Head (Kill t) ∷ q) (es ++ later)) (heads : HasNoHead es) (next : BeginsAnEvent later)
    (kills : KillsFrom (onto es (Head (Kill t) ∷ q)) later) where
  at_end : Ends (Some (Kill t)) (onto es (Head (Kill t) ∷ q))
  at_end =
      ends_of t (onto es (Head (Kill t) ∷ q)) (event_goes_on es (Head (Kill t) ∷ q) (Kill t) heads refl)
      (ends_first later (onto es (Head (Kill t) ∷ q)) next kills)

  accepted_end :
      (n u phone method : ℕ) (one two : List Tale) →
      es ≡ one ++ (On n (Accepted u phone method (To t)) ∷ two) →
      ends n es ≡ end_in_kill (is_killed u (Head (Kill t) ∷ q))
  accepted_end n u phone method one two e =
      let h : List Tale = Head (Kill t) ∷ q in
      let w : Note = Accepted u phone method (To t) in
      let p : List Tale = onto one h in
      let split : es ++ later ≡ one ++ (On n w ∷ (two ++ later)) =
      ap (λ (xs : List Tale). xs ++ later) e ∙ append_assoc one (On n w ∷ two) later in
      let parts = allowed_parts one (On n w ∷ (two ++ later)) h l (subst (λ (xs : List Tale). AllAllowed h xs) split a) in
      let no_heads : HasNoHead one × HasNoHead (On n w ∷ two) = no_head-parts one (On n w ∷ two) (subst HasNoHead e heads) in
      let now : event p ≡ Some (Kill t) = event_goes_on one h (Kill t) no_heads.0 refl in
      let at : onto es h ≡ onto two (On n w ∷ p) = ap (λ x. onto x h) e ∙ onto-append one (On n w ∷ two) h in
      let here : life n (On n w ∷ p) ≡ Incoming u t = rw (eq-eqb n n refl) refl in
      let first : ends n one ≡ [] =
      no_ends_before one h n l (On n w ∷ (two ++ later)) (subst (λ (xs : List Tale). AllAllowed h xs) split a)
      (accepted_first p n u phone method (To t) (life n p) parts.1.1) in
      let rest : ends n two ≡ end_in_kill (is_killed (caller_of (life n (On n w ∷ p))) (On n w ∷ p)) =
      held_calls n t two later (On n w ∷ p) parts.1.2 no_heads.1 now (subst (λ (x : Life). IsHeldBy t x) (sym here) refl)
      (subst (λ (x : List Tale). IsHeldBy t (life n x) → ⊥) at (at_end.0 n)) in
      let second : ends n (On n w ∷ two) ≡ ends n two = rw (eq-eqb n n refl) refl in
      ap (ends n) e
      ∙ ends-append n one (On n w ∷ two)
      ∙ ap (λ (xs : List Note). xs ++ ends n (On n w ∷ two)) first
      ∙ second
      ∙ rest
      ∙ ap (λ (x : Life). end_in_kill (is_killed (caller_of x) p)) here
      ∙ ap end_in_kill (same_are_killed one h u no_heads.0)

  placed_after :
      (n : ℕ) (w : Note) (one two : List Tale) → later ≡ one ++ (On n w ∷ two) →
      StandsAt t (life n (On n w ∷ onto one (onto es (Head (Kill t) ∷ q)))) → ⊥
  placed_after n w one two e stands =
      let p : List Tale = onto es (Head (Kill t) ∷ q) in
      let here = kills_parts one (On n w ∷ two) p (subst (λ (xs : List Tale). KillsFrom p xs) e kills) in
      let dead : 0 < kill_of t p = kill_stays t es (Head (Kill t) ∷ q) (kills_now t q) in
      let earlier : 0 < earlier_kill_of t (onto one p) = killed_earlier t n w one two p (subst BeginsAnEvent e next) dead in
      absurd (omega (arith, earlier, here.0 t stands))

  kill_is_lawful : IsLawfulKill t q es later
  kill_is_lawful =
      record {
        held = λ n o. held_calls n t es later (Head (Kill t) ∷ q) a heads refl o (at_end.0 n);
        accepted = accepted_end;
        answers = λ n o. waiting_answers n t es later (Head (Kill t) ∷ q) a heads refl o
            (λ there. at_end.1 n (subst (λ (m : ℕ). n ≤ m) (sym (number_goes_on es (Head (Kill t) ∷ q) heads)) (known_number n t q l.0 o)) there);
        after = placed_after;
      }

pub law_from_kills : (h : List Entry) → LivesAreLawful h → KillsFrom [] (tales h) → KillEndsHeldCalls h
law_from_kills h l k before es later u e heads next =
    let a = allowed_at before (entry.Kill u ∷ (es ++ later)) (subst LivesAreLawful e l) in
    let all : tales h ≡ tales before ++ (Head (Kill u.0) ∷ (tales es ++ tales later)) =
    ap tales e ∙ tales-append before (entry.Kill u ∷ (es ++ later)) ∙ ap (λ (xs : List Tale). tales before ++ (Head (Kill u.0) ∷ xs)) (tales-append es later) in
    let rest = kills_parts (tales before) (Head (Kill u.0) ∷ (tales es ++ tales later)) [] (subst (λ (xs : List Tale). KillsFrom [] xs) all k) in
    kill_is_lawful u.0 (past before) (tales es) (tales later) (a.0, a.1.0, a.1.1)
    (subst (λ (xs : List Tale). AllAllowed (Head (Kill u.0) ∷ past before) xs) (tales-append es later) a.1.2) heads next
    (kills_parts (tales es) (tales later) (Head (Kill u.0) ∷ past before) rest.1)

none_at_first : (n t : ℕ) → IsLate [] n t → ⊥
none_at_first n t late = grind arith

-- the law of a kill is the one that is found late
pub late_kills_are_law : (h : List Entry) → LivesAreLawful h → KillsFoundLate [] (tales h) ↔ KillEndsHeldCalls h
late_kills_are_law h l = (
  λ told. law_from_kills h l (kills_of_late (tales h) [] tt l told),
  λ k. late_of_kills (tales h) [] tt l none_at_first (kills_from_law h l k),
)
