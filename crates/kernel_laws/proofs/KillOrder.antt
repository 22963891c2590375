-- What waited at the task that is killed ends before what it held.
use Rattle.std.proofs.Common.{◌≡◌, ℕ, ◌+◌, Bool, true, false, ◌⊎◌, inl, inr, Option, None, Some, List, [], ◌∷◌, ◌++◌, append_assoc, length, refl, ap, sym, subst, ◌∙◌}
use Rattle.std.specs.Prelude.{◌==◌}
use Rattle.std.proofs.lemmas.Bool.{cases_eq, eq-eqb, false≢true}
use Rattle.std.specs.Option.{option_to_list}
use Rattle.std.proofs.lemmas.Option.{same_Some}
use Rattle.ipc_ids.specs.declared.numbers.TaskNo.{TaskNo}
use Rattle.ipc_ids.specs.declared.numbers.Label.{Label}
use Rattle.ipc_ids.specs.declared.message.PhoneState.{PhoneState}
use Rattle.ipc_ids.specs.declared.message.PhoneState.TheVariants.{Free, Connected, Slammed}
use Rattle.ipc_ids.specs.declared.entry.Entry.{Entry}
use Rattle.ipc_ids.specs.Codes.{ehangup}
use Rattle.call_slab.specs.declared.call.Call.{Call}
use Rattle.call_slab.specs.declared.call.Place.{Place}
use Rattle.call_slab.specs.declared.call.Place.TheVariants.{Incoming, Dispatched}
use Rattle.answerbox.specs.Calls.{call_at, calls_at, same_place}
use Rattle.switchboard.specs.State.{KernelState, Transition, is_alive, phone_at, width, mark_ended}
use Rattle.switchboard.specs.Sound.{IsSound}
use Rattle.switchboard.specs.Kept.{kept_phone, lent_phone, kept_note}
use Rattle.switchboard.specs.Joins.{bare_reply, settle_for, lives, hang_up, slam, slam_at}
use Rattle.cleanup.specs.Kill.{task_no, hang_up_at, hang_up_own_phones, slam_phones_of, slam_other, slam_phones_to, first_at, settle_call, settle_incoming, settle_dispatched, drop_answers, forget_calls_elsewhere, drop_areas, kill}
use Rattle.kernel_laws.specs.KillLaws.{Ends, HasEnd, EndsBefore, EndsWaitingFirst}
use Rattle.switchboard.proofs.Repeats.{by_test}
use Rattle.switchboard.proofs.Histories.{told_after, none_after, both_after, each_tells, drain_tells}
use Rattle.cleanup.proofs.Silence.{IsAlone}
use Rattle.cleanup.proofs.Queues.{IsLive, stands_at, front_at, incoming_alone}
use Rattle.cleanup.proofs.Killing.{after_hangups, after_slams, after_incoming, after_dispatched, after_answers, after_calls}
use Rattle.kernel_laws.proofs.KilledCalls.{after_phones, leaves_other}
use Rattle.kernel_laws.proofs.KillParts.{alone_then, uncalled_then}

-- ends in a list that goes on

end_in : (n : ℕ) (xs ys : List Entry) → HasEnd n (xs ++ ys) → HasEnd n xs ⊎ HasEnd n ys
end_in n [] ys h = inr h
end_in n (x ∷ xs) ys (inl h) = inl (inl h)
end_in n (x ∷ xs) ys (inr h) = elim (end_in n xs ys h) [ inl g ↦ inl (inr g) | inr g ↦ inr g ]

end_stays : (n : ℕ) (xs ys : List Entry) → HasEnd n xs → HasEnd n (xs ++ ys)
end_stays n [] ys h = absurd h
end_stays n (x ∷ xs) ys (inl h) = inl h
end_stays n (x ∷ xs) ys (inr h) = inr (end_stays n xs ys h)

end_comes : (n : ℕ) (xs ys : List Entry) → HasEnd n ys → HasEnd n (xs ++ ys)
end_comes n [] ys h = h
end_comes n (x ∷ xs) ys h = inr (end_comes n xs ys h)

abbrev HasNoEnd : ℕ → List Entry → Type 0
HasNoEnd n es = HasEnd n es → ⊥

still_none : (n : ℕ) (xs ys : List Entry) → HasNoEnd n xs → HasNoEnd n ys → HasNoEnd n (xs ++ ys)
still_none n xs ys f g h = elim (end_in n xs ys h) [ inl x ↦ f x | inr y ↦ g y ]

-- where m has ended and n has not, m ends before n, whatever follows
before_rest : (m n : ℕ) (xs ys : List Entry) → HasEnd m xs → HasNoEnd n xs → EndsBefore m n (xs ++ ys)
before_rest m n [] ys h g one two e is ends = absurd h
before_rest m n (x ∷ xs) ys h g [] two e is ends =
    let same : x ≡ e = cc in
    absurd (g (inl (subst (Ends n) (sym same) ends)))
before_rest m n (x ∷ xs) ys (inl h) g (y ∷ one) two e is ends =
    let same : x ≡ y = cc in
    inl (subst (Ends m) same h)
before_rest m n (x ∷ xs) ys (inr h) g (y ∷ one) two e is ends =
    let rest : xs ++ ys ≡ one ++ (e ∷ two) = cc in
    inr (before_rest m n xs ys h (λ z. g (inr z)) one two e rest ends)

-- the parts on phones end no call

hang_up_ends_none : (n : ℕ) (t : TaskNo) (k : KernelState) (p : ℕ) (o : Option PhoneState) → HasNoEnd n (hang_up k t p o).entries
hang_up_ends_none n t k p (Some Slammed) h = elim h [ inl x ↦ x | inr x ↦ x ]
hang_up_ends_none n t k p (Some (Connected u)) h = elim h [ inl x ↦ x | inr y ↦ elim y [ inl x ↦ x | inr x ↦ x ] ]
hang_up_ends_none n t k p _ h = h

slam_ends_none : (n : ℕ) (t u : TaskNo) (k : KernelState) (p : ℕ) (o : Option PhoneState) → HasNoEnd n (slam t u k p o).entries
slam_ends_none n t u k p (Some (Connected v)) = by_test (λ (d : Transition). HasNoEnd n d.entries) (v.0 == t.0) _ _ (λ _ h. elim h [ inl x ↦ x | inr x ↦ x ]) (λ _ h. h)
slam_ends_none n t u k p _ = λ h. h

module _ (n : ℕ) where
  abbrev None_so_far : List Entry → KernelState → Type 0
  None_so_far p k = HasNoEnd n p

  hangups_end_none : (t : TaskNo) (p : List Entry) (k : KernelState) → HasNoEnd n p → HasNoEnd n (p ++ (hang_up_own_phones t k).entries)
  hangups_end_none t p k h =
      each_tells (List Entry) told_after none_after both_after (hang_up_at t) None_so_far
      (λ q j i g. still_none n q (hang_up_at t j i).entries g (hang_up_ends_none n t j i (phone_at j t i)))
      (width k.tasks.phones t.0) 0 p k h

  row_ends_none : (t u : TaskNo) (p : List Entry) (k : KernelState) → HasNoEnd n p → HasNoEnd n (p ++ (slam_phones_of t u k).entries)
  row_ends_none t u p k h =
      each_tells (List Entry) told_after none_after both_after (slam_at t u) None_so_far
      (λ q j i g. still_none n q (slam_at t u j i).entries g (slam_ends_none n t u j i (phone_at j u i)))
      (width k.tasks.phones u.0) 0 p k h

  other_ends_none : (t : TaskNo) (p : List Entry) (k : KernelState) (i : ℕ) → HasNoEnd n p → HasNoEnd n (p ++ (slam_other t k i).entries)
  other_ends_none t p k i h = by_test (λ (d : Transition). HasNoEnd n (p ++ d.entries)) (i + 1 == t.0) _ _ (λ _. still_none n p [] h (λ x. x)) (λ _. row_ends_none t (task_no (i + 1)) p k h)

  slams_end_none : (t : TaskNo) (p : List Entry) (k : KernelState) → HasNoEnd n p → HasNoEnd n (p ++ (slam_phones_to t k).entries)
  slams_end_none t p k h =
      each_tells (List Entry) told_after none_after both_after (slam_other t) None_so_far
      (λ q j i g. other_ends_none t q j i g)
      (length k.tasks.phones) 0 p k h

-- the entry of a phone that a call kept ends no call
note_ends_none : (n : ℕ) (kept : Option Label) (s : PhoneState) → HasNoEnd n (option_to_list (kept_note kept s))
note_ends_none n None s h = h
note_ends_none n (Some l) s h = elim h [ inl x ↦ x | inr x ↦ x ]

-- the kernel ends one call, and leaves each other one

ends_itself : (j : KernelState) (d : Call) (o : Option TaskNo) (b : Bool) → HasEnd d.number.0 (settle_for j d (bare_reply ehangup) None o b).entries
ends_itself j d None b = inl refl
ends_itself j d (Some u) false = inl refl
ends_itself j d (Some u) true = inl refl

ends_no_other : (n : ℕ) (j : KernelState) (d : Call) (o : Option TaskNo) (b : Bool) → (d.number.0 ≡ n → ⊥) → HasNoEnd n (settle_for j d (bare_reply ehangup) None o b).entries
ends_no_other n j d None b ne h = elim h [ inl x ↦ ne x | inr x ↦ note_ends_none n (kept_phone d) Free x ]
ends_no_other n j d (Some u) false ne h = elim h [ inl x ↦ ne x | inr x ↦ note_ends_none n (kept_phone d) Free x ]
ends_no_other n j d (Some u) true ne h = elim h [ inl x ↦ ne x | inr x ↦ note_ends_none n (lent_phone d) Free x ]

module _
    (k : KernelState) (t : TaskNo) (sound : IsSound k) (alive : is_alive k t ≡ true)
    (m n : ℕ) (c d : Call) (waits : call_at k.calls m ≡ Some c) (at_t : c.place ≡ Incoming t)
    (held : call_at k.calls n ≡ Some d) (by_t : d.place ≡ Dispatched t) where
  abbrev marks : List Bool
  marks = k.tasks.alive

  -- while the calls that wait are ended: m waits or has ended, and n is held
  record Waits (p : List Entry) (j : KernelState) : Type 0 where
    pub alone : IsAlone marks t j
    pub first : (call_at j.calls m ≡ Some c) ⊎ HasEnd m p
    pub second : call_at j.calls n ≡ Some d
    pub none : HasNoEnd n p

  abbrev told_first : List Entry
  told_first = (hang_up_own_phones t (mark_ended k t)).entries ++ (slam_phones_to t (after_hangups t k)).entries

  begun : Waits told_first (after_slams t k)
  begun = record {
    alone = alone_then k t sound alive;
    first = inl (after_phones k t sound alive m c waits);
    second = after_phones k t sound alive n d held;
    none = slams_end_none n t (hang_up_own_phones t (mark_ended k t)).entries (after_hangups t k) (hangups_end_none n t [] (mark_ended k t) (λ x. x));
  }

  goes_on : (p : List Entry) (j : KernelState) (x : Call) → Waits p j → first_at (Incoming t) j ≡ Some x → Waits (told_after (settle_call j x).entries p) (settle_call j x).state
  goes_on p j x h is = record {
    alone = incoming_alone marks t j x h.alone is;
    first = elim h.first [ inl there ↦ elim (cases_eq x.number.0 m) [ inl e ↦ inr (end_comes m p _ (subst (λ (i : ℕ). HasEnd i (settle_call j x).entries) e (ends_itself j x x.caller (lives j x.caller)))) | inr ne ↦ inl (leaves_other m j x x.caller (lives j x.caller) ne ∙ there) ] | inr done ↦ inr (end_stays m p _ done) ];
    second = leaves_other n j x x.caller (lives j x.caller) other ∙ h.second;
    none = still_none n p (settle_call j x).entries h.none (ends_no_other n j x x.caller (lives j x.caller) other);
  } where
    live : IsLive j x × (stands_at (Incoming t) x ≡ true)
    live = front_at marks j (Incoming t) x h.alone.silent.ending is

    other : x.number.0 ≡ n → ⊥
    other e =
        let same : x ≡ d = same_Some x d (sym live.0 ∙ ap (call_at j.calls) e ∙ h.second) in
        false≢true (sym (ap (λ (y : Place). same_place y (Incoming t)) by_t) ∙ ap (λ (y : Call). same_place y.place (Incoming t)) (sym same) ∙ live.1)

  abbrev told_waiting : List Entry
  told_waiting = told_first ++ (settle_incoming t (after_slams t k)).entries

  all_waiting : Waits told_waiting (after_incoming t k)
  all_waiting = drain_tells (List Entry) told_after none_after both_after (first_at (Incoming t)) settle_call Waits goes_on (calls_at (after_slams t k).calls (Incoming t)) told_first (after_slams t k) begun

  m_ends : HasEnd m told_waiting
  m_ends = elim all_waiting.first [
    | inl there ↦ absurd (false≢true (sym ((uncalled_then k t sound alive).incoming m c there) ∙ ap (λ (y : Place). same_place y (Incoming t)) at_t ∙ eq-eqb t.0 t.0 refl))
    | inr done ↦ done
  ]

  abbrev told_held : List Entry
  told_held = (settle_dispatched t (after_incoming t k)).entries

  abbrev told_answers : List Entry
  told_answers = (drop_answers t (after_dispatched t k)).entries

  abbrev told_last : List Entry
  told_last = (forget_calls_elsewhere t (after_answers t k)).entries

  abbrev told_areas : List Entry
  told_areas = (drop_areas t (after_calls t k)).entries

  abbrev told_rest : List Entry
  told_rest = told_held ++ (told_answers ++ (told_last ++ told_areas))

  whole : told_waiting ++ told_rest ≡ (kill k t).entries
  whole =
      sym (append_assoc told_waiting told_held (told_answers ++ (told_last ++ told_areas)))
      ∙ (sym (append_assoc (told_waiting ++ told_held) told_answers (told_last ++ told_areas))
      ∙ sym (append_assoc ((told_waiting ++ told_held) ++ told_answers) told_last told_areas))

  pub ends_before : EndsBefore m n (kill k t).entries
  ends_before = subst (EndsBefore m n) whole (before_rest m n told_waiting told_rest m_ends all_waiting.none)

-- what waits at the task ends before what it holds
pub kill_ends_waiting_first : (k : KernelState) (t : TaskNo) → IsSound k → is_alive k t ≡ true → EndsWaitingFirst t k (kill k t).entries
kill_ends_waiting_first k t sound alive m n c d waits at_t held by_t = ends_before k t sound alive m n c d waits at_t held by_t
