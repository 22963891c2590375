-- A kill is determined by what is said of it.
use Rattle.std.proofs.Common.{◌≡◌, ℕ, ◌+◌, ◌<◌, ◌≤◌, ◌⊎◌, inl, inr, List, [], ◌∷◌, None, Some, sym, ap, subst, ◌∙◌, arith}
use Rattle.std.proofs.lemmas.Option.{same_Some}
use Rattle.ipc_ids.specs.declared.numbers.TaskNo.{TaskNo}
use Rattle.ipc_ids.specs.declared.message.PhoneState.TheVariants.{Connected, Slammed}
use Rattle.ipc_ids.specs.declared.entry.Entry.{Entry}
use Rattle.ipc_ids.specs.declared.entry.Entry.TheVariants as entry
use Rattle.ipc_ids.specs.Codes.{ehangup}
use Rattle.call_slab.specs.declared.call.Call.{Call}
use Rattle.call_slab.specs.declared.call.Place.{Place}
use Rattle.call_slab.specs.declared.call.Place.TheVariants.{Incoming, Dispatched, Answers}
use Rattle.address_space.specs.Memory.{Step, drop_area}
use Rattle.address_space.specs.Sound as spaces
use Rattle.address_space.proofs.Soundness.{sound_drop}
use Rattle.switchboard.specs.State.{Tasks, KernelState, Transition, phone_at, is_alive}
use Rattle.kernel_laws.specs.CallCodes.{own_reply}
use Rattle.kernel_laws.specs.Routes.{Leads, Stands}
use Rattle.kernel_determined.specs.HangupLaw.{TellsOfHangup, TellsNobody}
use Rattle.kernel_determined.specs.Frames.{CameBefore}
use Rattle.kernel_determined.specs.SettleLaw.{IsSettled, DropsAnswer}
use Rattle.kernel_determined.specs.Turns.{Then}
use Rattle.kernel_determined.specs.KillLaw.{IsMarked, IsToHangUp, HangsUpPhone, HangsUpOwn, SlamsPhone, SlamsOf, IsOther, IsOlder, SlamsOthers, SettlesCall, SettlesAll, DropsAnswers, IsOwn, ForgetsCall, ForgetsCalls, HasBase, LosesArea, LosesAreas, EndsPhones, SettlesBoth, EndsCalls, EndsParts, IsKill}
use Rattle.kernel_determined.proofs.Same.{state_same, marks_same, each_task, transition_same}
use Rattle.kernel_determined.proofs.OneOrder.{came_apart, IsDetermined, each_same, each_keeps, IsPart, each_part, then_part}
use Rattle.kernel_determined.proofs.HangupDetermined.{come_same, stay_same, calls_stay_same, AreAlike, step_same, tells_same, nobody_same}
use Rattle.kernel_determined.proofs.SettleDetermined.{now_same, settled_same, drop_same}
use Rattle.kernel_determined.proofs.DropDetermined.{drop_is_determined, drop_is_whole}

-- the memory is sound, as it is before each part
abbrev pub HasSoundAreas : KernelState → Type 0
HasSoundAreas k = spaces.IsSound k.memory

less_apart : (k : KernelState) (x y : ℕ) → x < y → y < x → ⊥
less_apart k x y less more = omega (arith, less, more)

older_apart : (k : KernelState) (u v : TaskNo) → IsOlder u v → IsOlder v u → ⊥
older_apart k u v less more = omega (arith, less, more)

-- ---- the turns

hangs_same : (t : TaskNo) (p : ℕ) (k a b : KernelState) (m n : List Entry)
    → ((u : TaskNo) × Leads k t p u × TellsOfHangup t p u k a m)
    ⊎ ((phone_at k t p ≡ Some Slammed) × TellsNobody t p k a m)
    → ((u : TaskNo) × Leads k t p u × TellsOfHangup t p u k b n)
    ⊎ ((phone_at k t p ≡ Some Slammed) × TellsNobody t p k b n)
    → AreAlike a b m n
hangs_same t p k a b m n (inl x) (inl y) =
    let same : x.0 ≡ y.0 = let e : Some (Connected x.0) ≡ Some (Connected y.0) = sym x.1 ∙ y.1 in cc in
    tells_same t p k a b m n y.0 (subst (λ (u : TaskNo). TellsOfHangup t p u k a m) same x.2) y.2
hangs_same t p k a b m n (inl x) (inr y) = absurd (let e : Some (Connected x.0) ≡ Some Slammed = sym x.1 ∙ y.0 in cc)
hangs_same t p k a b m n (inr x) (inl y) = absurd (let e : Some (Connected y.0) ≡ Some Slammed = sym y.1 ∙ x.0 in cc)
hangs_same t p k a b m n (inr x) (inr y) = nobody_same t p k a b m n x.1 y.1

still_sound : (k a : KernelState) → a.memory ≡ k.memory → HasSoundAreas k → HasSoundAreas a
still_sound k a same i = subst spaces.IsSound (sym same) i

hang_up_turn : (t : TaskNo) → IsDetermined (HangsUpPhone t) HasSoundAreas
hang_up_turn t = record {
  same = λ k p a b m n i x y. step_same k a b m n x.step y.step (hangs_same t p k a b m n x.hangs_up y.hangs_up);
  keeps = λ k p a m i x. still_sound k a x.step.memory i;
}

slam_turn : (u : TaskNo) → IsDetermined (SlamsPhone u) HasSoundAreas
slam_turn u = record {
  same = λ k p a b m n i x y. step_same k a b m n x.step y.step (record {
    phones = come_same k a b u p Slammed x.phone y.phone;
    calls = calls_stay_same k.calls a.calls b.calls x.calls y.calls;
    entries = x.entries ∙ sym y.entries;
  });
  keeps = λ k p a m i x. still_sound k a x.step.memory i;
}

slams_turn : (t : TaskNo) → IsDetermined (SlamsOf t) HasSoundAreas
slams_turn t = record {
  same = λ k u a b m n i x y.
      each_same (SlamsPhone u) HasSoundAreas (slam_turn u) (λ p. Leads k u p t) ◌<◌ (less_apart k) k a b m n i x y;
  keeps = λ k u a m i x.
      each_keeps (SlamsPhone u) HasSoundAreas (slam_turn u) (λ p. Leads k u p t) ◌<◌ (less_apart k) k a m i x;
}

settle_turn : IsDetermined SettlesCall HasSoundAreas
settle_turn = record {
  same = λ k n a b es fs i x y.
      let one : x.call ≡ y.call = same_Some x.call y.call (sym x.live ∙ y.live) in
      let settled = subst (λ (c : Call). IsSettled n c (own_reply ehangup) None k a es) one x.settled in
      step_same k a b es fs x.step y.step (settled_same n y.call k a b es fs (own_reply ehangup) None settled
      y.settled);
  keeps = λ k n a es i x. still_sound k a x.step.memory i;
}

drop_turn : (t : TaskNo) → IsDetermined (DropsAnswer t) HasSoundAreas
drop_turn t = record {
  same = λ k i a b m n h x y. drop_same t i k a b m n x y;
  keeps = λ k i a m h x. still_sound k a x.step.memory h;
}

forget_turn : IsDetermined ForgetsCall HasSoundAreas
forget_turn = record {
  same = λ k i a b m n h x y.
      let one : x.call ≡ y.call = same_Some x.call y.call (sym x.live ∙ y.live) in
      step_same k a b m n x.step y.step (record {
        phones = stay_same k a b x.phones y.phones;
        calls = now_same k.calls a.calls b.calls i _ _ x.calls y.calls
            (ap (λ (c : Call). let d : Call = record c { caller = None } in d) one);
        entries = x.entries ∙ ap (λ (c : Call). entry.Forgotten c.number ∷ []) one ∙ sym y.entries;
      });
  keeps = λ k i a m h x. still_sound k a x.step.memory h;
}

area_turn : (t : TaskNo) → 1 ≤ t.0 → IsDetermined (LosesArea t) HasSoundAreas
area_turn t some = record {
  same = λ k base a b m n i x y.
      let one : x.step ≡ y.step = drop_is_determined k.memory t base some i x.step y.step x.drop y.drop in (
        state_same a b (ap (λ (z : Tasks). z.alive) (x.tasks ∙ sym y.tasks))
            (ap (λ (z : Tasks). z.phones) (x.tasks ∙ sym y.tasks))
            (x.calls ∙ sym y.calls) (x.memory ∙ ap (λ (s : Step Unit). s.memory) one ∙ sym y.memory)
            (x.events ∙ sym y.events),
        x.entries ∙ sym y.entries,
      );
  keeps = λ k base a m i x.
      let one : x.step ≡ drop_area k.memory t base =
      drop_is_determined k.memory t base some i x.step (drop_area k.memory t base) x.drop
      (drop_is_whole k.memory t base) in
      subst spaces.IsSound (sym (x.memory ∙ ap (λ (s : Step Unit). s.memory) one)) (sound_drop k.memory t base i);
}

-- ---- the parts

settles_part : (place : Place) → IsPart (SettlesAll place) HasSoundAreas HasSoundAreas
settles_part place = each_part (λ k n. Stands k.calls n place) (λ k. CameBefore k.calls) SettlesCall HasSoundAreas
    settle_turn
    (λ k. came_apart k.calls)

phones_part : (t : TaskNo) → IsPart (EndsPhones t) HasSoundAreas HasSoundAreas
phones_part t = then_part (HangsUpOwn t) (SlamsOthers t) HasSoundAreas HasSoundAreas HasSoundAreas
    (each_part (IsToHangUp t) (λ k. ◌<◌) (HangsUpPhone t) HasSoundAreas (hang_up_turn t) less_apart)
    (each_part (IsOther t) (λ k. IsOlder) (SlamsOf t) HasSoundAreas (slams_turn t) older_apart)

both_part : (t : TaskNo) → IsPart (SettlesBoth t) HasSoundAreas HasSoundAreas
both_part t = then_part (Then (EndsPhones t) (SettlesAll (Incoming t))) (SettlesAll (Dispatched t))
    HasSoundAreas HasSoundAreas HasSoundAreas
    (then_part (EndsPhones t) (SettlesAll (Incoming t)) HasSoundAreas HasSoundAreas HasSoundAreas (phones_part t)
    (settles_part (Incoming t)))
    (settles_part (Dispatched t))

calls_part : (t : TaskNo) → IsPart (EndsCalls t) HasSoundAreas HasSoundAreas
calls_part t = then_part (Then (SettlesBoth t) (DropsAnswers t)) (ForgetsCalls t) HasSoundAreas HasSoundAreas
    HasSoundAreas
    (then_part (SettlesBoth t) (DropsAnswers t) HasSoundAreas HasSoundAreas HasSoundAreas (both_part t)
    (each_part (λ k n. Stands k.calls n (Answers t)) (λ k. CameBefore k.calls) (DropsAnswer t) HasSoundAreas
    (drop_turn t)
    (λ k. came_apart k.calls)))
    (each_part (IsOwn t) (λ k. ◌<◌) ForgetsCall HasSoundAreas forget_turn less_apart)

pub parts_part : (t : TaskNo) → 1 ≤ t.0 → IsPart (EndsParts t) HasSoundAreas HasSoundAreas
parts_part t some = then_part (EndsCalls t) (LosesAreas t) HasSoundAreas HasSoundAreas HasSoundAreas (calls_part t)
    (each_part (HasBase t) (λ k. ◌<◌) (LosesArea t) HasSoundAreas (area_turn t some) less_apart)

-- ---- a kill

mark_same : (t : TaskNo) (k a b : KernelState) → IsMarked t k a → IsMarked t k b → a ≡ b
mark_same t k a b x y = state_same a b
    (marks_same a.tasks.alive b.tasks.alive (x.many ∙ sym y.many) (λ u.
    each_task (is_alive a) (is_alive b) t (x.ends.ended ∙ sym y.ends.ended) u
    (λ ne. x.ends.others u ne ∙ sym (y.ends.others u ne))))
    (x.phones ∙ sym y.phones) (x.calls ∙ sym y.calls) (x.memory ∙ sym y.memory) (x.events ∙ sym y.events)

pub kill_is_determined : (t : TaskNo) (k : KernelState) (a b : Transition) → 1 ≤ t.0 → spaces.IsSound k.memory
    → IsKill t k a → IsKill t k b → a ≡ b
kill_is_determined t k a b some sound x y =
    let marked : x.marked ≡ y.marked = mark_same t k x.marked y.marked x.ended y.ended in
    let parts = subst (λ (j : KernelState). EndsParts t j x.last a.entries) marked x.parts in
    let same = (parts_part t some).same y.marked x.last y.last a.entries b.entries
    (still_sound k y.marked y.ended.memory sound) parts y.parts in
    transition_same a b
    (state_same a.state b.state
    (ap (λ (z : Tasks). z.alive) x.counted.tasks ∙ ap (λ (j : KernelState). j.tasks.alive) same.0
    ∙ sym (ap (λ (z : Tasks). z.alive) y.counted.tasks))
    (ap (λ (z : Tasks). z.phones) x.counted.tasks ∙ ap (λ (j : KernelState). j.tasks.phones) same.0
    ∙ sym (ap (λ (z : Tasks). z.phones) y.counted.tasks))
    (x.counted.calls ∙ ap (λ (j : KernelState). j.calls) same.0 ∙ sym y.counted.calls)
    (x.counted.memory ∙ ap (λ (j : KernelState). j.memory) same.0 ∙ sym y.counted.memory)
    (x.counted.events ∙ ap (λ (j : KernelState). j.events + 1) same.0 ∙ sym y.counted.events))
    same.1
