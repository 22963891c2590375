-- The law of ends holds of doings that were each lawful as they came.
use Rattle.std.proofs.Common.{ℕ, ◌≡◌, Bool, true, false, List, [], ◌∷◌, ◌++◌, Option, Some, None, refl, sym, subst, ap, ◌∙◌, inl, inr, arith}
use Rattle.std.specs.Prelude.{◌==◌, ◌&&◌, slice_index}
use Rattle.std.proofs.lemmas.Bool.{eq-eqb, eqb-true, and_parts, and_from}
use Rattle.ipc_ids.specs.declared.numbers.Label.{Label}
use Rattle.ipc_ids.specs.declared.numbers.CallNo.{CallNo}
use Rattle.ipc_ids.specs.declared.message.Msg.{Msg}
use Rattle.ipc_ids.specs.declared.message.Reply.{Reply}
use Rattle.ipc_ids.specs.declared.message.Request.TheVariants as request
use Rattle.ipc_ids.specs.declared.message.Outcome.TheVariants as outcome
use Rattle.ipc_ids.specs.Methods.{phone_hungup}
use Rattle.ipc_ids.specs.Doings.{Doing, Asks, Told, Came}
use Rattle.task_ends.specs.declared.introduced.Introduced.{Introduced}
use Rattle.ipc_ids.specs.Labels.{same_label}
use Rattle.task_ends.specs.EndLaw.{introduce_self, leave_value, wait_for, IsCallFrom, IsIntroductionOf, HasNone, last_left, end_arguments, HasLeft, AnswersTellTheEnd, entry_after, story_after, story, TellsEnd, is_answered, EndsWereLawful}

ends_before : (later p : List Doing) → EndsWereLawful (later ++ p) → EndsWereLawful p
ends_before [] p l = l
ends_before (x ∷ later) p l = ends_before later p l.0

-- a task that has introduced itself and not ended: where it did, and what it left since
record IsPresent (w : ℕ) (p : List Doing) (x : Introduced) : Type 0 where
  between : List Doing
  introduction : Doing
  before : List Doing
  split : p ≡ between ++ (introduction ∷ before)
  introduces : IsCallFrom introduce_self x.label introduction
  task : x.label.task.0 ≡ w
  first : HasNone (IsIntroductionOf w) before
  no_hangup : HasNone (IsCallFrom phone_hungup x.label) between
  left : x.end ≡ last_left x.label between

-- what is told of a task by its entry
abbrev TellsBy : ℕ → List Doing → Introduced → Bool → Type 0
TellsBy w p x false = IsPresent w p x
TellsBy w p x true = HasLeft w p (end_arguments x.end)

abbrev Tells : ℕ → List Doing → Option Introduced → Type 0
Tells w p None = HasNone (IsIntroductionOf w) p
Tells w p (Some x) = TellsBy w p x x.ended

pub label_is : (a b : Label) → same_label a b ≡ true → a ≡ b
label_is a b h =
    let parts = and_parts (a.task.0 == b.task.0) (a.phone.0 == b.phone.0) h in
    both (eqb-true a.task.0 b.task.0 parts.0) (eqb-true a.phone.0 b.phone.0 parts.1)
  where
    label : ℕ → ℕ → Label
    label t p = record { task = record { 0 = t }; phone = record { 0 = p } }

    both : a.task.0 ≡ b.task.0 → a.phone.0 ≡ b.phone.0 → a ≡ b
    both t p = ap (λ (x : ℕ). label x a.phone.0) t ∙ ap (λ (y : ℕ). label b.task.0 y) p

same_is : (a b : Label) → a ≡ b → same_label a b ≡ true
same_is a b h = and_from (a.task.0 == b.task.0) (a.phone.0 == b.phone.0) (eq-eqb a.task.0 b.task.0 (ap (λ (l : Label). l.task.0) h)) (eq-eqb a.phone.0 b.phone.0 (ap (λ (l : Label). l.phone.0) h))

present_tells : (w : ℕ) (p : List Doing) (x : Introduced) → x.ended ≡ false → IsPresent w p x → Tells w p (Some x)
present_tells w p x alive it = subst (TellsBy w p x) (sym alive) it

ended_tells : (w : ℕ) (p : List Doing) (x : Introduced) → x.ended ≡ true → HasLeft w p (end_arguments x.end) → Tells w p (Some x)
ended_tells w p x done it = subst (TellsBy w p x) (sym done) it

-- one doing more
present_on : (w : ℕ) (p : List Doing) (x y : Introduced) (d : Doing) (it : IsPresent w p x) → x.label ≡ y.label → (IsCallFrom phone_hungup x.label d → ⊥) → y.end ≡ last_left x.label (d ∷ it.between)
    → IsPresent w (d ∷ p) y
present_on w p x y d it same none left = record {
  between = d ∷ it.between;
  introduction = it.introduction;
  before = it.before;
  split = ap (λ (q : List Doing). d ∷ q) it.split;
  introduces = subst (λ (l : Label). IsCallFrom introduce_self l it.introduction) same it.introduces;
  task = sym (ap (λ (l : Label). l.task.0) same) ∙ it.task;
  first = it.first;
  no_hangup = subst (λ (l : Label). HasNone (IsCallFrom phone_hungup l) (d ∷ it.between)) same (none, it.no_hangup);
  left = subst (λ (l : Label). y.end ≡ last_left l (d ∷ it.between)) same left;
}

left_on : (w : ℕ) (p : List Doing) (arguments : List ℕ) (d : Doing) → HasLeft w p arguments → HasLeft w (d ∷ p) arguments
left_on w p arguments d it = record {
  from = it.from;
  since = d ∷ it.since;
  hangup = it.hangup;
  between = it.between;
  introduction = it.introduction;
  before = it.before;
  split = ap (λ (q : List Doing). d ∷ q) it.split;
  introduces = it.introduces;
  task = it.task;
  first = it.first;
  hangs_up = it.hangs_up;
  no_earlier = it.no_earlier;
  left = it.left;
}

hung_up : (w : ℕ) (p : List Doing) (x : Introduced) (d : Doing) → IsPresent w p x → IsCallFrom phone_hungup x.label d → HasLeft w (d ∷ p) (end_arguments x.end)
hung_up w p x d it up = record {
  from = x.label;
  since = [];
  hangup = d;
  between = it.between;
  introduction = it.introduction;
  before = it.before;
  split = ap (λ (q : List Doing). d ∷ q) it.split;
  introduces = it.introduces;
  task = it.task;
  first = it.first;
  hangs_up = up;
  no_earlier = it.no_hangup;
  left = ap end_arguments it.left;
}

-- a doing that is no call
quiet_by : (w : ℕ) (p : List Doing) (x : Introduced) (d : Doing) (ended : Bool) → (IsCallFrom phone_hungup x.label d → ⊥) → ((q : List Doing) → last_left x.label (d ∷ q) ≡ last_left x.label q) → TellsBy w p x ended → TellsBy w (d ∷ p) x ended
quiet_by w p x d false none same it = present_on w p x x d it refl none (it.left ∙ sym (same it.between))
quiet_by w p x d true none same it = left_on w p (end_arguments x.end) d it

quiet : (w : ℕ) (p : List Doing) (d : Doing) (o : Option Introduced) → (IsIntroductionOf w d → ⊥) → ((l : Label) → IsCallFrom phone_hungup l d → ⊥) → ((l : Label) (q : List Doing) → last_left l (d ∷ q) ≡ last_left l q) → Tells w p o → Tells w (d ∷ p) o
quiet w p d None none no_call same it = (none, it)
quiet w p d (Some x) none no_call same it = quiet_by w p x d x.ended (no_call x.label) (same x.label) it

abbrev call : CallNo → Msg → Label → Doing
call n msg label = Told (outcome.Received n msg label)

-- a call, of a task that is unknown
unknown_step : (w : ℕ) (p : List Doing) (n : CallNo) (msg : Msg) (label : Label) (test : Bool) → ((msg.method == introduce_self) && (label.task.0 == w)) ≡ test → HasNone (IsIntroductionOf w) p → Tells w (call n msg label ∷ p) (story_after w msg label None)
unknown_step w p n msg label true is none =
    let parts = and_parts (msg.method == introduce_self) (label.task.0 == w) is in
    rw is (record {
      between = [];
      introduction = call n msg label;
      before = p;
      split = refl;
      introduces = (eqb-true msg.method introduce_self parts.0, refl);
      task = eqb-true label.task.0 w parts.1;
      first = none;
      no_hangup = tt;
      left = refl;
    })
unknown_step w p n msg label false is none = rw is (λ h. not_both (and_from (msg.method == introduce_self) (label.task.0 == w) (eq-eqb msg.method introduce_self h.0) (eq-eqb label.task.0 w h.1)), none) where
  not_both : ((msg.method == introduce_self) && (label.task.0 == w)) ≡ true → ⊥
  not_both h = absurd (cc (h, is))

pub closed_stays : (msg : Msg) (label : Label) (x : Introduced) → x.ended ≡ true → entry_after msg label x ≡ x
closed_stays msg label x done = grind (arith, done)

present_step :
    (w : ℕ) (p : List Doing) (n : CallNo) (msg : Msg) (label : Label) (x : Introduced) (leaving_it hanging same : Bool) → x.ended ≡ false → IsPresent w p x
    → (msg.method == leave_value) ≡ leaving_it → (msg.method == phone_hungup) ≡ hanging → same_label x.label label ≡ same
    → Tells w (call n msg label ∷ p) (Some (entry_after msg label x))
present_step w p n msg label x true hanging true alive it leave hang same =
    let y : Introduced = record x { end = record { has = true; value = slice_index msg.args 0 } } in
    let is : entry_after msg label x ≡ y = grind (arith, alive, leave, same) in
    let is_left : y.end ≡ last_left x.label (call n msg label ∷ it.between) = grind (arith, leave, same) in
    let method : msg.method ≡ leave_value = eqb-true msg.method leave_value leave in
    rw is (present_tells w (call n msg label ∷ p) y alive (present_on w p x y (call n msg label) it refl (λ h. absurd (cc (method, h.0))) is_left))
present_step w p n msg label x true hanging false alive it leave hang same =
    let is : entry_after msg label x ≡ x = grind (arith, alive, leave, same) in
    let is_left : x.end ≡ last_left x.label (call n msg label ∷ it.between) = grind (arith, leave, same, it.left) in
    let method : msg.method ≡ leave_value = eqb-true msg.method leave_value leave in
    rw is (present_tells w (call n msg label ∷ p) x alive (present_on w p x x (call n msg label) it refl (λ h. absurd (cc (method, h.0))) is_left))
present_step w p n msg label x false true true alive it leave hang same =
    let y : Introduced = record x { ended = true } in
    let is : entry_after msg label x ≡ y = grind (arith, alive, leave, hang, same) in
    rw is (ended_tells w (call n msg label ∷ p) y refl (hung_up w p x (call n msg label) it (eqb-true msg.method phone_hungup hang, sym (label_is x.label label same))))
present_step w p n msg label x false true false alive it leave hang same =
    let is : entry_after msg label x ≡ x = grind (arith, alive, leave, hang, same) in
    let is_left : x.end ≡ last_left x.label (call n msg label ∷ it.between) = grind (arith, leave, it.left) in
    rw is (present_tells w (call n msg label ∷ p) x alive (present_on w p x x (call n msg label) it refl (λ h. absurd (cc (same, same_is x.label label (sym h.1)))) is_left))
present_step w p n msg label x false false same_or_not alive it leave hang same =
    let is : entry_after msg label x ≡ x = grind (arith, alive, leave, hang) in
    let is_left : x.end ≡ last_left x.label (call n msg label ∷ it.between) = grind (arith, leave, it.left) in
    rw is (present_tells w (call n msg label ∷ p) x alive (present_on w p x x (call n msg label) it refl (λ h. absurd (cc (hang, eq-eqb msg.method phone_hungup h.0))) is_left))

known_step : (w : ℕ) (p : List Doing) (n : CallNo) (msg : Msg) (label : Label) (x : Introduced) (ended : Bool) → x.ended ≡ ended → TellsBy w p x ended → Tells w (call n msg label ∷ p) (Some (entry_after msg label x))
known_step w p n msg label x false is it = present_step w p n msg label x (msg.method == leave_value) (msg.method == phone_hungup) (same_label x.label label) is it refl refl refl
known_step w p n msg label x true is it = rw (closed_stays msg label x is) (ended_tells w (call n msg label ∷ p) x is (left_on w p (end_arguments x.end) (call n msg label) it))

called : (w : ℕ) (p : List Doing) (n : CallNo) (msg : Msg) (label : Label) (o : Option Introduced) → Tells w p o → Tells w (call n msg label ∷ p) (story_after w msg label o)
called w p n msg label None it = unknown_step w p n msg label ((msg.method == introduce_self) && (label.task.0 == w)) refl it
called w p n msg label (Some x) it = known_step w p n msg label x x.ended refl it

-- what the doings tell of a task is what they say of it
tells : (w : ℕ) (p : List Doing) → Tells w p (story w p)
tells w [] = tt
tells w (Told (outcome.Received n msg label) ∷ p) = called w p n msg label (story w p) (tells w p)
tells w (x ∷ p) = quiet w p x (story w p) (λ h. h) (λ l h. h) (λ l q. refl) (tells w p)

left_by : (w : ℕ) (p : List Doing) (arguments : List ℕ) (o : Option Introduced) → Tells w p o → TellsEnd arguments o → HasLeft w p arguments
left_by w p arguments None it end = absurd end
left_by w p arguments (Some x) it end = subst (HasLeft w p) (sym end.1) (subst (TellsBy w p x) end.0 it)

-- a call that is answered does not come later
answered_stays : (later p : List Doing) (n : ℕ) → is_answered n p ≡ true → is_answered n (later ++ p) ≡ true
answered_stays [] p n h = h
answered_stays (x ∷ later) p n h = grind (arith, answered_stays later p n h)

came_before : (later p : List Doing) (method n w : ℕ) → EndsWereLawful (later ++ p) → is_answered n p ≡ true → Came method n w (later ++ p) → Came method n w p
came_before [] p method n w l h came = came
came_before (x ∷ later) p method n w l h came = grind (arith, came_before later p method n w l.0 h, answered_stays later p n h, l.1)

pub waiters_are_told : (p : List Doing) → EndsWereLawful p → AnswersTellTheEnd p
waiters_are_told p l later earlier n w b1 b2 reply at is came =
    let here : List Doing = Asks (request.Answer n reply) ∷ earlier in
    let lawful : EndsWereLawful (later ++ here) = subst EndsWereLawful at l in
    let answered : is_answered n here ≡ true = grind (arith, eq-eqb) in
    let before : Came wait_for n w here = came_before later here wait_for n w lawful answered (subst (Came wait_for n w) at came) in
    left_by w earlier reply.args (story w earlier) (tells w earlier) ((ends_before later here lawful).1 w (ap (λ (r : Reply). r.code) is) (not_here before))
  where
    not_here : Came wait_for n w (Asks (request.Answer n reply) ∷ earlier) → Came wait_for n w earlier
    not_here (inl no_receipt) = absurd no_receipt
    not_here (inr came_so) = came_so
