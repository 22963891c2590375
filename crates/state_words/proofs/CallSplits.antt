-- A call is read again from its words but for its stamp, and so are the live calls and their order.
use Rattle.std.proofs.Common.{Option, None, Some, ℕ, zero, suc, ◌≡◌, ◌<◌, ◌≤◌, ◌+◌, ◌⊎◌, inl, inr, Bool, true, false, List, [], ◌∷◌, ◌++◌, refl, sym, ◌∙◌, ap, subst, arith, append_assoc}
use Rattle.std.proofs.lemmas.Bool.{cases_order, cases_lt}
use Rattle.std.specs.Prelude.{option_map}
use Rattle.ipc_ids.specs.declared.numbers.TaskNo.{TaskNo}
use Rattle.ipc_ids.specs.declared.numbers.Label.{Label}
use Rattle.ipc_ids.specs.declared.message.Msg.{Msg}
use Rattle.ipc_ids.specs.declared.message.Reply.{Reply}
use Rattle.call_slab.specs.declared.call.Call.{Call}
use Rattle.call_slab.specs.declared.call.Place.{Place}
use Rattle.call_slab.specs.declared.call.Place.TheVariants.{Incoming, Dispatched, Answers}
use Rattle.answerbox.specs.Calls.{CallTable, call_at}
use Rattle.state_words.specs.Words.{number_words, bool_words, list_words, option_words}
use Rattle.state_words.specs.CallWords.{task_words, label_words, msg_words, reply_words, place_words, call_words, table_from, table_words}
use Rattle.state_words.specs.declared.stands.Stand.{Stand}
use Rattle.state_words.specs.Order.{stand_of, stands, rank_among, rank, unstamped, AreOfOneOrder}
use Rattle.state_words.specs.Apart.{AreBelow}
use Rattle.state_words.proofs.Splits.{Splits, read_splits, pair_splits, by_splits, list_splits, option_splits, number_splits}

pub numbers_splits : Splits (list_words number_words)
numbers_splits = list_splits number_words number_splits

pub task_splits : Splits task_words
task_splits = by_splits number_words number_splits (λ (t : TaskNo). t.0) (λ n. record { 0 = n }) (λ _. refl)

pub label_splits : Splits label_words
label_splits =
    by_splits (λ (p : ℕ × ℕ). number_words p.0 ++ number_words p.1) (pair_splits number_words number_words number_splits number_splits)
    (λ (l : Label). (l.task.0, l.phone.0)) (λ p. record { task = record { 0 = p.0 }; phone = record { 0 = p.1 } }) (λ _. refl)

pub msg_splits : Splits msg_words
msg_splits =
    by_splits (λ (p : ℕ × List ℕ). number_words p.0 ++ list_words number_words p.1) (pair_splits number_words (list_words number_words) number_splits numbers_splits)
    (λ (m : Msg). (m.method, m.args)) (λ p. record { method = p.0; args = p.1 }) (λ _. refl)

pub reply_splits : Splits reply_words
reply_splits =
    by_splits (λ (p : ℕ × List ℕ). number_words p.0 ++ list_words number_words p.1) (pair_splits number_words (list_words number_words) number_splits numbers_splits)
    (λ (r : Reply). (r.code.0, r.args)) (λ p. record { code = record { 0 = p.0 }; args = p.1 }) (λ _. refl)

read_bool : List ℕ → Option (Bool × List ℕ)
read_bool [] = None
read_bool (zero ∷ s) = Some (false, s)
read_bool (suc n ∷ s) = Some (true, s)

bool_read : (b : Bool) (s : List ℕ) → read_bool (bool_words b ++ s) ≡ Some (b, s)
unfolding read_bool
bool_read true s = refl
bool_read false s = refl

pub bool_splits : Splits bool_words
bool_splits = read_splits bool_words read_bool bool_read

read_place : List ℕ → Option (Place × List ℕ)
read_place [] = None
read_place (n ∷ []) = None
read_place (zero ∷ (t ∷ s)) = Some (Incoming (record { 0 = t }), s)
read_place (suc zero ∷ (t ∷ s)) = Some (Dispatched (record { 0 = t }), s)
read_place (suc (suc n) ∷ (t ∷ s)) = Some (Answers (record { 0 = t }), s)

place_read : (a : Place) (s : List ℕ) → read_place (place_words a ++ s) ≡ Some (a, s)
unfolding read_place
place_read (Incoming t) s = refl
place_read (Dispatched t) s = refl
place_read (Answers t) s = refl

pub place_splits : Splits place_words
place_splits = read_splits place_words read_place place_read

-- ---- a call, in three parts
abbrev Name : Type 0
Name = ℕ × (Option TaskNo × (Label × Label))

abbrev Said : Type 0
Said = Msg × (Msg × (Reply × Bool))

abbrev Held : Type 0
Held = List ℕ × (Option Label × (Place × ℕ))

abbrev name_of : Name → List ℕ
name_of p = number_words p.0 ++ (option_words task_words p.1.0 ++ (label_words p.1.1.0 ++ label_words p.1.1.1))

abbrev said_of : Said → List ℕ
said_of p = msg_words p.0 ++ (msg_words p.1.0 ++ (reply_words p.1.1.0 ++ bool_words p.1.1.1))

abbrev held_of : Held → List ℕ
held_of p = list_words number_words p.0 ++ (option_words label_words p.1.0 ++ (place_words p.1.1.0 ++ number_words p.1.1.1))

name_of_splits : Splits name_of
name_of_splits =
    pair_splits number_words (λ (p : Option TaskNo × (Label × Label)). option_words task_words p.0 ++ (label_words p.1.0 ++ label_words p.1.1)) number_splits
    (pair_splits (option_words task_words) (λ (p : Label × Label). label_words p.0 ++ label_words p.1) (option_splits task_words task_splits)
    (pair_splits label_words label_words label_splits label_splits))

said_of_splits : Splits said_of
said_of_splits =
    pair_splits msg_words (λ (p : Msg × (Reply × Bool)). msg_words p.0 ++ (reply_words p.1.0 ++ bool_words p.1.1)) msg_splits
    (pair_splits msg_words (λ (p : Reply × Bool). reply_words p.0 ++ bool_words p.1) msg_splits
    (pair_splits reply_words bool_words reply_splits bool_splits))

held_of_splits : Splits held_of
held_of_splits =
    pair_splits (list_words number_words) (λ (p : Option Label × (Place × ℕ)). option_words label_words p.0 ++ (place_words p.1.0 ++ number_words p.1.1)) numbers_splits
    (pair_splits (option_words label_words) (λ (p : Place × ℕ). place_words p.0 ++ number_words p.1) (option_splits label_words label_splits)
    (pair_splits place_words number_words place_splits number_splits))

-- what the words of a call tell: its parts, with its rank in place of its stamp
abbrev pub Told : Type 0
Told = Name × (Said × Held)

-- the words of what they tell
abbrev pub told_words : Told → List ℕ
told_words p = name_of p.0 ++ (said_of p.1.0 ++ held_of p.1.1)

-- what is told of a call of this rank
abbrev pub told_with : Call → ℕ → Told
told_with c r =
    ((c.number.0, (c.caller, (c.from, c.label))), ((c.request, (c.msg, (c.reply, c.discard))), (c.buffer, (c.reserved, (c.place, r)))))

-- what is told of a call among those that stand so
abbrev pub told : List Stand → Call → Told
told among c = told_with c (rank_among among (stand_of c))

-- the call of which this is told, but for its stamp
abbrev call_told : Told → Call
call_told p =
    record {
      number = record { 0 = p.0.0 };
      caller = p.0.1.0;
      from = p.0.1.1.0;
      label = p.0.1.1.1;
      request = p.1.0.0;
      msg = p.1.0.1.0;
      reply = p.1.0.1.1.0;
      discard = p.1.0.1.1.1;
      buffer = p.1.1.0;
      reserved = p.1.1.1.0;
      place = p.1.1.1.1.0;
      stamp = 0;
    }

-- the rank that is told
abbrev rank_told : Option Told → ℕ
rank_told None = 0
rank_told (Some p) = p.1.1.1.1.1

told_splits : Splits told_words
told_splits =
    pair_splits name_of (λ (p : Said × Held). said_of p.0 ++ held_of p.1) name_of_splits (pair_splits said_of held_of said_of_splits held_of_splits)

-- the words of a call are those of what is told of it
pub words_of_told : (among : List Stand) (o : Option Call) → option_words (call_words among) o ≡ option_words told_words (option_map (told among) o)
words_of_told among None = refl
words_of_told among (Some c) = refl

unstamped_told : (among : List Stand) (o : Option Call) → option_map unstamped o ≡ option_map call_told (option_map (told among) o)
unstamped_told among None = refl
unstamped_told among (Some c) = refl

-- ---- the live calls

-- the same is told of both
abbrev AreTold : (ma mb : List Stand) (a b : CallTable) → ℕ → Type 0
AreTold ma mb a b n = option_map (told ma) (call_at a n) ≡ option_map (told mb) (call_at b n)

one_of : (ma mb : List Stand) (a b : CallTable) (n k : ℕ) → AreTold ma mb a b n → ((j : ℕ) → n + 1 ≤ j → j < n + 1 + k → AreTold ma mb a b j) → (j : ℕ) → n ≤ j → j < n + suc k → (j ≡ n) ⊎ ((j < n) ⊎ (n < j)) → AreTold ma mb a b j
one_of ma mb a b n k e r j l h (inl s) = subst (λ (z : ℕ). AreTold ma mb a b z) (sym s) e
one_of ma mb a b n k e r j l h (inr (inl s)) = absurd (omega arith)
one_of ma mb a b n k e r j l h (inr (inr s)) = r j (omega arith) (omega arith)

from_split : (ma mb : List Stand) (a b : CallTable) (n k : ℕ) (s t : List ℕ) → table_from ma a n k ++ s ≡ table_from mb b n k ++ t → ((j : ℕ) → n ≤ j → j < n + k → AreTold ma mb a b j) × (s ≡ t)
from_split ma mb a b n zero s t e = (λ j l h. absurd (omega arith), e)
from_split ma mb a b n (suc k) s t e =
    let now : List Stand → CallTable → List ℕ = λ (m : List Stand) (c : CallTable). option_words (call_words m) (call_at c n) in
    let rest : List Stand → CallTable → List ℕ = λ (m : List Stand) (c : CallTable). table_from m c (n + 1) k in
    let f : now ma a ++ (rest ma a ++ s) ≡ now mb b ++ (rest mb b ++ t) = sym (append_assoc (now ma a) (rest ma a) s) ∙ e ∙ append_assoc (now mb b) (rest mb b) t in
    let x = option_map (told ma) (call_at a n) in
    let y = option_map (told mb) (call_at b n) in
    let g : option_words told_words x ++ (rest ma a ++ s) ≡ option_words told_words y ++ (rest mb b ++ t) =
    ap (λ (z : List ℕ). z ++ (rest ma a ++ s)) (sym (words_of_told ma (call_at a n))) ∙ f ∙ ap (λ (z : List ℕ). z ++ (rest mb b ++ t)) (words_of_told mb (call_at b n)) in
    let h = (option_splits told_words told_splits).split x y (rest ma a ++ s) (rest mb b ++ t) g in
    let r = from_split ma mb a b (n + 1) k s t h.1 in
    (λ j l g. one_of ma mb a b n k h.0 r.0 j l g (cases_order j n), r.1)

none_there : (o : Option Call) → ((c : Call) → o ≡ Some c → ⊥) → o ≡ None
none_there None h = refl
none_there (Some c) h = absurd (h c refl)

past : (a : CallTable) → AreBelow a → (q : ℕ) → a.next_number ≤ q → call_at a q ≡ None
past a h q l = none_there (call_at a q) (λ (c : Call) (e : call_at a q ≡ Some c). (let b : q < a.next_number = h q c e in omega arith))

-- what is told of the same calls is the same, for all numbers
each_told : (ma mb : List Stand) (a b : CallTable) → AreBelow a → AreBelow b → a.next_number ≡ b.next_number → ((j : ℕ) → 0 ≤ j → j < 0 + a.next_number → AreTold ma mb a b j) → (q : ℕ) → (q < a.next_number) ⊎ (a.next_number ≤ q) → AreTold ma mb a b q
each_told ma mb a b h k e r q (inl l) = r q (omega arith) (omega arith)
each_told ma mb a b h k e r q (inr l) =
    let m : b.next_number ≤ q = omega arith in
    ap (option_map (told ma)) (past a h q l) ∙ ap (option_map (told mb)) (sym (past b k q m))

same_told : (a b : CallTable) (n : ℕ) → AreTold (stands a) (stands b) a b n → option_map unstamped (call_at a n) ≡ option_map unstamped (call_at b n)
same_told a b n e =
    unstamped_told (stands a) (call_at a n) ∙ ap (option_map call_told) e ∙ sym (unstamped_told (stands b) (call_at b n))

ranks_told : (a b : CallTable) (n : ℕ) → AreTold (stands a) (stands b) a b n → (c d : Call) → call_at a n ≡ Some c → call_at b n ≡ Some d → rank a c ≡ rank b d
ranks_told a b n e c d f g =
    let h : option_map (told (stands a)) (Some c) ≡ option_map (told (stands b)) (Some d) =
    ap (option_map (told (stands a))) (sym f) ∙ e ∙ ap (option_map (told (stands b))) g in
    ap rank_told h

pub table_split : (a b : CallTable) (s t : List ℕ) → AreBelow a → AreBelow b → table_words a ++ s ≡ table_words b ++ t → AreOfOneOrder a b × (s ≡ t)
table_split a b s t h k e =
    let n : a.next_number ≡ b.next_number = cc in
    let f : table_from (stands a) a 0 a.next_number ++ s ≡ table_from (stands b) b 0 b.next_number ++ t = cc in
    let g : table_from (stands a) a 0 a.next_number ++ s ≡ table_from (stands b) b 0 a.next_number ++ t = f ∙ ap (λ (z : ℕ). table_from (stands b) b 0 z ++ t) (sym n) in
    let r = from_split (stands a) (stands b) a b 0 a.next_number s t g in
    let each : (q : ℕ) → AreTold (stands a) (stands b) a b q =
    λ (q : ℕ). each_told (stands a) (stands b) a b h k n r.0 q (cases_lt q a.next_number) in
    (record { next = n; same = λ q. same_told a b q (each q); ranks = λ q. ranks_told a b q (each q) }, r.1)
