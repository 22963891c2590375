-- What is read is in the range of its types.
use Rattle.std.proofs.Common.{ℕ, zero, suc, ◌≡◌, ◌<◌, ◌≤◌, ◌+◌, ◌-◌, ◌*◌, ◌%◌, ◌^◌, Bool, true, false, cond, List, [], ◌∷◌, length, Option, Some, None, refl, ap, arith, nat_lt}
use Rattle.std.proofs.lemmas.Bool.{ltb-true}
use Rattle.std.proofs.Math.Nat.{mod-lt}
use Rattle.std.specs.Prelude.{⊤, codes, slice_index, find, option_map}
use Rattle.std.specs.Str.{bytes_eq}
use Rattle.ipc_ids.specs.Tables.{Names, code_names, named_in}
use Rattle.ipc_ids.specs.declared.numbers.TaskNo.{TaskNo}
use Rattle.ipc_ids.specs.declared.message.Mode.TheVariants.{Plain, Route}
use Rattle.ipc_ids.specs.declared.message.PhoneState.{PhoneState}
use Rattle.ipc_ids.specs.declared.message.Request.{Request}
use Rattle.ipc_ids.specs.declared.message.Request.TheVariants as ask
use Rattle.ipc_ids.specs.declared.message.Outcome.{Outcome}
use Rattle.ipc_ids.specs.declared.message.Outcome.TheVariants as got
use Rattle.ipc_ids.specs.declared.entry.Entry.{Entry}
use Rattle.ipc_ids.specs.declared.entry.Entry.TheVariants as entry
use Rattle.trace_reader.specs.Words.{part, digit_on, number_after, number_of, small_of, task_of, label_of, code_or, code_of, digit_of, bytes_from, owner_of, fibril_of}
use Rattle.trace_reader.specs.Line.{AreArgs, AreBytes, IsBuilt}
use Rattle.trace_reader.specs.Read.{is, args_in, msg_in, reply_in, state_in, change_in, request_in, outcome_in, call_effect_in, gets_in, fibril_effect_in, effect_in, head_in, entry_in, nth, parts, read, IsPlain}

-- of two, whichever is taken
pick : {A : Type 0} (P : A → Type 0) (b : Bool) (x y : A) → P x → P y → P (cond b x y)
pick P true x y h k = h
pick P false x y h k = k

-- ---- numbers
after_fits : (n : ℕ) (w : List ℕ) → n < 2 ^ 64 → number_after n w < 2 ^ 64
after_fits n [] h = h
after_fits n (c ∷ w) h = after_fits (digit_on n c) w (wraps ((n * 10 % 2 ^ 64 + c) % 2 ^ 64 + (2 ^ 64 - 48))) where
  wraps : (m : ℕ) → m % 2 ^ 64 < 2 ^ 64
  wraps m = mod-lt m (omega arith)

number_fits : (w : List ℕ) → number_of w < 2 ^ 64
unfolding number_of
number_fits w = after_fits 0 w (omega arith)

small_fits : (w : List ℕ) → small_of w < 2 ^ 32
small_fits w = fits (nat_lt (number_of w) 4294967296) (number_of w) (λ h. ltb-true (number_of w) 4294967296 h) where
  fits : (b : Bool) (n : ℕ) → (b ≡ true → n < 4294967296) → cond b n 0 < 2 ^ 32
  fits true n h = omega (arith, h refl)
  fits false n h = omega arith

task_fits : (w : List ℕ) → (task_of w).0 < 2 ^ 64
task_fits [] = omega arith
task_fits (b ∷ w) = number_fits w

abbrev AreNames : Names → Type 0
AreNames [] = ⊤
AreNames (n ∷ names) = (n.1 < 2 ^ 64) × AreNames names

abbrev IsCode : List ℕ → Option ℕ → Type 0
IsCode w o = (code_or o w).0 < 2 ^ 64

find_fits : (names : Names) (w v : List ℕ) → AreNames names → IsCode v (named_in names w)
find_fits [] w v h = number_fits v
find_fits (n ∷ names) w v h =
    pick (λ (o : Option (List ℕ × ℕ)). IsCode v (option_map (λ entry. entry.1) o)) (bytes_eq n.0 w) (Some n) (find (λ entry. bytes_eq entry.0 w) names) h.0 (find_fits names w v h.1)

code_fits : (w : List ℕ) → (code_of w).0 < 2 ^ 64
code_fits w = find_fits code_names w w (omega arith, (omega arith, (omega arith, (omega arith, (omega arith, (omega arith, (omega arith, (omega arith, (omega arith, (omega arith, tt))))))))))

args_fit : (w : ℕ → List ℕ) (i : ℕ) → AreArgs (args_in w i)
args_fit w i = record { five = refl; small = fit (number_fits (w i)) (number_fits (w (i + 1))) (number_fits (w (i + 2))) (number_fits (w (i + 3))) (number_fits (w (i + 4))) } where
  fit : {a b c d e : ℕ} → a < 2 ^ 64 → b < 2 ^ 64 → c < 2 ^ 64 → d < 2 ^ 64 → e < 2 ^ 64 → (k : ℕ) → slice_index (a ∷ b ∷ c ∷ d ∷ e ∷ []) k < 2 ^ 64
  fit h i j k l zero = h
  fit h i j k l (suc zero) = i
  fit h i j k l (suc (suc zero)) = j
  fit h i j k l (suc (suc (suc zero))) = k
  fit h i j k l (suc (suc (suc (suc zero)))) = l
  fit h i j k l (suc (suc (suc (suc (suc n))))) = omega arith

-- ---- bytes
digit_fits : (c : ℕ) → digit_of c < 16
digit_fits c = fits (nat_lt c 58) (nat_lt c 103) c (λ h. ltb-true c 58 h) (λ h. ltb-true c 103 h) where
  fits : (a b : Bool) (c : ℕ) → (a ≡ true → c < 58) → (b ≡ true → c < 103) → cond a (c - 48) (cond b (c - 87) 0) < 16
  fits true b c h k = omega (arith, h refl)
  fits false true c h k = omega (arith, k refl)
  fits false false c h k = omega arith

bytes_fit : (k : ℕ) (w : List ℕ) → (length (bytes_from k w) ≤ k) × AreBytes (bytes_from k w)
bytes_fit zero w = (omega arith, tt)
bytes_fit (suc k) [] = (omega arith, tt)
bytes_fit (suc k) (c ∷ []) = (omega arith, tt)
bytes_fit (suc k) (c ∷ d ∷ w) =
    let more = bytes_fit k w in (omega (arith, more.0), (omega (arith, digit_fits c, digit_fits d), more.1))

-- ---- entries
abbrev AsPlain : Entry → Type 0
AsPlain e = IsPlain e → IsBuilt e

abbrev Given : (ℕ → List ℕ) → Type 0
Given w = AsPlain (entry_in w)

request_fits : (t : TaskNo) (w : ℕ → List ℕ) → t.0 < 2 ^ 64 → AsPlain (entry.Head t (request_in w))
request_fits t w h =
    let P : Request → Type 0 = λ r. AsPlain (entry.Head t r) in
    pick P (is (w 1) (codes "call")) _ _ (λ p. (h, (number_fits (w 2), (number_fits (w 3), (args_fit w 4, tt)))))
    (pick P (is (w 1) (codes "receive")) _ _ (λ p. (h, tt))
    (pick P (is (w 1) (codes "answer")) _ _ (λ p. (h, (number_fits (w 2), (code_fits (w 3), (args_fit w 4, tt)))))
    (pick P (is (w 1) (codes "forward")) _ _
    (pick (λ m. P (ask.Forward (number_of (w 2)) (number_of (w 3)) m (change_in w))) (is (w 4) (codes "route")) Route Plain
    (pick (λ c. P (ask.Forward (number_of (w 2)) (number_of (w 3)) Route c)) (is (w 5) []) None (Some (msg_in w 5)) (λ p. (h, (number_fits (w 2), (number_fits (w 3), tt)))) (λ p. (h, (number_fits (w 2), (number_fits (w 3), (number_fits (w 5), (args_fit w 6, tt)))))))
    (pick (λ c. P (ask.Forward (number_of (w 2)) (number_of (w 3)) Plain c)) (is (w 5) []) None (Some (msg_in w 5)) (λ p. (h, (number_fits (w 2), (number_fits (w 3), tt)))) (λ p. (h, (number_fits (w 2), (number_fits (w 3), (number_fits (w 5), (args_fit w 6, tt))))))))
    (pick P (is (w 1) (codes "hangup")) _ _ (λ p. (h, (number_fits (w 2), tt)))
    (pick P (is (w 1) (codes "area")) _ _ (λ p. (h, (number_fits (w 2), (number_fits (w 3), (number_fits (w 4), tt)))))
    (pick P (is (w 1) (codes "unarea")) _ _ (λ p. (h, (number_fits (w 2), tt)))
    (pick P (is (w 1) (codes "poke")) _ _ (λ p. (h, (number_fits (w 2), (bytes_fit 64 (w 3), tt))))
    (pick P (is (w 1) (codes "peek")) _ _ (λ p. (h, (number_fits (w 2), (number_fits (w 3), tt)))) (λ p. (h, tt))))))))))

label_fits : (w : List ℕ) → ((label_of w).task.0 < 2 ^ 64) × ((label_of w).phone.0 < 2 ^ 32)
label_fits w = (task_fits (part 46 0 w), small_fits (part 46 1 w))

fibril_fits : (w : List ℕ) → ((owner_of w).0 < 2 ^ 64) × ((fibril_of w).0 < 2 ^ 64)
fibril_fits w = (task_fits (part 47 0 w), number_fits (part 47 1 w))

outcome_fits : (w : ℕ → List ℕ) → AsPlain (entry.Outcome (outcome_in w))
outcome_fits w =
    let P : Outcome → Type 0 = λ o. AsPlain (entry.Outcome o) in
    pick P (is (w 3) (codes "EOK")) _ _ (λ p. tt)
    (pick P (is (w 3) (codes "EMPTY")) _ _ (λ p. tt)
    (pick P (is (w 3) (codes "call")) _ _ (λ p. (number_fits (w 4), tt))
    (pick P (is (w 3) (codes "received")) _ _ (λ p. (number_fits (w 4), (number_fits (w 5), (args_fit w 6, (label_fits (w 12), tt)))))
    (pick P (is (w 3) (codes "answer")) _ _ (λ p. (number_fits (w 4), (code_fits (w 5), (args_fit w 6, tt))))
    (pick P (is (w 3) (codes "bytes")) _ _ (λ p. (bytes_fit 64 (w 4), tt))
    (λ p. ((code_fits (w 3), λ z. p (ap (λ (n : ℕ). entry.Outcome (got.Refused (record { 0 = n }))) z)), tt)))))))

call_effect_fits : (w : ℕ → List ℕ) → AsPlain (call_effect_in w)
call_effect_fits w =
    let n = number_fits (w 3) in
    pick AsPlain (is (w 4) (codes "accepted")) _ _
    (pick (λ to. AsPlain (entry.Accepted (record { 0 = number_of (w 3) }) (label_of (w 5)) (number_of (w 7)) to)) (is (w 8) (codes "to")) (Some (task_of (w 9))) None
    (λ p. (n, (label_fits (w 5), (number_fits (w 7), (task_fits (w 9), tt))))) (λ p. (n, (label_fits (w 5), (number_fits (w 7), tt)))))
    (pick AsPlain (is (w 4) (codes "received")) _ _ (λ p. (n, (task_fits (w 5), tt)))
    (pick AsPlain (is (w 4) (codes "forwarded")) _ _ (λ p. (n, (task_fits (w 5), (task_fits (w 7), (label_fits (w 9), tt)))))
    (pick AsPlain (is (w 4) (codes "answered")) _ _
    (pick (λ by. AsPlain (entry.Answered (record { 0 = number_of (w 3) }) (reply_in w 5) by)) (is (w 12) (codes "kernel")) None (Some (task_of (w 12)))
    (λ p. (n, (code_fits (w 5), (args_fit w 6, tt)))) (λ p. (n, (code_fits (w 5), (args_fit w 6, (task_fits (w 12), tt))))))
    (pick AsPlain (is (w 4) (codes "vanished")) _ _ (λ p. (n, tt))
    (pick AsPlain (is (w 4) (codes "delivered")) _ _ (λ p. (n, (task_fits (w 5), tt)))
    (pick AsPlain (is (w 4) (codes "dropped")) _ _ (λ p. (n, (task_fits (w 5), tt))) (λ p. (n, tt))))))))

state_fits : (w : ℕ → List ℕ) → AsPlain (entry.PhoneIs (label_of (w 3)) (state_in w))
state_fits w =
    let P : PhoneState → Type 0 = λ s. AsPlain (entry.PhoneIs (label_of (w 3)) s) in
    let l = label_fits (w 3) in
    pick P (is (w 4) (codes "free")) _ _ (λ p. (l, tt))
    (pick P (is (w 4) (codes "connecting")) _ _ (λ p. (l, tt))
    (pick P (is (w 4) (codes "hungup")) _ _ (λ p. (l, tt))
    (pick P (is (w 4) (codes "slammed")) _ _ (λ p. (l, tt)) (λ p. (l, (task_fits (w 5), tt))))))

fibril_effect_fits : (w : ℕ → List ℕ) → AsPlain (fibril_effect_in w)
fibril_effect_fits w =
    let f = fibril_fits (w 2) in
    let t = owner_of (w 2) in
    let k = fibril_of (w 2) in
    pick AsPlain (is (w 3) (codes "sent")) _ _
    (pick (λ s. AsPlain (entry.Sent t k (record { 0 = number_of (w 4) }) s)) (is (w 5) (codes "slot")) (Some (small_of (w 6))) None
    (λ p. (f, (number_fits (w 4), (small_fits (w 6), tt)))) (λ p. (f, (number_fits (w 4), tt))))
    (pick AsPlain (is (w 3) (codes "gets")) _ _
    (pick (λ s. AsPlain (entry.Gets t k (record { 0 = number_of (w 4) }) s (gets_in w))) (is (w 5) (codes "slot")) (Some (small_of (w 6))) None
    (pick (λ r. AsPlain (entry.Gets t k (record { 0 = number_of (w 4) }) (Some (small_of (w 6))) r)) (is (w 5) (codes "slot")) (reply_in w 7) (reply_in w 6)
    (λ p. (f, (number_fits (w 4), (small_fits (w 6), (code_fits (w 7), (args_fit w 8, tt)))))) (λ p. (f, (number_fits (w 4), (small_fits (w 6), (code_fits (w 6), (args_fit w 7, tt)))))))
    (pick (λ r. AsPlain (entry.Gets t k (record { 0 = number_of (w 4) }) None r)) (is (w 5) (codes "slot")) (reply_in w 7) (reply_in w 6)
    (λ p. (f, (number_fits (w 4), (code_fits (w 7), (args_fit w 8, tt))))) (λ p. (f, (number_fits (w 4), (code_fits (w 6), (args_fit w 7, tt)))))))
    (pick AsPlain (is (w 3) (codes "blocks")) _ _
    (pick (λ y. AsPlain (entry.Blocks t k y)) (is (w 4) (codes "answer")) _ _ (λ p. (f, (number_fits (w 5), tt)))
    (pick (λ y. AsPlain (entry.Blocks t k y)) (is (w 4) (codes "mutex")) _ _ (λ p. (f, (small_fits (w 5), tt)))
    (pick (λ y. AsPlain (entry.Blocks t k y)) (is (w 4) (codes "phone")) _ _ (λ p. (f, tt)) (λ p. (f, tt)))))
    (pick AsPlain (is (w 3) (codes "starts")) _ _ (λ p. (f, (label_fits (w 4), tt)))
    (pick AsPlain (is (w 3) (codes "ends")) _ _
    (pick AsPlain (is (w 4) []) _ _ (λ p. (f, tt)) (λ p. (f, (number_fits (w 5), tt))))
    (pick AsPlain (is (w 3) (codes "begins")) _ _
    (pick (λ m. AsPlain (entry.Begins t k (record { 0 = number_of (w 5) }) m (small_of (w 8)) (number_of (w 10)))) (is (w 6) (codes "atomic")) _ _ (λ p. (f, (number_fits (w 5), (small_fits (w 8), (number_fits (w 10), tt)))))
    (pick (λ m. AsPlain (entry.Begins t k (record { 0 = number_of (w 5) }) m (small_of (w 8)) (number_of (w 10)))) (is (w 6) (codes "serialize")) _ _ (λ p. (f, (number_fits (w 5), (small_fits (w 8), (number_fits (w 10), tt))))) (λ p. (f, (number_fits (w 5), (small_fits (w 8), (number_fits (w 10), tt)))))))
    (pick AsPlain (is (w 3) (codes "drops")) _ _ (λ p. (f, (number_fits (w 5), tt))) (λ p. (f, (code_fits (w 4), tt)))))))))

effect_fits : (w : ℕ → List ℕ) → AsPlain (effect_in w)
effect_fits w =
    pick AsPlain (is (w 2) (codes "=")) _ _ (outcome_fits w)
    (pick AsPlain (is (w 2) (codes "call")) _ _ (call_effect_fits w)
    (pick AsPlain (is (w 2) (codes "phone")) _ _ (state_fits w)
    (pick AsPlain (is (w 2) (codes "area")) _ _ (λ p. (task_fits (w 3), (number_fits (w 4), (number_fits (w 5), (number_fits (w 6), (number_fits (w 8), tt))))))
    (pick AsPlain (is (w 2) (codes "unarea")) _ _ (λ p. (task_fits (w 3), (number_fits (w 4), tt)))
    (pick AsPlain (is (w 2) (codes "write")) _ _ (λ p. (task_fits (w 3), (number_fits (w 4), (number_fits (w 5), (number_fits (w 7), tt)))))
    (fibril_effect_fits w))))))

head_fits : (w : ℕ → List ℕ) → AsPlain (head_in w)
head_fits w =
    pick AsPlain (is (w 0) (codes "kill")) _ _ (λ p. (task_fits (w 1), tt))
    (pick AsPlain (is (w 0) (codes "spawn")) _ _ (λ p. (task_fits (w 1), tt))
    (pick AsPlain (is (w 1) (codes "ended")) _ _ (λ p. (task_fits (w 0), tt)) (request_fits (task_of (w 0)) w (task_fits (w 0)))))

-- what is read is built, but for a refusal with EOK
pub read_is_built : (line : List ℕ) → IsPlain (read line) → IsBuilt (read line)
read_is_built line =
    let w = nth (parts 13 0 line) in
    pick AsPlain (is (w 0) []) _ _ (effect_fits w) (head_fits w)
