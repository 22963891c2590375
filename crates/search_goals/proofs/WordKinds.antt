-- The words of lines are of their kinds.
use Rattle.std.proofs.Common.{◌≡◌, ℕ, zero, suc, ◌/◌, ◌%◌, ◌≤◌, ◌<◌, Bool, true, false, not, List, [], ◌∷◌, ◌++◌, length, refl, sym, ap, subst, ◌∙◌, inl, inr, arith, append_assoc, ne_eqb, eq-eqb, lt-ltb, decimal}
use Rattle.std.proofs.Math.Seq.{take-append_seam, drop-append_seam}
use Rattle.std.specs.Prelude.{◌==◌, codes, slice_index, unwrap_or, ⊤}
use Rattle.std.specs.Char.{is_ascii_digit}
use Rattle.std.specs.Fmt.{digits, digits_onto, digit_glyph}
use Rattle.std.specs.List.{list_all}
use Rattle.std.proofs.lemmas.Bool.{cases_Bool, and_parts, and_from, or_left, leb-true}
use Rattle.std.proofs.lemmas.List.Folds.{list_all-append}
use Rattle.ipc_ids.specs.declared.numbers.TaskNo.{TaskNo}
use Rattle.ipc_ids.specs.declared.numbers.FibrilNo.{FibrilNo}
use Rattle.ipc_ids.specs.declared.numbers.Label.{Label}
use Rattle.ipc_ids.specs.declared.numbers.Code.{Code}
use Rattle.ipc_ids.specs.Tables.{Names, code_names, name_of}
use Rattle.trace_print.specs.Text.{task_text, label_text, fibril_text, code_text, digit_text, digits_text, bytes_text}
use Rattle.search_goals.specs.Goals.{is_gap}
use Rattle.search_goals.specs.LineShapes.{is_number, is_task, mark_place, is_numbered, is_of_kind}
use Rattle.search_goals.proofs.Decimals.{one_digit}
use Rattle.search_goals.proofs.LineWords.{has_no_gap}

-- a word of this kind: it is something, and has no gap
abbrev pub IsOf : (kind word : List ℕ) → Type 0
IsOf kind word =
    (has_no_gap word ≡ true) × (not (length word == 0) ≡ true) × (is_of_kind kind word ≡ true)

is_some : (w : List ℕ) → 1 ≤ length w → not (length w == 0) ≡ true
is_some [] h = absurd (omega (arith, h))
is_some (b ∷ w) h = rw (ne_eqb (length (b ∷ w)) 0 (λ e. omega (arith, e, h))) refl

-- ---- numbers

glyph_is_digit : (n : ℕ) → is_ascii_digit (digit_glyph false (n % 10)) ≡ true
glyph_is_digit n = rw (lt-ltb (n % 10) 10 (omega arith)) (one_digit (n % 10) (omega arith))

onto_digits : (k n : ℕ) (acc : List ℕ) → list_all is_ascii_digit acc ≡ true →
    list_all is_ascii_digit (digits_onto k 10 false n acc) ≡ true
onto_digits zero n acc h = h
onto_digits (suc k) n acc h =
    let more = and_from _ _ (glyph_is_digit n) h in
    elim (cases_Bool (n / 10 == 0)) [
      | inl last ↦ rw last more
      | inr goes_on ↦ rw goes_on (onto_digits k (n / 10) (digit_glyph false (n % 10) ∷ acc) more)
    ]

onto_some : (k n : ℕ) (acc : List ℕ) → 1 ≤ length acc → 1 ≤ length (digits_onto k 10 false n acc)
onto_some zero n acc h = h
onto_some (suc k) n acc h =
    elim (cases_Bool (n / 10 == 0)) [
      | inl last ↦ rw last (omega arith)
      | inr goes_on ↦ rw goes_on (onto_some k (n / 10) (digit_glyph false (n % 10) ∷ acc) (omega arith))
    ]

first_some : (k n : ℕ) → 1 ≤ length (digits_onto (suc k) 10 false n [])
first_some k n =
    elim (cases_Bool (n / 10 == 0)) [
      | inl last ↦ rw last (omega arith)
      | inr goes_on ↦ rw goes_on (onto_some k (n / 10) (digit_glyph false (n % 10) ∷ []) (omega arith))
    ]

are_digits : (n : ℕ) → list_all is_ascii_digit (decimal n) ≡ true
unfolding digits
are_digits n = onto_digits 64 n [] refl

some_digits : (n : ℕ) → 1 ≤ length (decimal n)
unfolding digits
some_digits n = first_some 63 n

-- digits are no other byte
digit_is_not : (mark b : ℕ) → mark < 48 → is_ascii_digit b ≡ true → not (b == mark) ≡ true
digit_is_not mark b low h =
    let least = leb-true 48 b (and_parts _ _ h).0 in rw (ne_eqb b mark (λ e. omega (arith, e, low, least))) refl

digit_is_no_gap : (b : ℕ) → is_ascii_digit b ≡ true → not (is_gap b) ≡ true
digit_is_no_gap b h =
    let least = leb-true 48 b (and_parts _ _ h).0 in
    rw (
      ne_eqb b 32 (λ e. omega (arith, e, least)),
      ne_eqb b 9 (λ e. omega (arith, e, least)),
      ne_eqb b 10 (λ e. omega (arith, e, least)),
    ) refl

digits_lack : (mark : ℕ) (ds : List ℕ) → mark < 48 → list_all is_ascii_digit ds ≡ true →
    list_all (λ b. not (b == mark)) ds ≡ true
digits_lack mark [] low h = refl
digits_lack mark (d ∷ ds) low h =
    let parts = and_parts (is_ascii_digit d) (list_all is_ascii_digit ds) h in
    and_from _ _ (digit_is_not mark d low parts.0) (digits_lack mark ds low parts.1)

digits_whole : (ds : List ℕ) → list_all is_ascii_digit ds ≡ true → has_no_gap ds ≡ true
digits_whole [] h = refl
digits_whole (d ∷ ds) h =
    let parts = and_parts (is_ascii_digit d) (list_all is_ascii_digit ds) h in
    and_from _ _ (digit_is_no_gap d parts.0) (digits_whole ds parts.1)

decimal_whole : (n : ℕ) → has_no_gap (decimal n) ≡ true
decimal_whole n = digits_whole (decimal n) (are_digits n)

numeral : (n : ℕ) → is_number (decimal n) ≡ true
numeral n = and_from _ _ (lt-ltb 0 (length (decimal n)) (let some = some_digits n in omega (arith, some))) (are_digits n)

pub number_is : (n : ℕ) → IsOf (codes "N") (decimal n)
unfolding is_of_kind
number_is n = (decimal_whole n, is_some (decimal n) (some_digits n), numeral n)

-- ---- tasks, phones and fibrils

task_whole : (t : TaskNo) → has_no_gap (task_text t) ≡ true
task_whole t = decimal_whole t.0

a_task : (t : TaskNo) → is_task (task_text t) ≡ true
a_task t = numeral t.0

task_some : (t : TaskNo) → 1 ≤ length (task_text t)
task_some t = omega arith

pub task_is : (t : TaskNo) → IsOf (codes "T") (task_text t)
unfolding is_of_kind
task_is t = (task_whole t, is_some (task_text t) (task_some t), a_task t)

place_front : (mark : ℕ) (w rest : List ℕ) → list_all (λ b. not (b == mark)) w ≡ true →
    mark_place mark (w ++ mark ∷ rest) ≡ length w
place_front mark [] rest h = rw (eq-eqb mark mark refl) refl
place_front mark (b ∷ w) rest h =
    let parts = and_parts (not (b == mark)) (list_all (λ b. not (b == mark)) w) h in
    let more = place_front mark w rest parts.1 in
    rw parts.0 (omega (arith, more))

numbered : (mark : ℕ) (w rest : List ℕ) → list_all (λ b. not (b == mark)) w ≡ true → is_task w ≡ true →
    is_number rest ≡ true → is_numbered mark (w ++ mark ∷ rest) ≡ true
numbered mark w rest lacks task number =
    let place = place_front mark w rest lacks in
    rw (place, take-append_seam w (mark ∷ rest), drop-append_seam w (mark ∷ rest)) (and_from _ _ task number)

both_whole : (v w : List ℕ) → has_no_gap v ≡ true → has_no_gap w ≡ true → has_no_gap (v ++ w) ≡ true
both_whole v w h k = list_all-append (λ b. not (is_gap b)) v w ∙ and_from _ _ h k

module _ (t : TaskNo) (n mark : ℕ) (low : mark < 48) (no_gap : is_gap mark ≡ false) where
  marked_whole : has_no_gap (task_text t ++ mark ∷ decimal n) ≡ true
  marked_whole = both_whole (task_text t) (mark ∷ decimal n) (task_whole t)
      (and_from (not (is_gap mark)) _ (ap not no_gap) (decimal_whole n))

  marked_lacks : list_all (λ b. not (b == mark)) (task_text t) ≡ true
  marked_lacks = and_from (not (116 == mark)) _
      (rw (ne_eqb 116 mark (λ e. omega (arith, e, low))) refl) (digits_lack mark (decimal t.0) low (are_digits t.0))

  marked_is : is_numbered mark (task_text t ++ mark ∷ decimal n) ≡ true
  marked_is = numbered mark (task_text t) (decimal n) marked_lacks (a_task t) (numeral n)

pub phone_is : (l : Label) → IsOf (codes "P") (label_text l)
unfolding is_of_kind
phone_is l =
    let same : task_text l.task ++ 46 ∷ decimal l.phone.0 ≡ label_text l =
    sym (append_assoc (task_text l.task) (46 ∷ []) (decimal l.phone.0)) in
    let low : 46 < 48 = omega arith in
    subst (IsOf (codes "P")) same (
      marked_whole l.task l.phone.0 46 low refl,
      is_some (task_text l.task ++ 46 ∷ decimal l.phone.0) (omega arith),
      marked_is l.task l.phone.0 46 low refl,
    )

pub fibril_is : (t : TaskNo) (f : FibrilNo) → IsOf (codes "F") (fibril_text t f)
unfolding is_of_kind fibril_text
fibril_is t f =
    let same : task_text t ++ 47 ∷ decimal f.0 ≡ fibril_text t f =
    sym (append_assoc (task_text t) (47 ∷ []) (decimal f.0)) in
    let low : 47 < 48 = omega arith in
    subst (IsOf (codes "F")) same (
      marked_whole t f.0 47 low refl,
      is_some (task_text t ++ 47 ∷ decimal f.0) (omega arith),
      marked_is t f.0 47 low refl,
    )

-- ---- codes

-- each name of a table
AllNamed : (List ℕ → Type 0) → Names → Type 0
AllNamed P [] = ⊤
AllNamed P (row ∷ names) = P row.0 × AllNamed P names

named_or : (P : List ℕ → Type 0) (names : Names) (n : ℕ) (other : List ℕ) → AllNamed P names → P other →
    P (unwrap_or (name_of names n) other)
unfolding AllNamed
named_or P [] n other h k = k
named_or P (row ∷ names) n other h k =
    elim (cases_Bool (n == row.1)) [
      | inl same ↦ rw same h.0
      | inr differs ↦ rw differs (named_or P names n other h.1 k)
    ]

codes_are : AllNamed (IsOf (codes "C")) code_names
unfolding AllNamed is_of_kind
codes_are = (
  (refl, refl, refl),
  (
    (refl, refl, refl),
    (
      (refl, refl, refl),
      (
        (refl, refl, refl),
        (
          (refl, refl, refl),
          ((refl, refl, refl), ((refl, refl, refl), ((refl, refl, refl), ((refl, refl, refl), ((refl, refl, refl), tt))))),
        ),
      ),
    ),
  ),
)

number_is_code : (n : ℕ) → IsOf (codes "C") (decimal n)
unfolding is_of_kind
number_is_code n = (decimal_whole n, is_some (decimal n) (some_digits n), or_left _ _ (numeral n))

pub code_is : (c : Code) → IsOf (codes "C") (code_text c)
code_is c = named_or (IsOf (codes "C")) code_names c.0 (decimal c.0) codes_are (number_is_code c.0)

-- ---- bytes

place_passes : (p : ℕ → Bool) (xs : List ℕ) (i : ℕ) → list_all p xs ≡ true → p 0 ≡ true → p (slice_index xs i) ≡ true
place_passes p [] i h k = k
place_passes p (x ∷ xs) zero h k = (and_parts (p x) (list_all p xs) h).0
place_passes p (x ∷ xs) (suc i) h k = place_passes p xs i (and_parts (p x) (list_all p xs) h).1 k

digit_whole : (n : ℕ) → not (is_gap (digit_text n)) ≡ true
digit_whole n = place_passes (λ b. not (is_gap b)) (codes "0123456789abcdef") n refl refl

bytes_whole : (bytes : List ℕ) → has_no_gap (digits_text bytes) ≡ true
bytes_whole [] = refl
bytes_whole (b ∷ bytes) =
    and_from _ _ (digit_whole (b / 16)) (and_from _ _ (digit_whole (b % 16)) (bytes_whole bytes))

pub bytes_are : (bytes : List ℕ) → IsOf (codes "B") (bytes_text bytes)
unfolding is_of_kind
bytes_are [] = (refl, refl, refl)
bytes_are (b ∷ bytes) = (bytes_whole (b ∷ bytes), is_some (digits_text (b ∷ bytes)) (omega arith), refl)
