-- What is read in the words of an entry is what the entry has.
use Rattle.std.proofs.Common.{ℕ, get_or, zero, suc, drop, ◌-◌, ◌≡◌, ◌<◌, ◌≤◌, ◌+◌, ◌^◌, true, List, [], ◌∷◌, ◌++◌, length, Option, None, refl, sym, ap, ◌∙◌, arith, ne_eqb, decimal, append_assoc, subst, inl, inr, ◌/◌, ◌%◌, ◌*◌}
use native.Mathlib.Numerals.{unary_clauses}
use Rattle.std.specs.Prelude.{unwrap_or}
use Rattle.std.specs.Char.{digit_value}
use Rattle.std.specs.Str.Parse.{digits_value, digits_value_after, AllDigits}
use Rattle.std.proofs.lemmas.Bool.{lt-ltb, cases_eq, cases_lt}
use Rattle.std.proofs.lemmas.Fmt.{decimal_is_IsNumeral}
use Rattle.std.proofs.lemmas.Grind.{common_steps}
use Rattle.std.proofs.lemmas.List.{append-nil}
use Rattle.ipc_ids.specs.declared.numbers.TaskNo.{TaskNo}
use Rattle.ipc_ids.specs.declared.numbers.Label.{Label}
use Rattle.ipc_ids.specs.declared.numbers.Code.{Code}
use Rattle.ipc_ids.specs.Tables.{code_names, name_of, named_in}
use Rattle.trace_print.specs.Text.{task_text, label_text, code_text, digit_text, digits_text, bytes_text, fibril_text}
use Rattle.trace_reader.specs.Words.{part, before, digit_on, number_after, number_of, small_of, task_of, label_of, code_or, code_of, digit_of, bytes_from, bytes_of, owner_of, fibril_of}
use Rattle.trace_reader.specs.Words.{lacks}
use Rattle.trace_reader.specs.Line.{AreBytes}
use Rattle.ipc_ids.specs.declared.numbers.FibrilNo.{FibrilNo}
use Rattle.trace_reader.proofs.Parts.{lacks-append, before_mark, before_all, behind_mark}

-- digits have no mark that is no digit
lacks_digits : (mark : ℕ) (ds : List ℕ) → mark < 48 → AllDigits 10 ds → lacks mark ds ≡ true
lacks_digits mark [] low h = refl
lacks_digits mark (d ∷ ds) low h = grind (arith, lacks_digits mark ds low h.1, h.0)

grows : (n : ℕ) (ds : List ℕ) → n ≤ digits_value_after 10 n ds
grows n [] = omega arith
grows n (d ∷ ds) = more n (digit_value d) _ (grows (n * 10 + digit_value d) ds) where
  more : (n d k : ℕ) → n * 10 + d ≤ k → n ≤ k
  more n d k h = omega (arith, h)

-- digits that write a number of 64 bits are read as that
number_of_digits :
    (n : ℕ) (ds : List ℕ) → AllDigits 10 ds → digits_value_after 10 n ds < 2 ^ 64 →
    number_after n ds ≡ digits_value_after 10 n ds
number_of_digits n [] own small = refl
number_of_digits n (d ∷ ds) own small =
    ap (λ (m : ℕ). number_after m ds) (no_wrap n d own.0 (fits n (digit_value d) _ (grows (n * 10 + digit_value d) ds) small))
    ∙ number_of_digits (n * 10 + digit_value d) ds own.1 small
  where
    fits : (n d k : ℕ) → n * 10 + d ≤ k → k < 2 ^ 64 → n * 10 + d < 2 ^ 64
    fits n d k h s = omega (arith, h, s)

    digit_is : (d : ℕ) → digit_value d < 10 → d ≡ digit_value d + 48
    digit_is d h = grind (arith, h)

    spelled : (n d e : ℕ) → d ≡ e + 48 → n * 10 + e < 2 ^ 64 → digit_on n d ≡ n * 10 + e
    spelled n d e is h = omega (arith, is, h)

    no_wrap : (n d : ℕ) → digit_value d < 10 → n * 10 + digit_value d < 2 ^ 64 → digit_on n d ≡ n * 10 + digit_value d
    no_wrap n d own h = spelled n d (digit_value d) (digit_is d own) h

pub number_again : (n : ℕ) → n < 2 ^ 64 → number_of (decimal n) ≡ n
unfolding number_of
number_again n h =
    let own = decimal_is_IsNumeral n h in
    let small : digits_value 10 (decimal n) < 2 ^ 64 = rw (own.1) h in
    number_of_digits 0 (decimal n) own.0.1 small ∙ own.1

pub lacks_decimal : (mark n : ℕ) → mark < 48 → n < 2 ^ 64 → lacks mark (decimal n) ≡ true
lacks_decimal mark n low h = lacks_digits mark (decimal n) low (decimal_is_IsNumeral n h).0.1

pub task_again : (t : TaskNo) → t.0 < 2 ^ 64 → task_of (task_text t) ≡ t
task_again t h = ap (λ (n : ℕ). record { 0 = n }) (number_again t.0 h)

dotted : (l : Label) → label_text l ≡ task_text l.task ++ 46 ∷ decimal l.phone.0
dotted l = append_assoc (task_text l.task) (46 ∷ []) (decimal l.phone.0)

pub small_again : (n : ℕ) → n < 2 ^ 32 → small_of (decimal n) ≡ n
small_again n h = rw (number_again n (omega (arith, h)), lt-ltb n 4294967296 (omega (arith, h))) refl

pub lacks_task : (mark : ℕ) (t : TaskNo) → mark < 48 → t.0 < 2 ^ 64 → lacks mark (task_text t) ≡ true
lacks_task mark t low h = lacks-append mark (116 ∷ []) (decimal t.0) (rw (ne_eqb 116 mark (λ e. apart low e)) refl) (lacks_decimal mark t.0 low h)
  where
    apart : {mark : ℕ} → mark < 48 → 116 ≡ mark → ⊥
    apart h e = omega (arith, h, e)

pub label_again : (l : Label) → l.task.0 < 2 ^ 64 → l.phone.0 < 2 ^ 32 → label_of (label_text l) ≡ l
label_again l h k =
    let first : part 46 0 (label_text l) ≡ task_text l.task = ap (part 46 0) (dotted l) ∙ before_mark 46 (task_text l.task) (decimal l.phone.0) (lacks_task 46 l.task (omega arith) h) in
    let second : part 46 1 (label_text l) ≡ decimal l.phone.0 = ap (part 46 1) (dotted l) ∙ ap (before 46) (behind_mark 46 (task_text l.task) (decimal l.phone.0) (lacks_task 46 l.task (omega arith) h)) ∙ before_all 46 (decimal l.phone.0) (lacks_decimal 46 l.phone.0 (omega arith) (omega (arith, k))) in
    ap (λ (w : List ℕ). record { task = task_of w; phone = record { 0 = small_of (part 46 1 (label_text l)) } }) first
    ∙ ap (λ (w : List ℕ). record { task = task_of (task_text l.task); phone = record { 0 = small_of w } }) second
    ∙ ap (λ (t : TaskNo). record { task = t; phone = record { 0 = small_of (decimal l.phone.0) } }) (task_again l.task h)
    ∙ ap (λ (n : ℕ). record { task = l.task; phone = record { 0 = n } }) (small_again l.phone.0 k)

pub lacks_label : (mark : ℕ) (l : Label) → mark < 46 → l.task.0 < 2 ^ 64 → l.phone.0 < 2 ^ 32 → lacks mark (label_text l) ≡ true
lacks_label mark l low h k =
    lacks-append mark (task_text l.task ++ 46 ∷ []) (decimal l.phone.0)
    (lacks-append mark (task_text l.task) (46 ∷ []) (lacks_task mark l.task (omega (arith, low)) h) (rw (ne_eqb 46 mark (λ e. apart low e)) refl))
    (lacks_decimal mark l.phone.0 (omega (arith, low)) (omega (arith, k)))
  where
    apart : {mark : ℕ} → mark < 46 → 46 ≡ mark → ⊥
    apart h e = omega (arith, h, e)

-- ---- codes
pub one_more : (P : ℕ → Type 0) (n : ℕ) → ((k : ℕ) → k < n → P k) → P n → (k : ℕ) → k < suc n → P k
one_more P n below last k h =
    elim (cases_eq k n) [ inl e ↦ subst P (sym e) last | inr apart ↦ below k (omega (arith, h, apart)) ]

abbrev pub CodeAgain : ℕ → Type 0
CodeAgain n = code_of (code_text (record { 0 = n })) ≡ record { 0 = n }

code_small : (n : ℕ) → n < 10 → CodeAgain n
code_small =
    (one_more CodeAgain 9 (one_more CodeAgain 8 (one_more CodeAgain 7 (one_more CodeAgain 6 (one_more CodeAgain 5 (one_more CodeAgain 4 (one_more CodeAgain 3 (one_more CodeAgain 2 (one_more CodeAgain 1 (one_more CodeAgain 0 (λ k h. absurd (omega (arith, h))) refl) refl) refl) refl) refl) refl) refl) refl) refl) refl)

not_named : (w : List ℕ) → 0 < length w → AllDigits 10 w → named_in code_names w ≡ None
not_named [] some h = absurd (omega (arith, some))
not_named (d ∷ w) some h = grind (arith, common_steps, h.0)

no_name : (n : ℕ) → 10 ≤ n → name_of code_names n ≡ None
no_name n h = grind (arith, common_steps)

pub large_code : (c : Code) → 10 ≤ c.0 → code_text c ≡ decimal c.0
large_code c h = ap (λ (o : Option (List ℕ)). unwrap_or o (decimal c.0)) (no_name c.0 h)

pub code_again : (c : Code) → c.0 < 2 ^ 64 → code_of (code_text c) ≡ c
code_again c h =
    elim (cases_lt c.0 10) [
      | inl small ↦ code_small c.0 small
      | inr large ↦
          let own = decimal_is_IsNumeral c.0 h in
          let text : code_text c ≡ decimal c.0 = ap (λ (o : Option (List ℕ)). unwrap_or o (decimal c.0)) (no_name c.0 (omega (arith, large))) in
          ap code_of text ∙ ap (λ (o : Option ℕ). code_or o (decimal c.0)) (not_named (decimal c.0) own.0.0 own.0.1) ∙ ap (λ (n : ℕ). record { 0 = n }) (number_again c.0 h)
    ]

abbrev pub CodeLacks : ℕ → Type 0
CodeLacks n = (lacks 32 (code_text (record { 0 = n })) ≡ true) × (lacks 10 (code_text (record { 0 = n })) ≡ true)

code_lacks_small : (n : ℕ) → n < 10 → CodeLacks n
code_lacks_small =
    (one_more CodeLacks 9 (one_more CodeLacks 8 (one_more CodeLacks 7 (one_more CodeLacks 6 (one_more CodeLacks 5 (one_more CodeLacks 4 (one_more CodeLacks 3 (one_more CodeLacks 2 (one_more CodeLacks 1 (one_more CodeLacks 0 (λ k h. absurd (omega (arith, h))) (refl, refl)) (refl, refl)) (refl, refl)) (refl, refl)) (refl, refl)) (refl, refl)) (refl, refl)) (refl, refl)) (refl, refl)) (refl, refl))

lacks_large : (mark : ℕ) (c : Code) → mark < 48 → 10 ≤ c.0 → c.0 < 2 ^ 64 → lacks mark (code_text c) ≡ true
lacks_large mark c low large h =
    ap (λ (o : Option (List ℕ)). lacks mark (unwrap_or o (decimal c.0))) (no_name c.0 large) ∙ lacks_decimal mark c.0 low h

pub lacks_code : (c : Code) → c.0 < 2 ^ 64 → (lacks 32 (code_text c) ≡ true) × (lacks 10 (code_text c) ≡ true)
lacks_code c h =
    elim (cases_lt c.0 10) [
      | inl small ↦ code_lacks_small c.0 small
      | inr large ↦ (lacks_large 32 c (omega arith) large h, lacks_large 10 c (omega arith) large h)
    ]

-- ---- fibrils
slashed : (t : TaskNo) (f : FibrilNo) → fibril_text t f ≡ task_text t ++ 47 ∷ decimal f.0
unfolding fibril_text
slashed t f = append_assoc (task_text t) (47 ∷ []) (decimal f.0)

pub owner_again : (t : TaskNo) (f : FibrilNo) → t.0 < 2 ^ 64 → owner_of (fibril_text t f) ≡ t
owner_again t f h =
    ap owner_of (slashed t f)
    ∙ ap task_of (before_mark 47 (task_text t) (decimal f.0) (lacks_task 47 t (omega arith) h))
    ∙ task_again t h

pub fibril_again : (t : TaskNo) (f : FibrilNo) → t.0 < 2 ^ 64 → f.0 < 2 ^ 64 → fibril_of (fibril_text t f) ≡ f
fibril_again t f h k =
    ap fibril_of (slashed t f)
    ∙ ap (λ (w : List ℕ). record { 0 = number_of (before 47 w) }) (behind_mark 47 (task_text t) (decimal f.0) (lacks_task 47 t (omega arith) h))
    ∙ ap (λ (w : List ℕ). record { 0 = number_of w }) (before_all 47 (decimal f.0) (lacks_decimal 47 f.0 (omega arith) k))
    ∙ ap (λ (n : ℕ). record { 0 = n }) (number_again f.0 k)

pub lacks_fibril : (mark : ℕ) (t : TaskNo) (f : FibrilNo) → mark < 47 → t.0 < 2 ^ 64 → f.0 < 2 ^ 64 → lacks mark (fibril_text t f) ≡ true
lacks_fibril mark t f low h k =
    ap (lacks mark) (slashed t f)
    ∙ lacks-append mark (task_text t) (47 ∷ decimal f.0) (lacks_task mark t (omega (arith, low)) h)
    (rw (ne_eqb 47 mark (λ e. apart low e)) (lacks_decimal mark f.0 (omega (arith, low)) k))
  where
    apart : {mark : ℕ} → mark < 47 → 47 ≡ mark → ⊥
    apart h e = omega (arith, h, e)

-- ---- bytes as digits
abbrev DigitAgain : ℕ → Type 0
DigitAgain n = (digit_of (digit_text n) ≡ n) × (lacks 32 (digit_text n ∷ []) ≡ true) × (lacks 10 (digit_text n ∷ []) ≡ true)

digit_again : (n : ℕ) → n < 16 → DigitAgain n
digit_again =
    (one_more DigitAgain 15 (one_more DigitAgain 14 (one_more DigitAgain 13 (one_more DigitAgain 12 (one_more DigitAgain 11 (one_more DigitAgain 10 (one_more DigitAgain 9 (one_more DigitAgain 8 (one_more DigitAgain 7 (one_more DigitAgain 6 (one_more DigitAgain 5 (one_more DigitAgain 4 (one_more DigitAgain 3 (one_more DigitAgain 2 (one_more DigitAgain 1 (one_more DigitAgain 0 (λ k h. absurd (omega (arith, h))) (refl, refl, refl)) (refl, refl, refl)) (refl, refl, refl)) (refl, refl, refl)) (refl, refl, refl)) (refl, refl, refl)) (refl, refl, refl)) (refl, refl, refl)) (refl, refl, refl)) (refl, refl, refl)) (refl, refl, refl)) (refl, refl, refl)) (refl, refl, refl)) (refl, refl, refl)) (refl, refl, refl)) (refl, refl, refl))

digits_again : (k : ℕ) (bytes : List ℕ) → length bytes ≤ k → AreBytes bytes → bytes_from k (digits_text bytes) ≡ bytes
digits_again zero [] few h = refl
digits_again (suc k) [] few h = refl
digits_again zero (b ∷ bytes) few h = absurd (omega (arith, few))
digits_again (suc k) (b ∷ bytes) few h =
    let high : b / 16 < 16 = omega (arith, h.0) in
    let low : b % 16 < 16 = omega arith in
    let whole : b / 16 * 16 + b % 16 ≡ b = omega arith in
    rw ((digit_again (b / 16) high).0, (digit_again (b % 16) low).0, digits_again k bytes (omega (arith, few)) h.1, whole) refl

pub bytes_again : (bytes : List ℕ) → length bytes ≤ 64 → AreBytes bytes → bytes_of (bytes_text bytes) ≡ bytes
bytes_again [] few h = refl
bytes_again (b ∷ bytes) few h = digits_again 64 (b ∷ bytes) few h

digits_lack : (bytes : List ℕ) → AreBytes bytes → (lacks 32 (digits_text bytes) ≡ true) × (lacks 10 (digits_text bytes) ≡ true)
digits_lack [] h = (refl, refl)
digits_lack (b ∷ bytes) h =
    let high = digit_again (b / 16) (omega (arith, h.0)) in
    let low = digit_again (b % 16) (omega arith) in
    let more = digits_lack bytes h.1 in (
      lacks-append 32 (digit_text (b / 16) ∷ []) (digit_text (b % 16) ∷ digits_text bytes) high.1 (lacks-append 32 (digit_text (b % 16) ∷ []) (digits_text bytes) low.1 more.0),
      lacks-append 10 (digit_text (b / 16) ∷ []) (digit_text (b % 16) ∷ digits_text bytes) high.2 (lacks-append 10 (digit_text (b % 16) ∷ []) (digits_text bytes) low.2 more.1),
    )

pub lacks_bytes : (bytes : List ℕ) → AreBytes bytes → (lacks 32 (bytes_text bytes) ≡ true) × (lacks 10 (bytes_text bytes) ≡ true)
lacks_bytes [] h = (refl, refl)
lacks_bytes (b ∷ bytes) h = digits_lack (b ∷ bytes) h

-- one more byte of the digits that are left
pub one_byte : (items rest all : List ℕ) (left byte : ℕ) → 0 < left → 1 < length rest → byte ≡ digit_of (get_or rest 0 0) * 16 + digit_of (get_or rest 1 0) →
    items ++ bytes_from left rest ≡ all → (items ++ byte ∷ []) ++ bytes_from (left - 1) (drop 2 rest) ≡ all
one_byte items [] all left byte some two is h = absurd (omega (arith, two))
one_byte items (d ∷ []) all left byte some two is h = absurd (omega (arith, two))
one_byte items (d ∷ e ∷ rest) all zero byte some two is h = absurd (omega (arith, some))
one_byte items (d ∷ e ∷ rest) all (suc left) byte some two is h =
    simp unary_clauses (append_assoc items (byte ∷ []) (bytes_from left rest) ∙ ap (λ (b : ℕ). items ++ b ∷ bytes_from left rest) is ∙ h)

pub no_byte : (left : ℕ) (rest : List ℕ) → length rest ≤ 1 → bytes_from left rest ≡ []
no_byte zero rest few = refl
no_byte (suc left) [] few = refl
no_byte (suc left) (d ∷ []) few = refl
no_byte (suc left) (d ∷ e ∷ rest) few = absurd (omega (arith, few))

pub none_left : (left : ℕ) (rest : List ℕ) → left ≡ 0 → bytes_from left rest ≡ []
none_left left rest h = ap (λ (k : ℕ). bytes_from k rest) h

pub all_bytes : (items more all : List ℕ) → more ≡ [] → items ++ more ≡ all → items ≡ all
all_bytes items more all none h = sym (append-nil items) ∙ ap (λ (m : List ℕ). items ++ m) (sym none) ∙ h
