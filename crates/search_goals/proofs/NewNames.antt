-- Of so many numbers one gives a name that is not taken.
use Rattle.std.proofs.Common.{◌≡◌, ℕ, ◌+◌, ◌-◌, ◌^◌, ◌≤◌, ◌<◌, Bool, true, false, List, [], ◌∷◌, ◌++◌, length, map, drop, Option, Some, None, refl, sym, ap, subst, ◌∙◌, ◌⊎◌, inl, inr, arith, le-leb, length-append, decimal}
use Rattle.std.specs.Prelude.{◌||◌, is_some, eqb}
use Rattle.std.specs.Char.{is_ascii_digit, is_ascii_lowercase}
use Rattle.std.specs.List.{list_all, list_any}
use Rattle.std.specs.Str.{bytes_eq}
use Rattle.std.specs.Str.Parse.{digits_value}
use Rattle.std.proofs.lemmas.Bool.{and_parts, and_from, or_cases, or_parts, cases_lt, eq-eqb, or_right, or_left}
use Rattle.std.proofs.lemmas.Fmt.{decimal_is_IsNumeral, length-decimal-le}
use Rattle.std.proofs.lemmas.List.{length-map}
use Rattle.std.proofs.lemmas.List.Folds.{list_any-append, list_any_at}
use Rattle.std.proofs.lemmas.List.Quantifiers.{position-Some}
use Rattle.std.proofs.lemmas.Map.Steps.{le-length_from_below}
use Rattle.std.proofs.lemmas.Slice.Eq.{bytes_eq-Decides}
use Rattle.script_lines.specs.declared.plan.TaskPlan.{TaskPlan}
use Rattle.script_lines.specs.Names.{place_of, task_names, ns_name, is_ns}
use Rattle.script_lines.proofs.Places.{none_any}
use Rattle.script_lines.specs.Word.{is_name, is_name_byte}
use Rattle.script_reader.specs.EventLine.{is_taken}
use Rattle.search_goals.specs.Writing.{IsNew, made_name}
use Rattle.search_goals.proofs.Decimals.{are_digits}

-- ---- it is a name

digit_named : (b : ℕ) → is_ascii_digit b ≡ true → is_name_byte b ≡ true
digit_named b h = or_left _ _ (or_right (is_ascii_lowercase b) (is_ascii_digit b) h)

digits_named : (w : List ℕ) → list_all is_ascii_digit w ≡ true → list_all is_name_byte w ≡ true
digits_named [] h = refl
digits_named (b ∷ w) h =
    let parts = and_parts (is_ascii_digit b) (list_all is_ascii_digit w) h in
    and_from _ _ (digit_named b parts.0) (digits_named w parts.1)

pub made_named : (k : ℕ) → k < 1000 → is_name (made_name k) ≡ true
unfolding is_name
made_named k few =
    let short : length (decimal k) ≤ 3 = length-decimal-le 3 k (omega arith) (omega (arith, few)) (omega (arith, few)) in
    and_from _ _ (and_from _ _ refl (le-leb (length (made_name k)) 15 (omega (arith, short))))
    (digits_named (decimal k) (are_digits k (omega (arith, few))))

-- ---- what is taken

some_any : (names : List (List ℕ)) (name : List ℕ) → is_some (place_of names name) ≡ true → list_any (bytes_eq name) names ≡ true
some_any names name e = by_place (place_of names name) refl e where
  by_place : (o : Option ℕ) → place_of names name ≡ o → is_some o ≡ true → list_any (bytes_eq name) names ≡ true
  by_place None at f = absurd (cc f)
  by_place (Some i) at f =
      let there = position-Some (λ known. bytes_eq name known) names i [] at in
      list_any_at (bytes_eq name) names i [] there.0 there.1

-- the name of a template is this one
abbrev pub has_name : List ℕ → TaskPlan → Bool
has_name name plan = bytes_eq name plan.name

any_named : (name : List ℕ) (templates : List TaskPlan) → list_any (has_name name) templates
    ≡ list_any (bytes_eq name) (task_names templates)
any_named name [] = refl
any_named name (t ∷ templates) = ap (λ (b : Bool). bytes_eq name t.name || b) (any_named name templates)

found_by : (names : List (List ℕ)) (name : List ℕ) (b : Bool) → is_some (place_of names name) ≡ b
    → list_any (bytes_eq name) names ≡ b
found_by names name true e = some_any names name e
found_by names name false e = none_any (bytes_eq name) names e

-- it is that of one where it is found
pub template_is : (name : List ℕ) (templates : List TaskPlan)
    → list_any (has_name name) templates ≡ is_some (place_of (task_names templates) name)
template_is name templates =
    any_named name templates ∙ found_by (task_names templates) name (is_some (place_of (task_names templates) name)) refl

-- all names that are taken
abbrev taken : (templates names : List (List ℕ)) → List (List ℕ)
taken templates names = names ++ (templates ++ ns_name ∷ [])

taken_listed : (templates names : List (List ℕ)) (name : List ℕ) → is_taken templates names name ≡ true
    → list_any (bytes_eq name) (taken templates names) ≡ true
unfolding is_taken
taken_listed templates names name h =
    let p : List ℕ → Bool = bytes_eq name in
    let all : list_any p (taken templates names) ≡ (list_any p names || (list_any p templates || list_any p (ns_name ∷ []))) =
    list_any-append p names (templates ++ ns_name ∷ [])
    ∙ ap (λ (b : Bool). list_any p names || b) (list_any-append p templates (ns_name ∷ [])) in
    all ∙ elim (or_cases (is_some (place_of names name) || is_some (place_of templates name)) (is_ns name) h) [
      | inl tasks ↦ elim (or_cases (is_some (place_of names name)) (is_some (place_of templates name)) tasks) [
        | inl known ↦ or_left _ _ (some_any names name known)
        | inr template ↦ or_right (list_any p names) _ (or_left _ _ (some_any templates name template))
      ]
      | inr service ↦ or_right (list_any p names) _ (or_right (list_any p templates) _ (or_left _ _ service))
    ]

-- ---- each number has a name of its own

-- how far the number of a name, which is t and that number, is from the first
abbrev number_from : ℕ → List ℕ → ℕ
number_from start name = digits_value 10 (drop 1 name) - start

number_made : (start q : ℕ) → start + q < 2 ^ 64 → number_from start (made_name (start + q)) ≡ q
number_made start q fits =
    ap (λ (n : ℕ). n - start) (decimal_is_IsNumeral (start + q) fits).1
    ∙ (let e : start + q - start ≡ q = omega arith in e)

number_listed : (start q : ℕ) (name : List ℕ) (xs : List (List ℕ)) → number_from start name ≡ q
    → list_any (bytes_eq name) xs ≡ true → list_any (eqb q) (map (number_from start) xs) ≡ true
number_listed start q name [] is h = absurd (cc h)
number_listed start q name (x ∷ xs) is h =
    elim (or_cases (bytes_eq name x) (list_any (bytes_eq name) xs) h) [
      | inl same ↦ or_left _ _ (eq-eqb q (number_from start x)
          (sym is ∙ ap (number_from start) ((bytes_eq-Decides name x).0 same)))
      | inr later ↦ or_right (eqb q (number_from start x)) _ (number_listed start q name xs is later)
    ]

-- so many numbers from one on have names that are taken: no more than there are names
pub few_taken : (templates names : List (List ℕ)) (start n : ℕ) → start + n < 2 ^ 64
    → ((k : ℕ) → start ≤ k → k < start + n → is_taken templates names (made_name k) ≡ true)
    → n ≤ length names + (length templates + 1)
few_taken templates names start n fits are =
    let all : List (List ℕ) = taken templates names in
    let listed : (q : ℕ) → q < n → list_any (eqb q) (map (number_from start) all) ≡ true =
    λ q l.
    number_listed start q (made_name (start + q)) all (number_made start q (omega (arith, l, fits)))
    (taken_listed templates names (made_name (start + q)) (are (start + q) (omega arith) (omega (arith, l)))) in
    let least = le-length_from_below (map (number_from start) all) n listed in
    let long = length-map all (number_from start) in
    let a = length-append names (templates ++ ns_name ∷ []) in
    let b = length-append templates (ns_name ∷ []) in
    omega (arith, least, long, a, b)

-- one number more
pub one_more_taken : (templates names : List (List ℕ)) (start number : ℕ)
    → ((k : ℕ) → start ≤ k → k < number → is_taken templates names (made_name k) ≡ true)
    → is_taken templates names (made_name number) ≡ true
    → (k : ℕ) → start ≤ k → k < number + 1 → is_taken templates names (made_name k) ≡ true
one_more_taken templates names start number before here k lo hi = by_place (cases_lt k number) where
  by_place : (k < number) ⊎ (number ≤ k) → is_taken templates names (made_name k) ≡ true
  by_place (inl below) = before k lo below
  by_place (inr past) =
      let same : number ≡ k = omega (arith, past, hi) in
      subst (λ (m : ℕ). is_taken templates names (made_name m) ≡ true) same here

-- numbers from the next task's on, up to one: how many they are at most
pub few_tried : (templates names : List (List ℕ)) (number : ℕ) → length names ≤ 64 → length templates ≤ 64
    → length names + 1 ≤ number → number < 2 ^ 63
    → ((k : ℕ) → length names + 1 ≤ k → k < number → is_taken templates names (made_name k) ≡ true)
    → number ≤ 194
few_tried templates names number few also lo fits are =
    let start : ℕ = length names + 1 in
    let most =
    few_taken templates names start (number - start) (omega (arith, lo, fits))
    (λ (k : ℕ) (l : start ≤ k) (m : k < start + (number - start)). are k l (omega (arith, m, lo))) in
    omega (arith, most, few, also, lo)

pub is_new : (templates names : List (List ℕ)) (number : ℕ) (name : List ℕ) → name ≡ made_name number → number < 1000
    → is_taken templates names name ≡ false → IsNew templates names name
is_new templates names number name is few free =
    record { good = ap is_name is ∙ made_named number few; free = free }

-- it is the name of no task
pub new_unknown : (templates names : List (List ℕ)) (name : List ℕ) → IsNew templates names name
    → is_some (place_of names name) ≡ false
unfolding is_taken
new_unknown templates names name new =
    let outer = or_parts (is_some (place_of names name) || is_some (place_of templates name)) (is_ns name) new.free in
    (or_parts (is_some (place_of names name)) (is_some (place_of templates name)) outer.0).0
