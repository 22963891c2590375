-- Names of tasks: they are words, and each is found at the place of its task.
use Rattle.std.proofs.Common.{◌≡◌, ℕ, ◌+◌, ◌<◌, ◌≤◌, true, false, List, [], ◌∷◌, ◌++◌, length, take, get_or, Some, refl, sym, ap, subst, ◌∙◌, inl, inr, arith, lt-ltb, le-ltb, length-append}
use Rattle.std.specs.Prelude.{◌||◌, ◌==◌, ◌≢◌, slice_index, is_some}
use Rattle.std.specs.Char.{is_ascii_digit, is_ascii_lowercase}
use Rattle.std.specs.List.{AllPairs, list_all, list_any, position_or_len}
use Rattle.std.specs.Str.{bytes_eq}
use Rattle.std.specs.Global.{Vec}
use Rattle.std.proofs.lemmas.Bool.{and_parts, and_from, or_cases, leb-true, eqb-true, false_from_ne_true, both_ways}
use Rattle.std.proofs.lemmas.List.{length-map, length-take-le, get_or-map, get_or-take, take-map}
use Rattle.std.proofs.lemmas.List.Elements.{All-push, All-map}
use Rattle.std.proofs.lemmas.List.Folds.{list_any_at}
use Rattle.std.proofs.lemmas.List.Quantifiers.{all_pairs_push}
use Rattle.std.proofs.lemmas.List.Sums.{position_or_len_is}
use Rattle.std.proofs.lemmas.Slice.Eq.{bytes_eq-Decides}
use Rattle.script_reader.proofs.StepLines.{lower_goes}
use Rattle.ipc_ids.specs.declared.numbers.TaskNo.{TaskNo}
use Rattle.script_lines.specs.declared.plan.TaskPlan.{TaskPlan}
use Rattle.script_lines.specs.Draft.{service}
use Rattle.script_lines.specs.Names.{task_names, place_of, task_named}
use Rattle.script_lines.specs.Sound.{NamesDiffer}
use Rattle.script_lines.specs.Text.{ends_word}
use Rattle.script_lines.specs.Word.{is_name, is_name_byte}
use Rattle.script_lines.proofs.Places.{none_any}
use Rattle.search_goals.specs.Goals.{listed}
use Rattle.search_goals.specs.Writing.{AreNamed, AreNames, IsNameOf}
use Rattle.search_goals.proofs.Spaced.{goes, IsWord}
use Rattle.search_goals.proofs.Decimals.{going, digit_goes}

-- ---- a name is a word

name_goes : (b : ℕ) → is_name_byte b ≡ true → ends_word b ≡ false
name_goes b h = elim (or_cases (is_ascii_lowercase b || is_ascii_digit b) (b == 95) h) [
  | inl known ↦ elim (or_cases (is_ascii_lowercase b) (is_ascii_digit b) known) [
    | inl lower ↦ lower_goes b lower
    | inr digit ↦ digit_goes b digit
  ]
  | inr line ↦ rw (eqb-true b 95 line) refl
]

names_go : (w : List ℕ) → list_all is_name_byte w ≡ true → list_all goes w ≡ true
names_go [] h = refl
names_go (b ∷ w) h =
    let parts = and_parts (is_name_byte b) (list_all is_name_byte w) h in
    and_from _ _ (going b (name_goes b parts.0)) (names_go w parts.1)

some : (w : List ℕ) → is_ascii_lowercase (slice_index w 0) ≡ true → 1 ≤ length w
some [] h = absurd cc
some (b ∷ w) h = omega arith

pub name_word : (w : List ℕ) → is_name w ≡ true → IsWord w × (length w ≤ 15)
unfolding is_name
name_word w h =
    let outer = and_parts _ (list_all is_name_byte w) h in
    let inner = and_parts (is_ascii_lowercase (slice_index w 0)) _ outer.0 in
    ((some w inner.0, names_go w outer.1), leb-true (length w) 15 inner.1)

-- ---- a name is found

-- of names of which no two are the same
abbrev pub Differ : List (List ℕ) → Type 0
Differ names = AllPairs (λ a b. a ≢ b) names

module _ (names : List (List ℕ)) (i : ℕ) (name : List ℕ) (differ : Differ names) (lt : i < length names)
    (is : name ≡ get_or names i []) where
  before : (k : ℕ) → k < i → bytes_eq name (get_or names k []) ≡ false
  before k below =
      false_from_ne_true _ (λ same. differ k i [] below lt (sym ((bytes_eq-Decides name (get_or names k [])).0 same) ∙ is))

  place : position_or_len (bytes_eq name) names ≡ i
  place =
      position_or_len_is (bytes_eq name) names i [] (omega (arith, lt)) before
      (λ _. (bytes_eq-Decides name (get_or names i [])).1 is)

  pub place_at : place_of names name ≡ Some i
  place_at = rw place (rw (lt-ltb i (length names) lt) refl)

  pub named_at : (task : TaskNo) → task.0 ≡ i + 1 → task_named names name ≡ Some task
  unfolding task_named
  named_at task number =
      rw place (rw (lt-ltb i (length names) lt) (ap (λ (n : ℕ). Some (record { 0 = n })) (sym number)))

-- it is not found before its place
pub new_at : (names : List (List ℕ)) (i : ℕ) → Differ names → i < length names
    → is_some (place_of (take i names) (get_or names i [])) ≡ false
new_at names i differ lt =
    let front : List (List ℕ) = take i names in
    let name : List ℕ = get_or names i [] in
    let len = length-take-le i names (omega (arith, lt)) in
    let fails : (k : ℕ) → k < length front → bytes_eq name (get_or front k []) ≡ false =
    λ k below.
    rw (get_or-take i names k [] (omega (arith, len, below)))
    (false_from_ne_true _ (λ same. differ k i [] (omega (arith, len, below)) lt (sym ((bytes_eq-Decides name (get_or names k [])).0 same)))) in
    let place : position_or_len (bytes_eq name) front ≡ length front =
    position_or_len_is (bytes_eq name) front (length front) [] (omega arith) fails (λ past. absurd (omega (arith, past))) in
    rw place (rw (le-ltb (length front) (length front) (omega arith)) refl)

pub new_listed : (known : List (Vec ℕ)) (i : ℕ) (word : Vec ℕ) → AreNames (listed known) → i < length known
    → word ≡ get_or known i word → is_some (place_of (listed (take i known)) word.items) ≡ false
new_listed known i word are lt is =
    let bytes : Vec ℕ → List ℕ = λ (w : Vec ℕ). w.items in
    let long = length-map known bytes in
    let name : get_or (listed known) i [] ≡ word.items = get_or-map bytes known i word [] lt ∙ ap bytes (sym is) in
    let front : take i (listed known) ≡ listed (take i known) = take-map bytes i known in
    subst (λ (ns : List (List ℕ)). is_some (place_of ns word.items) ≡ false) front
    (subst (λ (n : List ℕ). is_some (place_of (take i (listed known)) n) ≡ false) name
    (new_at (listed known) i are.differ (omega (arith, long, lt))))

pub named_listed : (known : List (Vec ℕ)) (i : ℕ) (word : Vec ℕ) (task : TaskNo) → AreNames (listed known) → i < length known
    → word ≡ get_or known i word → task.0 ≡ i + 1 → IsNameOf (listed known) task word.items
named_listed known i word task are lt is number =
    let bytes : Vec ℕ → List ℕ = λ (w : Vec ℕ). w.items in
    let long = length-map known bytes in
    let within : i < length (listed known) = omega (arith, long, lt) in
    let name : word.items ≡ get_or (listed known) i [] = ap bytes is ∙ sym (get_or-map bytes known i word [] lt) in
    (ap is_name name ∙ are.good i [] within, named_at (listed known) i word.items are.differ within name task number)

-- the names before one are not too many
pub room_at : (known : List (Vec ℕ)) (i : ℕ) → AreNames (listed known) → i < length known
    → length (listed (take i known)) < 64
room_at known i are lt =
    let bytes : Vec ℕ → List ℕ = λ (w : Vec ℕ). w.items in
    let all = length-map known bytes in
    let some = length-map (take i known) bytes in
    let len = length-take-le i known (omega (arith, lt)) in
    let few = are.few in
    omega (arith, all, some, len, few, lt)

-- ---- all names

-- what is not found is none of the names
not_there : (names : List (List ℕ)) (name : List ℕ) → is_some (place_of names name) ≡ false → (k : ℕ) (d : List ℕ)
    → k < length names → get_or names k d ≡ name → ⊥
not_there names name none k d lt same =
    both_ways (list_any (bytes_eq name) names) (none_any (bytes_eq name) names none)
    (list_any_at (bytes_eq name) names k d lt ((bytes_eq-Decides name (get_or names k d)).1 (sym same)))

pub one_more_name : (names : List (List ℕ)) (name : List ℕ) → AreNames names → is_name name ≡ true
    → is_some (place_of names name) ≡ false → length names < 64 → AreNames (names ++ name ∷ [])
one_more_name names name are good none room =
    let all = length-append names (name ∷ []) in
    record {
      good = All-push (λ (n : List ℕ). is_name n ≡ true) names name are.good good;
      differ = all_pairs_push (λ a b. a ≢ b) names name are.differ (not_there names name none);
      few = omega (arith, all, room);
    }

-- those of the tasks of a script
names_differ : (tasks : List TaskPlan) → NamesDiffer tasks → Differ (task_names tasks)
names_differ tasks differ i j d below within same =
    let name : TaskPlan → List ℕ = λ (t : TaskPlan). t.name in
    let long = length-map tasks name in
    differ i j service below (omega (arith, long, within))
    (sym (get_or-map name tasks i service d (omega (arith, long, within, below))) ∙ same
    ∙ get_or-map name tasks j service d (omega (arith, long, within)))

pub are_names : (tasks : List TaskPlan) → AreNamed tasks → NamesDiffer tasks → length tasks ≤ 64 → AreNames (task_names tasks)
are_names tasks named differ few =
    let long = length-map tasks (λ (t : TaskPlan). t.name) in
    record {
      good = All-map (λ (n : List ℕ). is_name n ≡ true) (λ (t : TaskPlan). t.name) tasks named;
      differ = names_differ tasks differ;
      few = omega (arith, long, few);
    }

-- ---- the name of a template

pub template_named : (templates : List TaskPlan) (place : ℕ) (t : TaskPlan) → AreNamed templates → place < length templates
    → t ≡ get_or templates place t → is_name t.name ≡ true
template_named templates place t named lt is = ap (λ (u : TaskPlan). is_name u.name) is ∙ named place t lt

pub template_at : (templates : List TaskPlan) (place : ℕ) (t : TaskPlan) → NamesDiffer templates → place < length templates
    → t ≡ get_or templates place t → place_of (task_names templates) t.name ≡ Some place
template_at templates place t differ lt is =
    let name : TaskPlan → List ℕ = λ (u : TaskPlan). u.name in
    let long = length-map templates name in
    place_at (task_names templates) place t.name (names_differ templates differ) (omega (arith, long, lt))
    (ap name is ∙ sym (get_or-map name templates place t [] lt))
