-- The generated script is sound, and generated events are on its tasks.
use Rattle.std.proofs.Common.{◌≡◌, ◌≢◌, ℕ, zero, suc, ◌+◌, ◌-◌, ◌/◌, ◌%◌, ◌^◌, ◌<◌, ◌≤◌, List, [], ◌∷◌, ◌++◌, length, get_or, map, refl, sym, ap, ◌∙◌, arith, true, false, Some, zero-add, append_assoc, append-nil, subst}
use Rattle.script_lines.specs.declared.plan.TaskPlan.{TaskPlan}
use Rattle.std.specs.Prelude.{All, AllPairs, Bool, if◌then◌else◌, ◌==◌}
use Rattle.std.specs.Fmt.{decimal, digits}
use Rattle.std.specs.List.{flat_map, list_all}
use Rattle.std.proofs.lemmas.Fmt.{decimal_digit, decimal_injective, decimal_step}
use Rattle.std.proofs.lemmas.List.{flat_map_more}
use Rattle.std.proofs.lemmas.List.Elements.{All-append, All-cons, All-from_recursion, All-nil}
use Rattle.std.proofs.lemmas.List.FromFn.{get_or-map-range_with_len, get_or-range_with_len, length-map-range_with_len, map-range_with_len_more}
use Rattle.std.proofs.lemmas.List.Sums.{AllPass-from_list_all}
use Rattle.ipc_ids.specs.declared.message.Event.{Event}
use Rattle.ipc_ids.specs.declared.message.Event.TheVariants.{Step, Kill}
use Rattle.ipc_ids.specs.declared.numbers.TaskNo.{TaskNo}
use Rattle.ipc_ids.specs.declared.op.Op.{Op}
use Rattle.ipc_ids.specs.declared.op.Value.TheVariants.{Number}
use Rattle.ipc_ids.proofs.Common.{range_more}
use Rattle.script_lines.specs.declared.plan.Kind.TheVariants.{Naming}
use Rattle.script_lines.specs.declared.plan.Wire.{Wire}
use Rattle.script_lines.specs.Names.{ns_name}
use Rattle.script_lines.specs.Ranges.{IsInRange, IsRawOp}
use Rattle.script_reader.specs.Schedule.{IsOnTaskOf, task_of_event, MayAllCome}
use Rattle.script_reader.proofs.EventTasks.{all_may}
use Rattle.script_lines.specs.Sound.{IsRawBody, IsSoundTask, Leads, IsSound}
use Rattle.script_lines.specs.Word.{is_name, name_of}
use Rattle.schedule_replay.specs.Generator.{answer_one, below, call_over, event_of, generated_events, generated_name, generated_operations, generated_plan, generated_task, generated_wire, next_number, wires_of}

-- ---- a list made from its indices

made_at : {X : Type 0} (f : ℕ → X) (n i j : ℕ) (d : X) → i < n → i ≡ j → get_or (map f (below n)) i d ≡ f j
made_at f n i j d lt e = get_or-map-range_with_len f 0 n i j d lt (omega arith)

all_made : {X : Type 0} (P : X → Type 0) (f : ℕ → X) (n : ℕ) → ((i : ℕ) → i < n → P (f i)) → All P (map f (below n))
all_made P f n each i d lt =
    let in_range : i < n = omega (arith, length-map-range_with_len f 0 n) in
    rw (made_at f n i i d in_range refl) (each i in_range)

all_pairs_made : {X : Type 0} (R : X → X → Type 0) (f : ℕ → X) (n : ℕ) → ((i j : ℕ) → i < j → j < n → R (f i) (f j)) → AllPairs R (map f (below n))
all_pairs_made R f n each i j d lt few =
    let in_range : j < n = omega (arith, length-map-range_with_len f 0 n) in
    rw (made_at f n i i d (omega arith) refl, made_at f n j j d in_range refl) (each i j lt in_range)

pub made_more : {X : Type 0} (f : ℕ → X) (n : ℕ) → map f (below (n + 1)) ≡ map f (below n) ++ f n ∷ []
made_more f n = map-range_with_len_more f 0 n n (omega arith)

pub pieces_more : {X : Type 0} (f : ℕ → List X) (n : ℕ) → flat_map f (below (n + 1)) ≡ flat_map f (below n) ++ f n
pieces_more f n =
    let next : n + 1 ≡ suc n = omega arith in
    let last : 0 + n ≡ n = omega arith in
    let more : below (n + 1) ≡ below n ++ n ∷ [] = ap below next ∙ range_more 0 n ∙ ap (λ m. below n ++ m ∷ []) last in
    ap (flat_map f) more ∙ sym (flat_map_more f [] (below n) n)

pub joined_more : {X : Type 0} (before : List X) (f : ℕ → X) (n : ℕ) → before ++ map f (below (n + 1)) ≡ (before ++ map f (below n)) ++ f n ∷ []
joined_more before f n = ap (λ made. before ++ made) (made_more f n) ∙ sym (append_assoc before (map f (below n)) (f n ∷ []))

-- ---- the operations

pub four_more : (ops : List Op) (a b c d : Op) → (((ops ++ a ∷ []) ++ b ∷ []) ++ c ∷ []) ++ d ∷ [] ≡ ops ++ a ∷ b ∷ c ∷ d ∷ []
four_more ops a b c d = simp append_assoc

no_register : All IsInRange (Number 0 ∷ Number 0 ∷ Number 0 ∷ Number 0 ∷ Number 0 ∷ [])
no_register = All-from_recursion IsInRange (Number 0 ∷ Number 0 ∷ Number 0 ∷ Number 0 ∷ Number 0 ∷ []) (tt, (tt, (tt, (tt, (tt, tt)))))

raw_operations : All IsRawOp generated_operations
unfolding generated_operations
raw_operations =
    All-append IsRawOp (map call_over (below 15)) answer_one
    (all_made IsRawOp call_over 15 (λ p lt. (refl, (tt, tt, no_register))))
    (All-from_recursion IsRawOp answer_one ((refl, tt), ((refl, (omega arith, tt, no_register)), ((refl, tt), ((refl, omega arith), tt)))))

operations_few : length generated_operations ≤ 4096
unfolding generated_operations
operations_few = omega arith

raw_body : IsRawBody (record { connection = false; ops = generated_operations })
raw_body = record {
  no_connection = refl;
  few = operations_few;
  ranges = λ i d lt. (raw_operations i d lt).1;
  raw_ops = λ i d lt. (raw_operations i d lt).0;
}

-- ---- the names

names_differ : (i j : ℕ) → i < j → j < 16 → generated_name i ≢ generated_name j
unfolding generated_name
names_differ i j lt few same =
    let digits : decimal i ≡ decimal j = cc in
    let equal = decimal_injective i j (omega arith) (omega arith) digits in
    omega arith

not_ns : (k : ℕ) → generated_name k ≢ ns_name
unfolding generated_name
not_ns k same =
    let heads : get_or (generated_name k) 0 0 ≡ get_or ns_name 0 0 = ap (λ (name : List ℕ). get_or name 0 0) same in
    omega arith

all_are_names : list_all (λ k. is_name (generated_name k)) (below 16) ≡ true
unfolding is_name generated_name digits
all_are_names = refl

is_a_name : (k : ℕ) → k < 16 → is_name (generated_name k) ≡ true
is_a_name k lt =
    let at_k = AllPass-from_list_all (λ n. is_name (generated_name n)) (below 16) all_are_names k 0 lt in
    rw (get_or-range_with_len 0 16 k 0 lt, zero-add k) at at_k

name_of_a_name : (word : List ℕ) → is_name word ≡ true → name_of word ≡ Some word
unfolding name_of
name_of_a_name word is = rw is

one_digit : (k : ℕ) → k < 10 → 103 ∷ (48 + k % 10) ∷ [] ≡ generated_name k
unfolding generated_name
one_digit k lt = let e : k % 10 ≡ k = omega arith in rw (e, decimal_digit k lt)

two_digits : (k : ℕ) → 10 ≤ k → k < 16 → 103 ∷ 49 ∷ (48 + k % 10) ∷ [] ≡ generated_name k
unfolding generated_name
two_digits k ten lt =
    let e : k / 10 ≡ 1 = omega arith in
    rw (decimal_step k ten (omega arith), e, decimal_digit 1 (omega arith))

pub short_name : (k : ℕ) → k < 10 → name_of (103 ∷ (48 + k % 10) ∷ []) ≡ Some (generated_name k)
short_name k lt = rw (one_digit k lt) (name_of_a_name (generated_name k) (is_a_name k (omega arith)))

pub long_name : (k : ℕ) → 10 ≤ k → k < 16 → name_of (103 ∷ 49 ∷ (48 + k % 10) ∷ []) ≡ Some (generated_name k)
long_name k ten lt = rw (two_digits k ten lt) (name_of_a_name (generated_name k) (is_a_name k lt))

-- ---- the tasks

sound_task : (k : ℕ) → IsSoundTask (generated_task k)
sound_task k = record {
  some_phones = omega arith;
  few_phones = omega arith;
  of_kind = record {
    not_ns = not_ns k;
    some_phones = omega arith;
    few_phones = omega arith;
    one_body = refl;
    raw_bodies = All-cons IsRawBody _ [] raw_body (All-nil IsRawBody);
  };
}

-- ---- the wires

-- the wire at a place of the list
abbrev wire_at : ℕ → Wire
wire_at i = generated_wire (i / 15) (i % 15)

pub wires_by_task : generated_plan.wires ≡ flat_map wires_of (below 16)
unfolding generated_plan
wires_by_task = refl

wires_are : generated_plan.wires ≡ map wire_at (below 240)
unfolding generated_plan
wires_are = refl

templates_are : generated_plan.templates ≡ []
unfolding generated_plan
templates_are = refl

pub tasks_are : generated_plan.tasks ≡ map generated_task (below 16)
unfolding generated_plan
tasks_are = refl

wire_leads : (i : ℕ) → i < 240 → Leads (map generated_task (below 16)) (wire_at i)
wire_leads i lt = record {
  from_task = (omega arith, omega arith);
  to_task = (omega arith, omega arith);
  in_range = λ d. rw (made_at generated_task 16 (i / 15 + 1 - 1) (i / 15) d (omega arith) (omega arith)) (omega arith);
}

phones_differ : (i j : ℕ) → i < j → (wire_at i).from ≡ (wire_at j).from → (wire_at i).phone ≢ (wire_at j).phone
phones_differ i j lt from phone =
    let froms : i / 15 + 1 ≡ j / 15 + 1 = ap (λ t. t.0) from in
    let phones : i % 15 ≡ j % 15 = ap (λ t. t.0) phone in
    omega arith

pub generated_is_sound : IsSound generated_plan
generated_is_sound = record {
  few = rw (tasks_are, length-map-range_with_len generated_task 0 16) (omega arith);
  names_differ = rw tasks_are (all_pairs_made (λ a b. a.name ≢ b.name) generated_task 16 names_differ);
  sound_tasks = rw tasks_are (all_made IsSoundTask generated_task 16 (λ k lt. sound_task k));
  service_is_first = rw tasks_are (all_pairs_made (λ a b. b.kind ≢ Naming) generated_task 16 (λ i j lt few same. cc));
  wires_lead = rw (tasks_are, wires_are) (all_made (Leads (map generated_task (below 16))) wire_at 240 wire_leads);
  phones_differ = rw wires_are (all_pairs_made (λ a b. a.from ≡ b.from → a.phone ≢ b.phone) wire_at 240 (λ i j lt few. phones_differ i j lt));
  beside_service = rw tasks_are (λ i d lt has. absurd cc);
  few_templates = rw templates_are (omega arith);
  template_names_differ = rw templates_are (λ i j d lt below. absurd (omega arith));
  templates_apart = rw templates_are (λ k d lt. absurd (omega arith));
  sound_templates = rw templates_are (λ k d lt. absurd (omega arith));
  raw_or_async = rw templates_are (λ k d lt. absurd (omega arith));
}

-- the plan of these parts
pub plan_is : (tasks : List TaskPlan) (wires : List Wire) (templates : List TaskPlan) → tasks ≡ generated_plan.tasks → wires ≡ generated_plan.wires → templates ≡ [] → record { tasks = tasks; wires = wires; templates = templates } ≡ generated_plan
unfolding generated_plan
plan_is tasks wires templates a b c = rw (a, b, c) refl

pub parts_are_sound : (tasks : List TaskPlan) (wires : List Wire) (templates : List TaskPlan) → tasks ≡ generated_plan.tasks → wires ≡ generated_plan.wires → templates ≡ [] → IsSound (record { tasks = tasks; wires = wires; templates = templates })
parts_are_sound tasks wires templates a b c = subst IsSound (sym (plan_is tasks wires templates a b c)) generated_is_sound

-- ---- the events

task_of_either : (killed : Bool) (task : TaskNo) → task_of_event (if killed then Kill task else Step task) ≡ task
task_of_either true task = refl
task_of_either false task = refl

task_of_number : (x : ℕ) → (task_of_event (event_of x)).0 ≡ x / 2 ^ 60 + 1
unfolding event_of
task_of_number x = ap (λ (t : TaskNo). t.0) (task_of_either ((x / 2 ^ 48) % 4096 == 0) (record { 0 = x / 2 ^ 60 + 1 }))

event_on_task : (x : ℕ) → x < 2 ^ 64 → IsOnTaskOf generated_plan (event_of x)
event_on_task x lt =
    let task = task_of_number x in
    let few : length generated_plan.tasks ≡ 16 = ap length tasks_are ∙ length-map-range_with_len generated_task 0 16 in
    (omega arith, omega arith)

number_fits : (x : ℕ) → next_number x < 2 ^ 64
unfolding next_number
number_fits x = omega arith

pub generated_on_tasks : (x count : ℕ) → All (IsOnTaskOf generated_plan) (generated_events x count)
generated_on_tasks x zero = All-nil (IsOnTaskOf generated_plan)
generated_on_tasks x (suc count) =
    All-cons (IsOnTaskOf generated_plan) (event_of (next_number x)) (generated_events (next_number x) count)
    (event_on_task (next_number x) (number_fits x)) (generated_on_tasks (next_number x) count)

pub generated_may : (x count : ℕ) → MayAllCome (length generated_plan.tasks) (length generated_plan.templates) (generated_events x count)
generated_may x count = all_may (length generated_plan.tasks) (length generated_plan.templates) (generated_events x count) (generated_on_tasks x count)

pub generated_events_count : (x count : ℕ) → length (generated_events x count) ≡ count
generated_events_count x zero = refl
generated_events_count x (suc count) = ap suc (generated_events_count (next_number x) count)

pub next_generated : (x count : ℕ) → generated_events x (count + 1) ≡ event_of (next_number x) ∷ generated_events (next_number x) count
next_generated x count = let next : count + 1 ≡ suc count = omega arith in ap (generated_events x) next

pub one_event_more : (made all : List Event) (x count done : ℕ) → done < count → made ++ generated_events x (count - done) ≡ all
    → (made ++ event_of (next_number x) ∷ []) ++ generated_events (next_number x) (count - (done + 1)) ≡ all
one_event_more made all x count done lt whole =
    let e : count - done ≡ suc (count - (done + 1)) = omega arith in
    rw append_assoc (rw e at whole)

pub all_events_made : (made all : List Event) (x count done : ℕ) → count ≤ done → made ++ generated_events x (count - done) ≡ all → made ≡ all
all_events_made made all x count done le whole =
    let e : count - done ≡ zero = omega arith in
    sym (append-nil made) ∙ (rw e at whole)
