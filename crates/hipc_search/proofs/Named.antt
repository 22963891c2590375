-- Each task and each template of a script that bytes spell has a name as lines have them.
use Rattle.std.proofs.Common.{◌≡◌, ℕ, ◌+◌, Bool, true, false, cond, List, [], ◌∷◌, ◌++◌, length, Option, Some, None, Result, Ok, Err, refl, sym, ap, subst, ◌∙◌}
use Rattle.std.specs.Prelude.{is_some, nat_lt, nat_le, ◌||◌}
use Rattle.std.specs.List.{AllByRecursion, list_all}
use Rattle.std.specs.Option.{ok_or}
use Rattle.std.proofs.lemmas.List.Elements.{All-from_recursion}
use Rattle.ipc_ids.specs.Tables.{most_bytes, most_tasks}
use Rattle.ipc_ids.specs.declared.op.Op.{Op}
use Rattle.script_lines.specs.declared.draft.TaskHead.{TaskHead}
use Rattle.script_lines.specs.declared.fault.Reason.{Reason}
use Rattle.script_lines.specs.declared.fault.Reason.TheVariants.{TooLong, NameTaken, TooMany, BadPhone, UnknownName}
use Rattle.script_lines.specs.declared.plan.Kind.{Kind}
use Rattle.script_lines.specs.declared.plan.TaskPlan.{TaskPlan}
use Rattle.script_lines.specs.declared.word.OpVerb.{OpVerb}
use Rattle.script_lines.specs.declared.word.Verb.{Verb}
use Rattle.script_lines.specs.declared.word.Verb.TheVariants as verbs
use Rattle.script_lines.specs.Draft.{service, stands_first, with_service, new_task, with_task, with_new, with_wire, present, on_last, body_with_op, task_with_op, takes_bodies, is_full, task_with_body, with_body, with_op}
use Rattle.script_lines.specs.Line.{kind_of, counted_kind_of, service_kind_of, number_up_to, most_behind, head, plain_task, counted_task, service_task, task_of, template_of, wire_of, ns, task, template, body, wire, operation, body_of_last, operation_of_last, after_verb, after_words, after_line}
use Rattle.script_lines.specs.Names.{task_names, place_of, is_ns}
use Rattle.script_lines.specs.Operation.{needed, op_in}
use Rattle.script_lines.specs.Plan.{Plan}
use Rattle.script_lines.specs.ScriptParts.{ScriptParts, no_parts, script_of_parts, with_tasks, with_templates, with_wires, part, with_part}
use Rattle.script_lines.specs.Text.{is_allowed, lines, words}
use Rattle.script_lines.specs.Word.{verb_of, number, is_name, name_of}
use Rattle.script_lines.proofs.Faultless.{given, then_ok, chosen_ok}
use Rattle.script_lines.proofs.Parts.{alone_ok}
use Rattle.script_lines.proofs.Soundness.{made_is}
use Rattle.script_reader.specs.Reading.{lines_from, reading, plan_from_parts, script_of}
use Rattle.script_reader.proofs.Faults.{head_name}
use Rattle.search_goals.specs.Writing as writing
use Rattle.hipc_search.proofs.ListWords.{line_ok}

abbrev IsNamed : TaskPlan → Type 0
IsNamed t = is_name t.name ≡ true

abbrev Named : List TaskPlan → Type 0
Named tasks = AllByRecursion IsNamed tasks

one_more : (tasks : List TaskPlan) (t : TaskPlan) → Named tasks → IsNamed t → Named (tasks ++ t ∷ [])
one_more [] t h k = (k, tt)
one_more (u ∷ tasks) t h k = (h.0, one_more tasks t h.1 k)

-- ---- the line of a task

pub name_is : (word name : List ℕ) → needed (name_of word) ≡ Ok name → is_name name ≡ true
unfolding name_of
name_is word name e = by_test (is_name word) refl e where
  by_test : (b : Bool) → is_name word ≡ b → needed (cond b (Some word) None) ≡ Ok name → is_name name ≡ true
  by_test true t e = ap is_name (sym (made_is word name e)) ∙ t
  by_test false t e = absurd cc

abbrev HasName : TaskHead → Type 0
HasName h = is_name h.name ≡ true

made_head : (name : List ℕ) (kind : Kind) (count : ℕ) (other : Option ℕ) (h : TaskHead) → is_name name ≡ true
    → given (head name kind count other) ≡ given h → HasName h
made_head name kind count other h good e =
    ap is_name (ap (λ (k : TaskHead). k.name) (sym (made_is (head name kind count other) h e)) ∙ head_name name kind count other)
    ∙ good

plain_named : (name kind : List ℕ) (h : TaskHead) → plain_task name kind ≡ Ok h → HasName h
unfolding plain_task
plain_named name kind h e =
    let named = then_ok (needed (name_of name)) _ h e in
    let kinded = then_ok (needed (kind_of kind)) _ h named.2 in
    made_head named.0 kinded.0 64 None h (name_is name named.0 named.1) kinded.2

counted_named : (name : List ℕ) (found : Option Kind) (count : List ℕ) (h : TaskHead) → counted_task name found count ≡ Ok h → HasName h
unfolding counted_task
counted_named name found count h e =
    let named = then_ok (needed (name_of name)) _ h e in
    let kinded = then_ok (needed found) _ h named.2 in
    let counted = then_ok (needed (number_up_to (most_behind kinded.0) count)) _ h kinded.2 in
    made_head named.0 kinded.0 counted.0 None h (name_is name named.0 named.1) counted.2

service_named : (name kind count other : List ℕ) (h : TaskHead) → service_task name kind count other ≡ Ok h → HasName h
unfolding service_task
service_named name kind count other h e =
    let named = then_ok (needed (name_of name)) _ h e in
    let kinded = then_ok (needed (service_kind_of kind)) _ h named.2 in
    let counted = then_ok (needed (number_up_to (most_behind kinded.0) count)) _ h kinded.2 in
    let numbered = then_ok (needed (number other)) _ h counted.2 in
    made_head named.0 kinded.0 counted.0 (Some numbered.0) h (name_is name named.0 named.1) numbered.2

task_named : (ws : List (List ℕ)) (h : TaskHead) → task_of ws ≡ Ok h → HasName h
unfolding task_of
task_named (name ∷ kind ∷ []) h e = plain_named name kind h e
task_named (name ∷ kind ∷ count ∷ []) h e = counted_named name (counted_kind_of kind) count h e
task_named (name ∷ kind ∷ count ∷ other ∷ []) h e = service_named name kind count other h e
task_named _ h e = absurd cc

template_named : (ws : List (List ℕ)) (h : TaskHead) → template_of ws ≡ Ok h → HasName h
unfolding template_of
template_named (name ∷ kind ∷ []) h e = plain_named name kind h e
template_named (name ∷ kind ∷ count ∷ []) h e = counted_named name (kind_of kind) count h e
template_named _ h e = absurd cc

-- what a test passed
passed : {A : Type 0} (b : Bool) (reason : Reason) (r : Result A Reason) (y : A) → cond b (Err reason) r ≡ Ok y → r ≡ Ok y
passed true reason r y e = absurd cc
passed false reason r y e = e

new_named : (others : List (List ℕ)) (plan new : Plan) (h : TaskHead) → Named plan.tasks → HasName h
    → with_new others plan h ≡ Ok new → Named new.tasks
unfolding with_new with_task
new_named others plan new h named good e =
    let first = passed (is_some (place_of others h.name)) NameTaken _ new e in
    let second = passed (is_ns h.name || is_some (place_of (task_names plan.tasks) h.name)) NameTaken _ new first in
    let third = passed (nat_le most_tasks (length plan.tasks)) TooMany _ new second in
    subst (λ (p : Plan). Named p.tasks) (made_is _ new third)
    (one_more plan.tasks (new_task h) named good)

-- ---- a change of the last task

abbrev KeepsNames : (TaskPlan → Result TaskPlan Reason) → Type 0
KeepsNames change = (t u : TaskPlan) → change t ≡ Ok u → u.name ≡ t.name

last_named : (change : TaskPlan → Result TaskPlan Reason) → KeepsNames change → (tasks new : List TaskPlan) → Named tasks
    → on_last change tasks ≡ Ok new → Named new
last_named change keeps [] new named e = absurd cc
last_named change keeps (t ∷ []) new named e =
    let made = then_ok (change t) _ new e in
    subst Named (made_is (made.0 ∷ []) new made.2) (ap is_name (keeps t made.0 made.1) ∙ named.0, tt)
last_named change keeps (t ∷ next ∷ others) new named e =
    let made = then_ok (on_last change (next ∷ others)) _ new e in
    subst Named (made_is (t ∷ made.0) new made.2) (named.0, last_named change keeps (next ∷ others) made.0 named.1 made.1)

op_keeps : (op : Op) → KeepsNames (task_with_op op)
op_keeps op t u e =
    let made = then_ok (on_last (body_with_op op) t.bodies) _ u e in
    ap (λ (k : TaskPlan). k.name) (sym (made_is _ u made.2))

body_keeps : (connection : Bool) → KeepsNames (task_with_body connection)
unfolding task_with_body
body_keeps connection t u e =
    ap (λ (k : TaskPlan). k.name) (sym (made_is _ u (passed (is_full connection t.bodies) TooMany _ u e)))

with_op_named : (plan new : Plan) (op : Op) → Named plan.tasks → with_op plan op ≡ Ok new → Named new.tasks
unfolding with_op
with_op_named plan new op named e =
    let made = then_ok (on_last (task_with_op op) plan.tasks) _ new e in
    subst (λ (p : Plan). Named p.tasks) (made_is _ new made.2)
    (last_named (task_with_op op) (op_keeps op) plan.tasks made.0 named made.1)

with_body_named : (plan new : Plan) (connection : Bool) → Named plan.tasks → with_body plan connection ≡ Ok new → Named new.tasks
unfolding with_body
with_body_named plan new connection named e =
    let made = then_ok (on_last (task_with_body connection) plan.tasks) _ new e in
    subst (λ (p : Plan). Named p.tasks) (made_is _ new made.2)
    (last_named (task_with_body connection) (body_keeps connection) plan.tasks made.0 named made.1)

-- ---- a line

body_named : (plan new : Plan) (connection : Bool) (ws : List (List ℕ)) → Named plan.tasks → body plan connection ws ≡ Ok new
    → Named new.tasks
unfolding body
body_named plan new connection ws named e =
    with_body_named plan new connection named (alone_ok (takes_bodies plan) ws (with_body plan connection) new e)

operation_named : (plan new : Plan) (verb : OpVerb) (ws : List (List ℕ)) → Named plan.tasks → operation plan verb ws ≡ Ok new
    → Named new.tasks
unfolding operation
operation_named plan new verb ws named e =
    let made = then_ok (op_in (present plan) verb ws) (with_op plan) new e in
    with_op_named plan new made.0 named made.2

wire_named : (plan new : Plan) (ws : List (List ℕ)) → Named plan.tasks → wire plan ws ≡ Ok new → Named new.tasks
unfolding wire with_wire
wire_named plan new ws named e =
    let said = then_ok (wire_of ws) _ new e in
    let from = then_ok (ok_or (place_of (task_names plan.tasks) said.0.0) UnknownName) _ new said.2 in
    let to = then_ok (ok_or (place_of (task_names plan.tasks) said.0.2) UnknownName) _ new from.2 in
    let made = passed _ BadPhone _ new to.2 in
    subst (λ (p : Plan). Named p.tasks) (made_is _ new made) named

service_named_ns : IsNamed service
unfolding is_name
service_named_ns = refl

ns_named : (w : ScriptParts) (new : Plan) (ws : List (List ℕ)) → Named w.tasks.tasks → ns w ws ≡ Ok new → Named new.tasks
unfolding ns with_service
ns_named w new ws named e =
    let made = alone_ok (stands_first (script_of_parts w)) ws (Ok (with_service w.tasks)) new e in
    subst (λ (p : Plan). Named p.tasks) (made_is (with_service w.tasks) new made) (one_more w.tasks.tasks service named service_named_ns)

-- both parts
record PartsNamed (w : ScriptParts) : Type 0 where
  tasks : Named w.tasks.tasks
  templates : Named w.templates.tasks

part_named : (w : ScriptParts) → PartsNamed w → Named (part w).tasks
part_named w named = by_part w.on_template where
  by_part : (b : Bool) → Named (cond b w.templates w.tasks).tasks
  by_part true = named.templates
  by_part false = named.tasks

with_part_named : (w : ScriptParts) (plan : Plan) → PartsNamed w → Named plan.tasks → PartsNamed (with_part w plan)
with_part_named w plan named new = by_part w.on_template where
  by_part : (b : Bool) → PartsNamed (cond b (with_templates w plan) (with_tasks w plan))
  by_part true = record { tasks = named.tasks; templates = new }
  by_part false = record { tasks = new; templates = named.templates }

module _ (w : ScriptParts) (named : PartsNamed w) where
  body_last : (connection : Bool) (ws : List (List ℕ)) (v : ScriptParts) → body_of_last w connection ws ≡ Ok v → PartsNamed v
  body_last connection ws v e =
      let made = then_ok (body (part w) connection ws) _ v e in
      subst PartsNamed (made_is (with_part w made.0) v made.2)
      (with_part_named w made.0 named (body_named (part w) made.0 connection ws (part_named w named) made.1))

  operation_last : (verb : OpVerb) (ws : List (List ℕ)) (v : ScriptParts) → operation_of_last w verb ws ≡ Ok v → PartsNamed v
  operation_last verb ws v e =
      let made = then_ok (operation (part w) verb ws) _ v e in
      subst PartsNamed (made_is (with_part w made.0) v made.2)
      (with_part_named w made.0 named (operation_named (part w) made.0 verb ws (part_named w named) made.1))

  task_line : (ws : List (List ℕ)) (new : Plan) → task (task_names w.templates.tasks) w.tasks ws ≡ Ok new → Named new.tasks
  unfolding task
  task_line ws new e =
      let made = then_ok (task_of ws) (with_new (task_names w.templates.tasks) w.tasks) new e in
      new_named (task_names w.templates.tasks) w.tasks new made.0 named.tasks (task_named ws made.0 made.1) made.2

  template_line : (ws : List (List ℕ)) (new : Plan) → template (task_names w.tasks.tasks) w.templates ws ≡ Ok new → Named new.tasks
  unfolding template
  template_line ws new e =
      let made = then_ok (template_of ws) (with_new (task_names w.tasks.tasks) w.templates) new e in
      new_named (task_names w.tasks.tasks) w.templates new made.0 named.templates (template_named ws made.0 made.1) made.2

  verb_named : (verb : Option Verb) (ws : List (List ℕ)) (v : ScriptParts) → after_verb w verb ws ≡ Ok v → PartsNamed v
  verb_named None ws v e = absurd cc
  verb_named (Some verbs.Ns) ws v e =
      let made = then_ok (ns w ws) _ v e in
      subst PartsNamed (made_is (with_tasks w made.0) v made.2)
      (record { tasks = ns_named w made.0 ws named.tasks made.1; templates = named.templates })
  verb_named (Some verbs.Task) ws v e =
      let made = then_ok (task (task_names w.templates.tasks) w.tasks ws) _ v e in
      subst PartsNamed (made_is (with_tasks w made.0) v made.2)
      (record { tasks = task_line ws made.0 made.1; templates = named.templates })
  verb_named (Some verbs.Template) ws v e =
      let made = then_ok (template (task_names w.tasks.tasks) w.templates ws) _ v e in
      subst PartsNamed (made_is (with_templates w made.0) v made.2)
      (record { tasks = named.tasks; templates = template_line ws made.0 made.1 })
  verb_named (Some verbs.Fibril) ws v e = body_last false ws v e
  verb_named (Some verbs.Connection) ws v e = body_last true ws v e
  verb_named (Some verbs.Wire) ws v e =
      let made = then_ok (wire w.tasks ws) _ v e in
      subst PartsNamed (made_is (with_wires w made.0) v made.2)
      (record { tasks = wire_named w.tasks made.0 ws named.tasks made.1; templates = named.templates })
  verb_named (Some (verbs.Op verb)) ws v e = operation_last verb ws v e

  words_named : (ws : List (List ℕ)) (v : ScriptParts) → after_words w ws ≡ Ok v → PartsNamed v
  words_named [] v e = subst PartsNamed (made_is w v e) named
  words_named (first ∷ others) v e = verb_named (verb_of first) others v e

  line_named : (line : List ℕ) (v : ScriptParts) → after_line w line ≡ Ok v → PartsNamed v
  unfolding after_line
  line_named line v e = words_named (words line) v (chosen_ok (list_all is_allowed line) (after_words w (words line)) v e)

lines_named : (n : ℕ) (w v : ScriptParts) (ls : List (List ℕ)) → PartsNamed w → lines_from after_line n w ls ≡ Ok v → PartsNamed v
lines_named n w v [] named e = subst PartsNamed (let same : w ≡ v = cc in same) named
lines_named n w v (l ∷ ls) named e =
    let one = line_ok n (after_line w l) (λ next. lines_from after_line (n + 1) next ls) v e in
    lines_named (n + 1) one.0 v ls (line_named w named l one.0 one.1) one.2

-- ---- the script

whole_named : (long : Bool) (r : Result ScriptParts (ℕ × Reason)) (plan : Plan)
    → plan_from_parts (cond long (Err (0, TooLong)) r) ≡ Ok plan
    → ((v : ScriptParts) → r ≡ Ok v → PartsNamed v) → writing.IsNamed plan
whole_named true r plan e all = absurd cc
whole_named false (Ok v) plan e all =
    let same : script_of_parts v ≡ plan = cc in
    subst writing.IsNamed same (record {
      tasks = All-from_recursion IsNamed v.tasks.tasks (all v refl).tasks;
      templates = All-from_recursion IsNamed v.templates.tasks (all v refl).templates;
    })
whole_named false (Err fault) plan e all = absurd cc

pub script_named : (bytes : List ℕ) (plan : Plan) → script_of bytes ≡ Ok plan → writing.IsNamed plan
unfolding reading
script_named bytes plan e =
    whole_named (nat_lt most_bytes (length bytes)) (lines_from after_line 1 no_parts (lines bytes)) plan e
    (λ (v : ScriptParts) (is : lines_from after_line 1 no_parts (lines bytes) ≡ Ok v).
    lines_named 1 no_parts v (lines bytes) (record { tasks = tt; templates = tt }) is)
