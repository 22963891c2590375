-- A script stands before its first line that has words just where none of its lines so far has any.
use Rattle.std.proofs.Common.{◌≡◌, ℕ, ◌+◌, ◌<◌, ◌⊎◌, inl, inr, ◌↔◌, Bool, true, false, cond, ◌&&◌, ◌==◌, List, [], ◌∷◌, ◌++◌, length, Option, Some, None, Result, Ok, Err, refl, sym, ◌∙◌, subst, arith, length-append}
use Rattle.std.specs.Prelude.{nat_le, ◌||◌, is_some}
use Rattle.std.specs.Option.{ok_or}
use Rattle.std.specs.List.{list_all}
use Rattle.std.proofs.lemmas.Bool.{ne_eqb, false≢true}
use Rattle.ipc_ids.specs.Tables.{most_tasks}
use Rattle.script_lines.specs.declared.draft.TaskHead.{TaskHead}
use Rattle.script_lines.specs.declared.fault.Reason.{Reason}
use Rattle.script_lines.specs.declared.fault.Reason.TheVariants.{UnknownName, NameTaken, BadPhone, TooMany}
use Rattle.script_lines.specs.declared.plan.TaskPlan.{TaskPlan}
use Rattle.script_lines.specs.declared.word.Verb.{Verb}
use Rattle.script_lines.specs.declared.word.Verb.TheVariants as first
use Rattle.script_lines.specs.declared.word.OpVerb.{OpVerb}
use Rattle.script_lines.specs.Text.{is_allowed, words}
use Rattle.script_lines.specs.Word.{verb_of}
use Rattle.script_lines.specs.Names.{task_names, place_of, is_ns}
use Rattle.script_lines.specs.Operation.{◌>>=◌, op_in}
use Rattle.script_lines.specs.Plan.{Plan}
use Rattle.script_lines.specs.Draft.{on_last, task_with_op, with_op, task_with_body, with_body, present, takes_bodies, service, with_service, new_task, with_task, with_new, limit_at, is_wired, leads_to_service, wire_between, with_wire, stands_first}
use Rattle.script_lines.specs.Line.{task_of, template_of, wire_of, ns, task, template, body, wire, operation, after_verb, after_words, after_line}
use Rattle.script_lines.specs.ScriptParts.{ScriptParts, no_parts, script_of_parts, with_tasks, with_templates, with_wires, part, with_part}
use Rattle.script_lines.proofs.Faultless.{given, then_ok, chosen_ok, given_by}
use Rattle.script_lines.proofs.Parts.{alone_ok}
use Rattle.script_lines.proofs.Soundness.{made_is}
use Rattle.script_reader.specs.Grammar.{Makes}
use Rattle.script_reader.specs.FirstLine.{HaveNoWords}

-- there is a task
abbrev HasTask : Plan → Type 0
HasTask plan = 0 < length plan.tasks

-- ---- a line that is taken leaves a task or a template

one_more : (tasks : List TaskPlan) (new : TaskPlan) → 0 < length (tasks ++ new ∷ [])
one_more tasks new = rw (length-append tasks (new ∷ [])) (omega arith)

ns_has : (w : ScriptParts) (q : Plan) (words : List (List ℕ)) → ns w words ≡ Ok q → HasTask q
unfolding ns with_service
ns_has w q words e =
    let made = made_is (with_service w.tasks) q (alone_ok (stands_first (script_of_parts w)) words (given (with_service w.tasks)) q e) in
    subst HasTask made (one_more w.tasks.tasks service)

new_has : (names : List (List ℕ)) (p q : Plan) (made : TaskHead) → with_new names p made ≡ Ok q → HasTask q
unfolding with_new with_task
new_has names p q made e = go (is_some (place_of names made.name)) (is_ns made.name || is_some (place_of (task_names p.tasks) made.name)) (nat_le most_tasks (length p.tasks)) e where
  longer : Plan
  longer = record p { tasks = p.tasks ++ new_task made ∷ [] }

  go : (other own full : Bool) → cond other (Err NameTaken) (cond own (Err NameTaken) (cond full (Err TooMany) (given longer))) ≡ Ok q → HasTask q
  go true own full f = absurd cc
  go false true full f = absurd cc
  go false false true f = absurd cc
  go false false false f = subst HasTask (made_is longer q f) (one_more p.tasks (new_task made))

task_has : (names : List (List ℕ)) (p q : Plan) (words : List (List ℕ)) → task names p words ≡ Ok q → HasTask q
unfolding task
task_has names p q words e = let said = then_ok (task_of words) _ q e in new_has names p q said.0 said.2

template_has : (names : List (List ℕ)) (p q : Plan) (words : List (List ℕ)) → template names p words ≡ Ok q → HasTask q
unfolding template
template_has names p q words e = let said = then_ok (template_of words) _ q e in new_has names p q said.0 said.2

last_has : (change : TaskPlan → Result TaskPlan Reason) (xs ys : List TaskPlan) → on_last change xs ≡ Ok ys → 0 < length ys
last_has change [] ys e = absurd cc
last_has change (x ∷ []) ys e =
    let got = then_ok (change x) (λ y. given (y ∷ [])) ys e in
    subst (λ (z : List TaskPlan). 0 < length z) (made_is _ ys got.2) (omega arith)
last_has change (x ∷ next ∷ others) ys e =
    let got = then_ok (on_last change (next ∷ others)) (λ changed. given (x ∷ changed)) ys e in
    subst (λ (z : List TaskPlan). 0 < length z) (made_is _ ys got.2) (omega arith)

changed_has : (p q : Plan) (change : TaskPlan → Result TaskPlan Reason)
    → (on_last change p.tasks >>= λ tasks. given (record p { tasks = tasks })) ≡ Ok q → HasTask q
changed_has p q change e =
    let got = then_ok (on_last change p.tasks) (λ tasks. given (record p { tasks = tasks })) q e in
    subst HasTask (made_is _ q got.2) (last_has change p.tasks got.0 got.1)

body_has : (p q : Plan) (connection : Bool) (words : List (List ℕ)) → body p connection words ≡ Ok q → HasTask q
unfolding body with_body
body_has p q connection words e = changed_has p q (task_with_body connection) (alone_ok (takes_bodies p) words (with_body p connection) q e)

operation_has : (p q : Plan) (verb : OpVerb) (words : List (List ℕ)) → operation p verb words ≡ Ok q → HasTask q
unfolding operation with_op
operation_has p q verb words e =
    let got = then_ok (op_in (present p) verb words) (with_op p) q e in
    changed_has p q (task_with_op got.0) got.2

named_has : (tasks : List TaskPlan) (name : List ℕ) (i : ℕ) → ok_or (place_of (task_names tasks) name) UnknownName ≡ Ok i → 0 < length tasks
named_has [] name i e = absurd cc
named_has (x ∷ xs) name i e = omega arith

wire_has : (p q : Plan) (words : List (List ℕ)) → wire p words ≡ Ok q → HasTask q
unfolding wire with_wire
wire_has p q words e =
    let said = then_ok (wire_of words) _ q e in
    let from = then_ok (ok_or (place_of (task_names p.tasks) said.0.0) UnknownName) _ q said.2 in
    let to = then_ok (ok_or (place_of (task_names p.tasks) said.0.2) UnknownName) _ q from.2 in
    by_phone (nat_le (limit_at p.tasks from.0) said.0.1 || is_wired p.wires (from.0 + 1) said.0.1 || leads_to_service p.tasks from.0 said.0.1) (record p { wires = p.wires ++ wire_between from.0 said.0.1 to.0 ∷ [] }) (named_has p.tasks said.0.0 from.0 from.1) to.2 where
      by_phone : (bad : Bool) (made : Plan) → HasTask made → cond bad (Err BadPhone) (given made) ≡ Ok q → HasTask q
      by_phone true made has f = absurd cc
      by_phone false made has f = subst HasTask (made_is made q f) has

-- ---- so the parts stand no more before their first line

stands_no_more : (w : ScriptParts) → HasTask w.tasks ⊎ HasTask w.templates → stands_first (script_of_parts w) ≡ false
unfolding stands_first
stands_no_more w (inl has) = rw (ne_eqb (length w.tasks.tasks) 0 (λ e. omega (arith, e, has))) refl
stands_no_more w (inr has) = go (length w.tasks.tasks == 0) (ne_eqb (length w.templates.tasks) 0 (λ e. omega (arith, e, has))) where
  go : (a : Bool) → (length w.templates.tasks == 0) ≡ false → (a && length w.templates.tasks == 0) ≡ false
  go true none = none
  go false none = refl

part_has : (tasks templates q : Plan) (on_template : Bool) → HasTask q
    → let v = with_part (record { tasks = tasks; templates = templates; on_template = on_template }) q in HasTask v.tasks ⊎ HasTask v.templates
part_has tasks templates q true has = inr has
part_has tasks templates q false has = inl has

module _ (w v : ScriptParts) where
  abbrev Stands : ScriptParts → Type 0
  Stands x = HasTask x.tasks ⊎ HasTask x.templates

  verb_has : (verb : Option Verb) (words : List (List ℕ)) → after_verb w verb words ≡ Ok v → Stands v
  verb_has None words e = absurd cc
  verb_has (Some first.Ns) words e =
      let got = given_by (ns w words) (with_tasks w) v e in subst Stands got.2 (inl (ns_has w got.0 words got.1))
  verb_has (Some first.Task) words e =
      let got = given_by (task (task_names w.templates.tasks) w.tasks words) (with_tasks w) v e in
      subst Stands got.2 (inl (task_has (task_names w.templates.tasks) w.tasks got.0 words got.1))
  verb_has (Some first.Template) words e =
      let got = given_by (template (task_names w.tasks.tasks) w.templates words) (with_templates w) v e in
      subst Stands got.2 (inr (template_has (task_names w.tasks.tasks) w.templates got.0 words got.1))
  verb_has (Some first.Fibril) words e =
      let got = given_by (body (part w) false words) (with_part w) v e in
      subst Stands got.2 (part_has w.tasks w.templates got.0 w.on_template (body_has (part w) got.0 false words got.1))
  verb_has (Some first.Connection) words e =
      let got = given_by (body (part w) true words) (with_part w) v e in
      subst Stands got.2 (part_has w.tasks w.templates got.0 w.on_template (body_has (part w) got.0 true words got.1))
  verb_has (Some first.Wire) words e =
      let got = given_by (wire w.tasks words) (with_wires w) v e in subst Stands got.2 (inl (wire_has w.tasks got.0 words got.1))
  verb_has (Some (first.Op verb)) words e =
      let got = given_by (operation (part w) verb words) (with_part w) v e in
      subst Stands got.2 (part_has w.tasks w.templates got.0 w.on_template (operation_has (part w) got.0 verb words got.1))

-- a line without words leaves the parts, and one that has words leaves a task or a template
line_stands : (w v : ScriptParts) (line : List ℕ) → after_line w line ≡ Ok v
    → ((words line ≡ []) × (w ≡ v)) ⊎ ((words line ≡ [] → ⊥) × (stands_first (script_of_parts v) ≡ false))
unfolding after_line
line_stands w v line e = go (words line) (chosen_ok (list_all is_allowed line) (after_words w (words line)) v e) where
  go : (ws : List (List ℕ)) → after_words w ws ≡ Ok v → ((ws ≡ []) × (w ≡ v)) ⊎ ((ws ≡ [] → ⊥) × (stands_first (script_of_parts v) ≡ false))
  go [] f = inl (refl, made_is w v f)
  go (word ∷ others) f = inr (λ none. cc, stands_no_more v (verb_has w v (verb_of word) others f))

lines_stand : (before : List (List ℕ)) (w made : ScriptParts) → Makes after_line w before made
    → (stands_first (script_of_parts made) ≡ true) ↔ ((stands_first (script_of_parts w) ≡ true) × HaveNoWords before)
lines_stand [] w made is =
    (λ e. (subst (λ (z : ScriptParts). stands_first (script_of_parts z) ≡ true) is e, tt), λ h. subst (λ (z : ScriptParts). stands_first (script_of_parts z) ≡ true) (sym is) h.0)
lines_stand (line ∷ others) w made m = go (line_stands w m.0 line m.1) (lines_stand others m.0 made m.2) where
  go : ((words line ≡ []) × (w ≡ m.0)) ⊎ ((words line ≡ [] → ⊥) × (stands_first (script_of_parts m.0) ≡ false))
      → (stands_first (script_of_parts made) ≡ true) ↔ ((stands_first (script_of_parts m.0) ≡ true) × HaveNoWords others)
      → (stands_first (script_of_parts made) ≡ true) ↔ ((stands_first (script_of_parts w) ≡ true) × HaveNoWords (line ∷ others))
  go (inl same) rest = (
    λ e. (let h = rest.0 e in (subst (λ (z : ScriptParts). stands_first (script_of_parts z) ≡ true) (sym same.1) h.0, (same.0, h.1))),
    λ h. rest.1 (subst (λ (z : ScriptParts). stands_first (script_of_parts z) ≡ true) same.1 h.0, h.1.1),
  )
  go (inr more) rest = (λ e. absurd (false≢true (sym more.1 ∙ (rest.0 e).0)), λ h. absurd (more.0 h.1.0))

at_first : stands_first (script_of_parts no_parts) ≡ true
unfolding stands_first
at_first = refl

pub stands_before_its_first_line : (before : List (List ℕ)) (made : ScriptParts) → Makes after_line no_parts before made
    → (stands_first (script_of_parts made) ≡ true) ↔ HaveNoWords before
stands_before_its_first_line before made m =
    let h = lines_stand before no_parts made m in
    (λ e. (h.0 e).1, λ none. h.1 (at_first, none))
