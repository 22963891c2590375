-- Each operation of a script gives five arguments, where it gives any.
use Rattle.std.proofs.Common.{◌≡◌, ℕ, suc, ◌+◌, ◌-◌, ◌≤◌, Bool, true, false, List, [], ◌∷◌, length, Option, None, Some, refl, ap, sym, subst, ◌∙◌, arith, nat_le}
use Rattle.std.specs.Prelude.{⊤, All, Result, Ok, Err, if◌then◌else◌, option_map, is_some, replicate, ◌||◌}
use Rattle.std.specs.List.{list_all}
use Rattle.std.specs.Option.{option_and_then, ok_or}
use Rattle.std.proofs.lemmas.Bool.Decides.{nat_tests}
use Rattle.std.proofs.lemmas.List.{length-append, length-replicate}
use Rattle.std.proofs.lemmas.List.Elements.{All-nil, All-cons, All-append, All-head, All-tail}
use Rattle.ipc_ids.specs.declared.op.Value.{Value}
use Rattle.ipc_ids.specs.declared.op.Value.TheVariants.{Number}
use Rattle.ipc_ids.specs.declared.op.Op.{Op}
use Rattle.ipc_ids.specs.declared.op.Body.{Body}
use Rattle.script_lines.specs.declared.fault.Reason.{Reason}
use Rattle.script_lines.specs.declared.fault.Reason.TheVariants.{UnknownName}
use Rattle.script_lines.specs.declared.plan.Kind.{Kind}
use Rattle.script_lines.specs.declared.plan.Kind.TheVariants.{Raw, Async}
use Rattle.script_lines.specs.declared.plan.TaskPlan.{TaskPlan}
use Rattle.script_lines.specs.declared.draft.TaskHead.{TaskHead}
use Rattle.script_lines.specs.declared.word.Verb.{Verb}
use Rattle.script_lines.specs.declared.word.Verb.TheVariants as verb
use Rattle.script_lines.specs.declared.word.OpVerb.{OpVerb}
use Rattle.script_lines.specs.declared.word.OpVerb.TheVariants as verbs
use Rattle.script_lines.specs.Text.{is_allowed, words, lines}
use Rattle.script_lines.specs.Word.{value, register, mode_of, exchange_mode_of, number_below, bytes_of, verb_of}
use Rattle.script_lines.specs.Names.{task_names, place_of, is_ns}
use Rattle.ipc_ids.specs.Tables.{most_tasks}
use Rattle.script_lines.specs.Operation as operation
use Rattle.script_lines.specs.Operation.{◌>>=◌, needed, values, padded, arguments}
use Rattle.script_lines.specs.Plan.{Plan}
use Rattle.script_lines.specs.Draft as draft
use Rattle.script_lines.specs.Line as line
use Rattle.script_lines.specs.ScriptParts.{ScriptParts, no_parts, part, with_part, with_tasks, with_templates}
use Rattle.script_reader.specs.Grammar.{Makes, SpellsScript}
use Rattle.program_examples.specs.FiveArguments.{GivesFive, GiveFive, ScriptGivesFive}

-- ---- what holds of a result, where there is one

abbrev said : {A : Type 0} → A → Result A Reason
said x = Ok x

same_said : {A : Type 0} (x y : A) → said x ≡ said y → x ≡ y
same_said x y e = cc e

module _ {A : Type 0} (P : A → Type 0) where
  abbrev IfAny : Option A → Type 0
  IfAny None = ⊤
  IfAny (Some x) = P x

  abbrev IfGood : Result A Reason → Type 0
  IfGood (Ok x) = P x
  IfGood (Err reason) = ⊤

  good : (r : Result A Reason) (x : A) → IfGood r → r ≡ said x → P x
  good (Ok y) x h is = subst P (same_said y x is) h
  good (Err reason) x h is = absurd (cc is)

  choice : (b : Bool) (x y : Result A Reason) → (b ≡ true → IfGood x) → (b ≡ false → IfGood y)
      → IfGood (if b then x else y)
  choice true x y h g = h refl
  choice false x y h g = g refl

module _ {A B : Type 0} (P : A → Type 0) (Q : B → Type 0) where
  then_good : (r : Result A Reason) (f : A → Result B Reason) → IfGood P r → ((x : A) → P x → IfGood Q (f x))
      → IfGood Q (r >>= f)
  then_good (Ok x) f h g = g x h
  then_good (Err reason) f h g = tt

module _ {A B : Type 0} (Q : B → Type 0) where
  step : (r : Result A Reason) (f : A → Result B Reason) → ((x : A) → IfGood Q (f x)) → IfGood Q (r >>= f)
  step (Ok x) f g = g x
  step (Err reason) f g = tt

-- ---- arguments

values_all : (ws : List (List ℕ)) → IfAny (λ vs. length vs ≡ length ws) (values ws)
values_all [] = refl
values_all (w ∷ ws) = by (value w) (values ws) (values_all ws) where
  by : (o : Option Value) (others : Option (List Value)) → IfAny (λ vs. length vs ≡ length ws) others
      → IfAny (λ vs. length vs ≡ length (w ∷ ws)) (option_and_then (λ v. option_map (λ vs. v ∷ vs) others) o)
  by None others h = tt
  by (Some v) None h = tt
  by (Some v) (Some vs) h = ap suc h

abbrev IsFive : List Value → Type 0
IsFive vs = length vs ≡ 5

fills : (vs : List Value) → length vs ≤ 5 → IsFive (padded vs)
fills vs few =
    length-append vs (replicate (5 - length vs) (Number 0))
    ∙ (let rest = length-replicate (5 - length vs) (Number 0) in omega (arith, few, rest))

five_words : (ws : List (List ℕ)) → nat_le (length ws) 5 ≡ true → IfGood IsFive (needed (arguments ws))
unfolding arguments
five_words ws few = by (values ws) (values_all ws) where
  by : (o : Option (List Value)) → IfAny (λ vs. length vs ≡ length ws) o → IfGood IsFive (needed (option_map padded o))
  by None h = tt
  by (Some vs) h = fills vs (let small : length ws ≤ 5 = grind (arith, nat_tests, few) in omega (arith, small, h))

abbrev Third : Value × Value × List Value → Type 0
Third x = IsFive x.2

two_words : (ws : List (List ℕ)) → IfGood Third (operation.two_and_arguments ws)
unfolding operation.two_and_arguments
two_words [] = tt
two_words (first ∷ []) = tt
two_words (first ∷ second ∷ others) = choice Third (nat_le (length others) 5) _ _
    (λ few. step Third (needed (value first)) _ (λ a. step Third (needed (value second)) _
    (λ b. then_good IsFive Third (needed (arguments others)) _ (five_words others few) (λ args h. h)))) (λ _. tt)

-- ---- operations

abbrev Good : Result Op Reason → Type 0
Good r = IfGood GivesFive r

answer_five : (ws : List (List ℕ)) → Good (operation.answer_op ws)
unfolding operation.answer_op
answer_five ws = then_good Third GivesFive (operation.two_and_arguments ws) _ (two_words ws) (λ x h. h)

forward_five : (ws : List (List ℕ)) → Good (operation.forward_op ws)
unfolding operation.forward_op
forward_five (call ∷ phone ∷ mode ∷ []) =
    step GivesFive (needed (value call)) _ (λ a. step GivesFive (needed (value phone)) _
    (λ b. step GivesFive (needed (mode_of mode)) _ (λ c. tt)))
forward_five (call ∷ phone ∷ mode ∷ method ∷ others) = choice GivesFive (nat_le (length others) 5) _ _
    (λ few. step GivesFive (needed (value call)) _ (λ a. step GivesFive (needed (value phone)) _
    (λ b. step GivesFive (needed (mode_of mode)) _ (λ c. step GivesFive (needed (value method)) _
    (λ d. then_good IsFive GivesFive (needed (arguments others)) _ (five_words others few) (λ args h. h))))))
    (λ _. tt)
forward_five _ = tt

-- the others give no arguments

area_five : (ws : List (List ℕ)) → Good (operation.area_op ws)
unfolding operation.area_op
area_five (a ∷ b ∷ c ∷ []) = step GivesFive (needed (value a)) _
    (λ _. step GivesFive (needed (value b)) _
    (λ _. step GivesFive (needed (value c)) _ (λ _. tt)))
area_five _ = tt

unarea_five : (ws : List (List ℕ)) → Good (operation.unarea_op ws)
unfolding operation.unarea_op
unarea_five (a ∷ []) = step GivesFive (needed (value a)) _ (λ _. tt)
unarea_five _ = tt

poke_five : (ws : List (List ℕ)) → Good (operation.poke_op ws)
unfolding operation.poke_op
poke_five (a ∷ b ∷ []) = step GivesFive (needed (value a)) _
    (λ _. step GivesFive (needed (bytes_of b)) _ (λ _. tt))
poke_five _ = tt

peek_five : (ws : List (List ℕ)) → Good (operation.peek_op ws)
unfolding operation.peek_op
peek_five (a ∷ b ∷ []) = step GivesFive (needed (value a)) _
    (λ _. step GivesFive (needed (value b)) _ (λ _. tt))
peek_five _ = tt

set_five : (ws : List (List ℕ)) → Good (operation.set_op ws)
unfolding operation.set_op
set_five (a ∷ b ∷ []) = step GivesFive (needed (register a)) _
    (λ _. step GivesFive (needed (value b)) _ (λ _. tt))
set_five _ = tt

jump_five : (ws : List (List ℕ)) → Good (operation.jump_op ws)
unfolding operation.jump_op
jump_five (a ∷ []) = step GivesFive (needed (number_below 65536 a)) _ (λ _. tt)
jump_five _ = tt

jump_equal_five : (ws : List (List ℕ)) → Good (operation.jump_equal_op ws)
unfolding operation.jump_equal_op
jump_equal_five ws = step GivesFive (operation.two_and_place ws) _ (λ _. tt)

jump_differ_five : (ws : List (List ℕ)) → Good (operation.jump_differ_op ws)
unfolding operation.jump_differ_op
jump_differ_five ws = step GivesFive (operation.two_and_place ws) _ (λ _. tt)

raw_five : (v : OpVerb) (ws : List (List ℕ)) → Good (operation.raw_op_of v ws)
unfolding operation.call_op operation.receive_op operation.hangup_op
raw_five verbs.Call ws = then_good Third GivesFive (operation.two_and_arguments ws) _ (two_words ws) (λ x h. h)
raw_five verbs.Receive [] = tt
raw_five verbs.Answer ws = answer_five ws
raw_five verbs.Forward ws = forward_five ws
raw_five verbs.Hangup (a ∷ []) = step GivesFive (needed (value a)) _ (λ _. tt)
raw_five verbs.Area ws = area_five ws
raw_five verbs.Unarea ws = unarea_five ws
raw_five verbs.Poke ws = poke_five ws
raw_five verbs.Peek ws = peek_five ws
raw_five verbs.Set ws = set_five ws
raw_five verbs.Jump ws = jump_five ws
raw_five verbs.JumpEqual ws = jump_equal_five ws
raw_five verbs.JumpDiffer ws = jump_differ_five ws
raw_five _ _ = tt

async_five : (v : OpVerb) (ws : List (List ℕ)) → Good (operation.async_op_of v ws)
unfolding operation.call_slot_op operation.wait_op operation.next_op operation.yield_op operation.send_op
    operation.open_op operation.begin_op operation.end_op operation.close_op
async_five verbs.Call (slot ∷ phone ∷ method ∷ others) = choice GivesFive (nat_le (length others) 5) _ _
    (λ few. step GivesFive (needed (operation.slot_of slot)) _ (λ a. step GivesFive (needed (value phone)) _
    (λ b. step GivesFive (needed (value method)) _
    (λ c. then_good IsFive GivesFive (needed (arguments others)) _ (five_words others few) (λ args h. h)))))
    (λ _. tt)
async_five verbs.Answer ws = answer_five ws
async_five verbs.Forward ws = forward_five ws
async_five verbs.Area ws = area_five ws
async_five verbs.Unarea ws = unarea_five ws
async_five verbs.Poke ws = poke_five ws
async_five verbs.Peek ws = peek_five ws
async_five verbs.Set ws = set_five ws
async_five verbs.Jump ws = jump_five ws
async_five verbs.JumpEqual ws = jump_equal_five ws
async_five verbs.JumpDiffer ws = jump_differ_five ws
async_five verbs.Wait (a ∷ []) = step GivesFive (needed (operation.slot_of a)) _ (λ _. tt)
async_five verbs.Next [] = tt
async_five verbs.Yield [] = tt
async_five verbs.Send (slot ∷ handle ∷ method ∷ others) = choice GivesFive (nat_le (length others) 5) _ _
    (λ few. step GivesFive (needed (operation.slot_of slot)) _
    (λ a. step GivesFive (needed (operation.handle_of handle)) _
    (λ b. step GivesFive (needed (value method)) _
    (λ c. then_good IsFive GivesFive (needed (arguments others)) _ (five_words others few) (λ args h. h)))))
    (λ _. tt)
async_five verbs.Open (a ∷ b ∷ c ∷ []) = step GivesFive (needed (operation.session_of a)) _
    (λ _. step GivesFive (needed (value b)) _
    (λ _. step GivesFive (needed (exchange_mode_of c)) _ (λ _. tt)))
async_five verbs.Begin (a ∷ b ∷ []) = step GivesFive (needed (operation.handle_of a)) _
    (λ _. step GivesFive (needed (operation.session_of b)) _ (λ _. tt))
async_five verbs.End (a ∷ []) = step GivesFive (needed (operation.handle_of a)) _ (λ _. tt)
async_five verbs.Close (a ∷ []) = step GivesFive (needed (operation.session_of a)) _ (λ _. tt)
async_five _ _ = tt

op_five : (k : Option Kind) (v : OpVerb) (ws : List (List ℕ)) → Good (operation.op_in k v ws)
op_five (Some Raw) v ws = raw_five v ws
op_five (Some Async) v ws = async_five v ws
op_five _ v ws = tt

-- ---- lines

abbrev BodyFive : Body → Type 0
BodyFive body = All GivesFive body.ops

abbrev TaskFive : TaskPlan → Type 0
TaskFive task = GiveFive task.bodies

abbrev PlanFive : Plan → Type 0
PlanFive plan = All TaskFive plan.tasks

module _ {A : Type 0} (P : A → Type 0) where
  one : (x : A) → P x → All P (x ∷ [])
  one x h = All-cons P x [] h (All-nil P)

  on_last_keeps : (change : A → Result A Reason) → ((x : A) → P x → IfGood P (change x)) → (xs : List A) → All P xs
      → IfGood (All P) (draft.on_last change xs)
  on_last_keeps change keeps [] all = tt
  on_last_keeps change keeps (x ∷ []) all =
      then_good P (All P) (change x) _ (keeps x (All-head P x [] all)) (λ y h. one y h)
  on_last_keeps change keeps (x ∷ y ∷ others) all =
      then_good (All P) (All P) (draft.on_last change (y ∷ others)) _
      (on_last_keeps change keeps (y ∷ others) (All-tail P x (y ∷ others) all))
      (λ changed h. All-cons P x changed (All-head P x (y ∷ others) all) h)

empty : (connection : Bool) → BodyFive (draft.empty_body connection)
empty connection = All-nil GivesFive

with_op_five : (op : Op) → GivesFive op → (plan : Plan) → PlanFive plan → IfGood PlanFive (draft.with_op plan op)
unfolding draft.with_op
with_op_five op five plan all = then_good (All TaskFive) PlanFive (draft.on_last (draft.task_with_op op) plan.tasks) _
    (on_last_keeps TaskFive (draft.task_with_op op) in_task plan.tasks all) (λ tasks h. h) where
      in_body : (body : Body) → BodyFive body → IfGood BodyFive (draft.body_with_op op body)
      in_body body h = choice BodyFive (nat_le _ (length body.ops)) _ _ (λ _. tt)
          (λ _. All-append GivesFive body.ops (op ∷ []) h (one GivesFive op five))

      in_task : (task : TaskPlan) → TaskFive task → IfGood TaskFive (draft.task_with_op op task)
      in_task task h = then_good (All BodyFive) TaskFive (draft.on_last (draft.body_with_op op) task.bodies) _
          (on_last_keeps BodyFive (draft.body_with_op op) in_body task.bodies h) (λ bodies g. g)

with_body_five : (plan : Plan) (connection : Bool) → PlanFive plan → IfGood PlanFive (draft.with_body plan connection)
unfolding draft.with_body draft.task_with_body
with_body_five plan connection all =
    then_good (All TaskFive) PlanFive (draft.on_last (draft.task_with_body connection) plan.tasks) _
    (on_last_keeps TaskFive (draft.task_with_body connection) in_task plan.tasks all) (λ tasks h. h) where
      in_task : (task : TaskPlan) → TaskFive task → IfGood TaskFive (draft.task_with_body connection task)
      in_task task h = choice TaskFive (draft.is_full connection task.bodies) _ _ (λ _. tt)
          (λ _. All-append BodyFive task.bodies (draft.empty_body connection ∷ []) h
          (one BodyFive (draft.empty_body connection) (empty connection)))

new_five : (head : TaskHead) → TaskFive (draft.new_task head)
new_five head = by head.kind where
  by : (k : Kind) → All BodyFive (draft.if_any (draft.first_body k))
  by Raw = one BodyFive (draft.empty_body false) (empty false)
  by _ = All-nil BodyFive

with_new_five : (others : List (List ℕ)) (plan : Plan) (head : TaskHead) → PlanFive plan
    → IfGood PlanFive (draft.with_new others plan head)
unfolding draft.with_new draft.with_task
with_new_five others plan head all =
    choice PlanFive (is_some (place_of others head.name)) _ _ (λ _. tt) (λ _.
    choice PlanFive (is_ns head.name || is_some (place_of (task_names plan.tasks) head.name)) _ _ (λ _. tt) (λ _.
    choice PlanFive (nat_le most_tasks (length plan.tasks)) _ _ (λ _. tt) (λ _.
    All-append TaskFive plan.tasks (draft.new_task head ∷ []) all
    (one TaskFive (draft.new_task head) (new_five head)))))

with_wire_five : (plan : Plan) (from : List ℕ) (phone : ℕ) (to : List ℕ) → PlanFive plan
    → IfGood PlanFive (draft.with_wire plan from phone to)
unfolding draft.with_wire
with_wire_five plan from phone to all =
    step PlanFive (ok_or (place_of (task_names plan.tasks) from) UnknownName) _ (λ a.
    step PlanFive (ok_or (place_of (task_names plan.tasks) to) UnknownName) _ (λ b.
    choice PlanFive
    (nat_le (draft.limit_at plan.tasks a) phone || draft.is_wired plan.wires (a + 1) phone
    || draft.leads_to_service plan.tasks a phone) _ _ (λ _. tt) (λ _. all)))

service_five : (plan : Plan) → PlanFive plan → PlanFive (draft.with_service plan)
unfolding draft.with_service
service_five plan all = All-append TaskFive plan.tasks (draft.service ∷ []) all
    (one TaskFive draft.service (All-nil BodyFive))

alone_five : (b : Bool) (ws : List (List ℕ)) (made : Result Plan Reason) → IfGood PlanFive made
    → IfGood PlanFive (line.alone_at b ws made)
alone_five false ws made h = tt
alone_five true [] made h = h
alone_five true (w ∷ ws) made h = tt

-- ---- a script in its two parts

record BothFive (w : ScriptParts) : Type 0 where
  tasks : PlanFive w.tasks
  templates : PlanFive w.templates

module _ (w : ScriptParts) (five : BothFive w) where
  part_five : PlanFive (part w)
  part_five = by w.on_template where
    by : (b : Bool) → PlanFive (if b then w.templates else w.tasks)
    by true = five.templates
    by false = five.tasks

  with_part_five : (plan : Plan) → PlanFive plan → BothFive (with_part w plan)
  with_part_five plan h = by w.on_template where
    by : (b : Bool) → BothFive (if b then with_templates w plan else with_tasks w plan)
    by true = record { tasks = five.tasks; templates = h }
    by false = record { tasks = h; templates = five.templates }

  body_five : (connection : Bool) (ws : List (List ℕ)) → IfGood BothFive (line.body_of_last w connection ws)
  unfolding line.body
  body_five connection ws = then_good PlanFive BothFive (line.body (part w) connection ws) _
      (alone_five _ ws _ (with_body_five (part w) connection part_five)) with_part_five

  operation_five : (v : OpVerb) (ws : List (List ℕ)) → IfGood BothFive (line.operation_of_last w v ws)
  unfolding line.operation
  operation_five v ws = then_good PlanFive BothFive (line.operation (part w) v ws) _
      (then_good GivesFive PlanFive (operation.op_in (draft.present (part w)) v ws) _ (op_five _ v ws)
      (λ op h. with_op_five op h (part w) part_five)) with_part_five

  verb_five : (o : Option Verb) (ws : List (List ℕ)) → IfGood BothFive (line.after_verb w o ws)
  unfolding line.ns line.task line.template line.wire
  verb_five None ws = tt
  verb_five (Some verb.Ns) ws = then_good PlanFive BothFive (line.ns w ws) _
      (alone_five _ ws _ (service_five w.tasks five.tasks))
      (λ plan h. record { tasks = h; templates = five.templates })
  verb_five (Some verb.Task) ws = then_good PlanFive BothFive (line.task _ w.tasks ws) _
      (step PlanFive (line.task_of ws) _ (λ head. with_new_five _ w.tasks head five.tasks))
      (λ plan h. record { tasks = h; templates = five.templates })
  verb_five (Some verb.Template) ws = then_good PlanFive BothFive (line.template _ w.templates ws) _
      (step PlanFive (line.template_of ws) _ (λ head. with_new_five _ w.templates head five.templates))
      (λ plan h. record { tasks = five.tasks; templates = h })
  verb_five (Some verb.Fibril) ws = body_five false ws
  verb_five (Some verb.Connection) ws = body_five true ws
  verb_five (Some verb.Wire) ws = then_good PlanFive BothFive (line.wire w.tasks ws) _
      (step PlanFive (line.wire_of ws) _ (λ said. with_wire_five w.tasks said.0 said.1 said.2 five.tasks))
      (λ plan h. record { tasks = h; templates = five.templates })
  verb_five (Some (verb.Op v)) ws = operation_five v ws

  line_five : (text : List ℕ) → IfGood BothFive (line.after_line w text)
  unfolding line.after_line
  line_five text = choice BothFive (list_all is_allowed text) _ _ (λ _. by (words text)) (λ _. tt) where
    by : (ws : List (List ℕ)) → IfGood BothFive (line.after_words w ws)
    by [] = five
    by (first ∷ others) = verb_five (verb_of first) others

lines_five : (texts : List (List ℕ)) (w made : ScriptParts) → BothFive w → Makes line.after_line w texts made
    → BothFive made
lines_five [] w made five is = subst BothFive (sym is) five
lines_five (text ∷ texts) w made five makes =
    lines_five texts makes.0 made (good BothFive (line.after_line w text) makes.0 (line_five w five text) makes.1)
    makes.2

pub script_gives_five : (text : List ℕ) (plan : Plan) → SpellsScript text plan → ScriptGivesFive plan
script_gives_five text plan spells =
    let five : BothFive spells.0 = lines_five (lines text) no_parts spells.0
    (record { tasks = All-nil TaskFive; templates = All-nil TaskFive }) spells.1.lines_make in
    subst ScriptGivesFive spells.2 (record { tasks = five.tasks; templates = five.templates })
