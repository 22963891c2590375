-- What a line of a script is at fault for is the first reason of its table.
use Rattle.std.proofs.Common.{◌≡◌, ℕ, suc, Bool, true, false, cond, not, ◌&&◌, ◌||◌, List, [], ◌∷◌, ◌++◌, length, Option, Some, None, Result, Ok, Err, refl, sym, ap, ◌∙◌, arith}
use Rattle.std.specs.Prelude.{is_some, nat_le, codes, option_map, ◌↔◌}
use Rattle.std.specs.List.{list_all}
use Rattle.std.specs.Str.{bytes_eq}
use Rattle.std.specs.Option.{option_or, option_and_then, option_map_or, ok_or}
use Rattle.ipc_ids.specs.Tables.{most_tasks, most_phones, most_operations}
use Rattle.ipc_ids.specs.declared.op.Op.{Op}
use Rattle.ipc_ids.specs.declared.op.Body.{Body}
use Rattle.script_lines.specs.declared.fault.Reason.{Reason}
use Rattle.script_lines.specs.declared.fault.Reason.TheVariants.{BadByte, UnknownOperation, OutOfPlace, WrongCount, BadWord, UnknownName, NameTaken, BadPhone, TooMany}
use Rattle.script_lines.specs.declared.plan.Kind.{Kind}
use Rattle.script_lines.specs.declared.plan.Kind.TheVariants.{Naming, Raw, Async, Block}
use Rattle.script_lines.specs.declared.plan.TaskPlan.{TaskPlan}
use Rattle.script_lines.specs.declared.draft.TaskHead.{TaskHead}
use Rattle.script_lines.specs.declared.word.Verb.{Verb}
use Rattle.script_lines.specs.declared.word.Verb.TheVariants as first
use Rattle.script_lines.specs.declared.word.OpVerb.{OpVerb}
use Rattle.script_lines.specs.Text.{is_allowed, words}
use Rattle.script_lines.specs.Word.{number, is_name, name_of, verb_of}
use Rattle.script_lines.specs.Names.{task_names, place_of, is_ns}
use Rattle.script_lines.specs.Operation.{◌>>=◌, needed, raw_op_of, async_op_of, op_in}
use Rattle.script_lines.specs.Plan.{Plan}
use Rattle.script_lines.specs.Draft.{last_of, open_kind, stands_first, present, takes_bodies, is_async, is_full, empty_body, on_last, body_with_op, task_with_op, with_op, task_with_body, with_body, with_service, with_task, with_new, with_wire, wire_between}
use Rattle.script_lines.specs.ScriptParts.{ScriptParts, script_of_parts, with_tasks, with_templates, with_wires, part, with_part}
use Rattle.script_lines.specs.Line.{kind_of, counted_kind_of, service_kind_of, number_up_to, most_behind, head, plain_task, counted_task, service_task, task_of, template_of, wire_of, alone_at, ns, task, template, body, wire, operation, after_verb, after_words, after_line}
use Rattle.script_reader.specs.Reasons.{Form, UP_TO, raw_forms, async_forms, op_forms, alone_where, forms, is_out_of_place, has_wrong_count, has_bad_word, names_unknown, name_is_taken, cannot_lead_from, cannot_lead, phone_is_bad, of_last_task, is_too_many, subject, is_among, is_taken_beside, is_known, line_reasons}
use Rattle.script_lines.specs.Sound.{most_blocks}
use Rattle.script_reader.specs.Rows.{Row, first_reason, fault_in, IsFirstReason, NoReason}
use Rattle.script_reader.proofs.FormFaults.{Says, bad, differ, two_needed, three_needed, raw_says, async_says, bind_ok}

abbrev given : (A : Type 0) → A → Result A Reason
given A x = Ok x

-- ---- rows in general

-- a step that comes after another is at fault where that one is, or where it is itself
pub bind_fault : {A B : Type 0} (r : Result A Reason) (f : A → Result B Reason) (rest : List Row) → ((x : A) → r ≡ Ok x → fault_in (f x) ≡ first_reason rest)
    → fault_in (r >>= f) ≡ option_or (fault_in r) (first_reason rest)
bind_fault (Ok x) f rest h = h x refl
bind_fault (Err e) f rest h = refl

pub rows_join : (o p q : Bool) (x y z : Reason) (rest : List Row)
    → option_or (first_reason ((x, o) ∷ (y, p) ∷ (z, q) ∷ [])) (first_reason rest) ≡ first_reason ((x, o) ∷ (y, p) ∷ (z, q) ∷ rest)
rows_join true p q x y z rest = refl
rows_join false true q x y z rest = refl
rows_join false false true x y z rest = refl
rows_join false false false x y z rest = refl

-- a step whose words are right by the forms, and what it makes of them
pub form_rows : {A B : Type 0} (forms : List Form) (words : List (List ℕ)) (rest : List Row) (r : Result A Reason) (f : A → Result B Reason) → Says r forms words
    → ((x : A) → r ≡ Ok x → fault_in (f x) ≡ first_reason rest)
    → fault_in (r >>= f) ≡ first_reason ((OutOfPlace, is_out_of_place forms) ∷ (WrongCount, has_wrong_count forms words) ∷ (BadWord, has_bad_word forms words) ∷ rest)
form_rows forms words rest r f says h =
    bind_fault r f rest h ∙ ap (λ (o : Option Reason). option_or o (first_reason rest)) says
    ∙ rows_join (is_out_of_place forms) (has_wrong_count forms words) (has_bad_word forms words) OutOfPlace WrongCount BadWord rest

-- ---- an operation

on_last_fault : {A : Type 0} (change : A → Result A Reason) (xs : List A) → fault_in (on_last change xs) ≡ option_map_or (λ x. fault_in (change x)) (last_of xs) (Some OutOfPlace)
on_last_fault change [] = refl
on_last_fault {A} change (a ∷ []) = bind_ok (change a) (λ (y : A). y ∷ [])
on_last_fault {A} change (a ∷ b ∷ xs) = bind_ok (on_last change (b ∷ xs)) (λ (changed : List A). a ∷ changed) ∙ on_last_fault change (b ∷ xs)

body_full : (body : Body) (op : Op) → fault_in (body_with_op op body) ≡ first_reason ((TooMany, nat_le most_operations (length body.ops)) ∷ [])
body_full body op = go (nat_le most_operations (length body.ops)) where
  go : (b : Bool) → fault_in (cond b (Err TooMany) (Ok (record body { ops = body.ops ++ op ∷ [] }))) ≡ first_reason ((TooMany, b) ∷ [])
  go true = refl
  go false = refl

bodies_full : (bodies : List Body) (op : Op) (o : Option Body) → last_of bodies ≡ o → is_some o ≡ true
    → fault_in (on_last (body_with_op op) bodies) ≡ first_reason ((TooMany, option_map_or (λ body. nat_le most_operations (length body.ops)) o false) ∷ [])
bodies_full bodies op None e there = absurd cc
bodies_full bodies op (Some body) e there = on_last_fault (body_with_op op) bodies ∙ ap (λ (o : Option Body). option_map_or (λ x. fault_in (body_with_op op x)) o (Some OutOfPlace)) e ∙ body_full body op

-- what with_op does, over the last task
tasks_full : (tasks : List TaskPlan) (op : Op) (o : Option TaskPlan) → last_of tasks ≡ o → is_some (option_and_then open_kind o) ≡ true
    → fault_in (on_last (task_with_op op) tasks) ≡ first_reason ((TooMany, option_map_or (λ body. nat_le most_operations (length body.ops)) (option_and_then (λ task. last_of task.bodies) o) false) ∷ [])
tasks_full tasks op None e there = absurd cc
tasks_full tasks op (Some task) e there =
    on_last_fault (task_with_op op) tasks ∙ ap (λ (o : Option TaskPlan). option_map_or (λ x. fault_in (task_with_op op x)) o (Some OutOfPlace)) e
    ∙ bind_ok (on_last (body_with_op op) task.bodies) (λ (bodies : List Body). record task { bodies = bodies })
    ∙ bodies_full task.bodies op (last_of task.bodies) refl (there_is (last_of task.bodies) there) where
      there_is : (o : Option Body) → is_some (option_map (λ _. task.kind) o) ≡ true → is_some o ≡ true
      there_is None h = h
      there_is (Some b) h = refl

op_full : (plan : Plan) (op : Op) (kind : Kind) (words : List (List ℕ)) (verb : OpVerb) → present plan ≡ Some kind → fault_in (with_op plan op) ≡ first_reason ((TooMany, is_too_many plan (first.Op verb) words) ∷ [])
unfolding present with_op
op_full plan op kind words verb e =
    bind_ok (on_last (task_with_op op) plan.tasks) (λ (tasks : List TaskPlan). record plan { tasks = tasks })
    ∙ tasks_full plan.tasks op (last_of plan.tasks) refl (ap is_some e)

-- the rows of a line whose first word is known, from its place on
abbrev pub verb_rows : Plan → Verb → List (List ℕ) → List Row
verb_rows plan verb others =
    (OutOfPlace, is_out_of_place (forms plan verb))
    ∷ (WrongCount, has_wrong_count (forms plan verb) others)
    ∷ (BadWord, has_bad_word (forms plan verb) others)
    ∷ (UnknownName, names_unknown plan verb others)
    ∷ (NameTaken, name_is_taken plan verb others)
    ∷ (BadPhone, phone_is_bad plan verb others)
    ∷ (TooMany, is_too_many plan verb others)
    ∷ []

-- those of a line that makes a task or a template, whose name is none of the others
abbrev new_rows : Verb → List (List ℕ) → Plan → List (List ℕ) → List Row
new_rows verb names plan others =
    (OutOfPlace, is_out_of_place (forms plan verb))
    ∷ (WrongCount, has_wrong_count (forms plan verb) others)
    ∷ (BadWord, has_bad_word (forms plan verb) others)
    ∷ (NameTaken, is_among names others || name_is_taken plan verb others)
    ∷ (TooMany, nat_le most_tasks (length plan.tasks))
    ∷ []

op_at : (plan : Plan) (verb : OpVerb) (words : List (List ℕ)) (kind : Option Kind) → present plan ≡ kind
    → fault_in (op_in kind verb words >>= with_op plan)
    ≡ first_reason ((OutOfPlace, is_out_of_place (op_forms kind verb)) ∷ (WrongCount, has_wrong_count (op_forms kind verb) words) ∷ (BadWord, has_bad_word (op_forms kind verb) words) ∷ (TooMany, is_too_many plan (first.Op verb) words) ∷ [])
op_at plan verb words None e = refl
op_at plan verb words (Some Naming) e = refl
op_at plan verb words (Some Block) e = refl
op_at plan verb words (Some Raw) e =
    form_rows (raw_forms verb) words ((TooMany, is_too_many plan (first.Op verb) words) ∷ []) (raw_op_of verb words) (with_op plan) (raw_says verb words) (λ op _. op_full plan op Raw words verb e)
op_at plan verb words (Some Async) e =
    form_rows (async_forms verb) words ((TooMany, is_too_many plan (first.Op verb) words) ∷ []) (async_op_of verb words) (with_op plan) (async_says verb words) (λ op _. op_full plan op Async words verb e)

op_line : (plan : Plan) (verb : OpVerb) (words : List (List ℕ)) → fault_in (operation plan verb words) ≡ first_reason (verb_rows plan (first.Op verb) words)
unfolding operation
op_line plan verb words = op_at plan verb words (present plan) refl

-- ---- a line of one word

alone_rows : (here : Bool) (words : List (List ℕ)) (made : Result Plan Reason) (rest : List Row) → (here ≡ true → fault_in made ≡ first_reason rest)
    → fault_in (alone_at here words made) ≡ first_reason ((OutOfPlace, is_out_of_place (alone_where here)) ∷ (WrongCount, has_wrong_count (alone_where here) words) ∷ (BadWord, has_bad_word (alone_where here) words) ∷ rest)
alone_rows false words made rest h = refl
alone_rows true [] made rest h = h refl
alone_rows true (word ∷ words) made rest h = rw (differ 0 (suc (length words)) (omega arith)) refl

ns_line : (w : ScriptParts) (words : List (List ℕ)) → fault_in (ns w words) ≡ first_reason (verb_rows (script_of_parts w) first.Ns words)
unfolding ns
ns_line w words = alone_rows (stands_first (script_of_parts w)) words (Ok (with_service w.tasks)) [] (λ _. refl)

with_body_fault : (plan : Plan) (connection : Bool) → takes_bodies plan ≡ true → fault_in (with_body plan connection) ≡ first_reason ((TooMany, of_last_task plan (λ task. is_full connection task.bodies)) ∷ [])
unfolding with_body takes_bodies task_with_body
with_body_fault plan connection takes =
    bind_ok (on_last (task_with_body connection) plan.tasks) (λ (tasks : List TaskPlan). record plan { tasks = tasks })
    ∙ on_last_fault (task_with_body connection) plan.tasks ∙ go (last_of plan.tasks) takes where
      pick : {A : Type 0} (b : Bool) (made : A) → fault_in (cond b (Err TooMany) (Ok made)) ≡ first_reason ((TooMany, b) ∷ [])
      pick true made = refl
      pick false made = refl

      go : (o : Option TaskPlan) → option_map_or (λ task. is_async task.kind) o false ≡ true
          → option_map_or (λ x. fault_in (task_with_body connection x)) o (Some OutOfPlace) ≡ first_reason ((TooMany, option_map_or (λ task. is_full connection task.bodies) o false) ∷ [])
      go None takes = absurd cc
      go (Some t) takes = pick (is_full connection t.bodies) (record t { bodies = t.bodies ++ empty_body connection ∷ [] })

fibril_line : (plan : Plan) (words : List (List ℕ)) → fault_in (body plan false words) ≡ first_reason (verb_rows plan first.Fibril words)
unfolding body
fibril_line plan words = alone_rows (takes_bodies plan) words (with_body plan false) ((TooMany, is_too_many plan first.Fibril words) ∷ []) (with_body_fault plan false)

connection_line : (plan : Plan) (words : List (List ℕ)) → fault_in (body plan true words) ≡ first_reason (verb_rows plan first.Connection words)
unfolding body
connection_line plan words = alone_rows (takes_bodies plan) words (with_body plan true) ((TooMany, is_too_many plan first.Connection words) ∷ []) (with_body_fault plan true)

-- ---- a task line

is_kind : (word : List ℕ) → is_some (kind_of word) ≡ (bytes_eq (codes "raw") word || bytes_eq (codes "async") word)
unfolding kind_of
is_kind word = go (bytes_eq (codes "raw") word) (bytes_eq (codes "async") word) where
  go : (raw async : Bool) → is_some (option_map (λ (entry : List ℕ × Kind). entry.1) (cond raw (Some (codes "raw", Raw)) (cond async (Some (codes "async", Async)) None))) ≡ (raw || async)
  go true async = refl
  go false true = refl
  go false false = refl

named_as : (word name : List ℕ) → name_of word ≡ Some name → name ≡ word
unfolding name_of
named_as word name e = go (is_name word) e where
  go : (b : Bool) → cond b (Some word) None ≡ Some name → name ≡ word
  go true e = cc
  go false e = absurd cc

is_named : (word : List ℕ) → is_some (name_of word) ≡ is_name word
unfolding name_of
is_named word = go (is_name word) where
  go : (b : Bool) → is_some (cond b (Some word) None) ≡ b
  go true = refl
  go false = refl

is_up_to : (most : ℕ) (word : List ℕ) → is_some (number_up_to most word) ≡ UP_TO most word
unfolding number_up_to
is_up_to most word = go (number word) where
  pick : (b : Bool) (n : ℕ) → is_some (cond b (Some n) None) ≡ b
  pick true n = refl
  pick false n = refl

  go : (o : Option ℕ) → is_some (option_and_then (λ n. cond (nat_le 1 n && nat_le n most) (Some n) None) o) ≡ option_map_or (λ n. nat_le 1 n && nat_le n most) o false
  go None = refl
  go (Some n) = pick (nat_le 1 n && nat_le n most) n

is_counted_kind : (word : List ℕ) → is_some (counted_kind_of word) ≡ (bytes_eq (codes "raw") word || (bytes_eq (codes "async") word || bytes_eq (codes "block") word))
unfolding counted_kind_of
is_counted_kind word = go (bytes_eq (codes "raw") word) (bytes_eq (codes "async") word) (bytes_eq (codes "block") word) where
  go : (raw async block : Bool) → is_some (option_map (λ (entry : List ℕ × Kind). entry.1) (cond raw (Some (codes "raw", Raw)) (cond async (Some (codes "async", Async)) (cond block (Some (codes "block", Block)) None)))) ≡ (raw || (async || block))
  go true async block = refl
  go false true block = refl
  go false false true = refl
  go false false false = refl

is_service_kind : (word : List ℕ) → is_some (service_kind_of word) ≡ bytes_eq (codes "block") word
unfolding service_kind_of
is_service_kind word = go (bytes_eq (codes "block") word) where
  go : (block : Bool) → is_some (option_map (λ (entry : List ℕ × Kind). entry.1) (cond block (Some (codes "block", Block)) None)) ≡ block
  go true = refl
  go false = refl

plain_says : (name kind : List ℕ) → fault_in (plain_task name kind) ≡ bad (is_name name && ((bytes_eq (codes "raw") kind || bytes_eq (codes "async") kind) && true))
unfolding plain_task
plain_says name kind = two_needed (name_of name) (kind_of kind) (λ n k. head n k most_phones None) ∙ rw (is_named name, is_kind kind) refl

-- a server may have as many blocks as a task may have phones
is_count : (kind : Kind) (word : List ℕ) → is_some (number_up_to (most_behind kind) word) ≡ UP_TO 64 word
is_count Naming word = is_up_to most_phones word
is_count Raw word = is_up_to most_phones word
is_count Async word = is_up_to most_phones word
is_count Block word = is_up_to most_blocks word

-- a kind that is looked up, and a number that it takes
kind_and_count : (found : Option Kind) (word : List ℕ) (then : Kind → ℕ → Result TaskHead Reason) (fits : Bool) → ((kind : Kind) (count : ℕ) → fault_in (then kind count) ≡ bad fits)
    → fault_in (needed found >>= λ kind. needed (number_up_to (most_behind kind) word) >>= then kind) ≡ bad (is_some found && (UP_TO 64 word && fits))
kind_and_count None word then fits h = refl
kind_and_count (Some kind) word then fits h = rw (sym (is_count kind word)) (go (number_up_to (most_behind kind) word)) where
  go : (o : Option ℕ) → fault_in (needed o >>= then kind) ≡ bad (is_some o && fits)
  go (Some count) = h kind count
  go None = refl

counted_says : (name : List ℕ) (found : Option Kind) (count : List ℕ) → fault_in (counted_task name found count) ≡ bad (is_name name && (is_some found && (UP_TO 64 count && true)))
unfolding counted_task
counted_says name found count = rw (sym (is_named name)) (go (name_of name)) where
  go : (o : Option (List ℕ)) → fault_in (needed o >>= λ n. needed found >>= λ k. needed (number_up_to (most_behind k) count) >>= λ c. Ok (head n k c None)) ≡ bad (is_some o && (is_some found && (UP_TO 64 count && true)))
  go (Some n) = kind_and_count found count (λ k c. Ok (head n k c None)) true (λ k c. refl)
  go None = refl

last_needed : (o : Option ℕ) (made : ℕ → TaskHead) → fault_in (needed o >>= λ s. Ok (made s)) ≡ bad (is_some o && true)
last_needed (Some s) made = refl
last_needed None made = refl

service_says : (name kind count service : List ℕ) → fault_in (service_task name kind count service) ≡ bad (is_name name && (bytes_eq (codes "block") kind && (UP_TO 64 count && (is_some (number service) && true))))
unfolding service_task
service_says name kind count service = rw (sym (is_named name), sym (is_service_kind kind)) (go (name_of name)) where
  go : (o : Option (List ℕ)) → fault_in (needed o >>= λ n. needed (service_kind_of kind) >>= λ k. needed (number_up_to (most_behind k) count) >>= λ c. needed (number service) >>= λ s. Ok (head n k c (Some s)))
      ≡ bad (is_some o && (is_some (service_kind_of kind) && (UP_TO 64 count && (is_some (number service) && true))))
  go (Some n) = kind_and_count (service_kind_of kind) count (λ k c. needed (number service) >>= λ s. Ok (head n k c (Some s))) (is_some (number service) && true) (λ k c. last_needed (number service) (λ s. head n k c (Some s)))
  go None = refl

-- the forms of both kinds with so many words, of which `count` is of its kind
either : (name raw async count : Bool)
    → bad (name && ((raw || async) && count)) ≡ cond (not (name && (raw && count)) && (not (name && (async && count)) && true)) (Some BadWord) None
either false raw async count = refl
either true true async true = refl
either true true false false = refl
either true true true false = refl
either true false true true = refl
either true false true false = refl
either true false false count = refl

one_of_three : (name raw async block count : Bool)
    → bad (name && ((raw || (async || block)) && count)) ≡ cond (not (name && (raw && count)) && (not (name && (async && count)) && (not (name && (block && count)) && true))) (Some BadWord) None
one_of_three false raw async block count = refl
one_of_three true true async block true = refl
one_of_three true true false false false = refl
one_of_three true true false true false = refl
one_of_three true true true false false = refl
one_of_three true true true true false = refl
one_of_three true false true block true = refl
one_of_three true false true false false = refl
one_of_three true false true true false = refl
one_of_three true false false true true = refl
one_of_three true false false true false = refl
one_of_three true false false false true = refl
one_of_three true false false false false = refl

just_one : (fits : Bool) → bad fits ≡ cond (not fits && true) (Some BadWord) None
just_one true = refl
just_one false = refl

task_says : (plan : Plan) (words : List (List ℕ)) → Says (task_of words) (forms plan first.Task) words
unfolding task_of
task_says plan [] = refl
task_says plan (a ∷ []) = refl
task_says plan (a ∷ b ∷ []) = plain_says a b ∙ either (is_name a) (bytes_eq (codes "raw") b) (bytes_eq (codes "async") b) true
task_says plan (a ∷ b ∷ c ∷ []) =
    counted_says a (counted_kind_of b) c ∙ ap (λ (k : Bool). bad (is_name a && (k && (UP_TO 64 c && true)))) (is_counted_kind b)
    ∙ one_of_three (is_name a) (bytes_eq (codes "raw") b) (bytes_eq (codes "async") b) (bytes_eq (codes "block") b) (UP_TO 64 c && true)
task_says plan (a ∷ b ∷ c ∷ d ∷ []) = service_says a b c d ∙ just_one (is_name a && (bytes_eq (codes "block") b && (UP_TO 64 c && (is_some (number d) && true))))
task_says plan (a ∷ b ∷ c ∷ d ∷ e ∷ others) = rw (differ 2 (suc (suc (suc (suc (suc (length others)))))) (omega arith), differ 3 (suc (suc (suc (suc (suc (length others)))))) (omega arith), differ 4 (suc (suc (suc (suc (suc (length others)))))) (omega arith)) refl

template_says : (plan : Plan) (words : List (List ℕ)) → Says (template_of words) (forms plan first.Template) words
unfolding template_of
template_says plan [] = refl
template_says plan (a ∷ []) = refl
template_says plan (a ∷ b ∷ []) = plain_says a b ∙ either (is_name a) (bytes_eq (codes "raw") b) (bytes_eq (codes "async") b) true
template_says plan (a ∷ b ∷ c ∷ []) =
    counted_says a (kind_of b) c ∙ ap (λ (k : Bool). bad (is_name a && (k && (UP_TO 64 c && true)))) (is_kind b)
    ∙ either (is_name a) (bytes_eq (codes "raw") b) (bytes_eq (codes "async") b) (UP_TO 64 c && true)
template_says plan (a ∷ b ∷ c ∷ d ∷ others) = rw (differ 2 (suc (suc (suc (suc (length others))))) (omega arith), differ 3 (suc (suc (suc (suc (length others))))) (omega arith)) refl

wire_says : (plan : Plan) (words : List (List ℕ)) → Says (wire_of words) (forms plan first.Wire) words
unfolding wire_of
wire_says plan [] = refl
wire_says plan (a ∷ []) = refl
wire_says plan (a ∷ b ∷ []) = refl
wire_says plan (a ∷ b ∷ c ∷ []) = three_needed (name_of a) (number b) (name_of c) (λ f p t. (f, p, t)) ∙ rw (is_named a, is_named c) refl
wire_says plan (a ∷ b ∷ c ∷ d ∷ others) = rw (differ 3 (suc (suc (suc (suc (length others))))) (omega arith)) refl

pub ok_is : {A : Type 0} (x y : A) → given A x ≡ given A y → x ≡ y
ok_is x y e = cc

with_task_fault : (plan : Plan) (made : TaskHead)
    → fault_in (with_task plan made) ≡ first_reason ((NameTaken, is_ns made.name || is_known plan made.name) ∷ (TooMany, nat_le most_tasks (length plan.tasks)) ∷ [])
unfolding with_task
with_task_fault plan made = go (is_ns made.name || is_known plan made.name) (nat_le most_tasks (length plan.tasks)) _ where
  go : {A : Type 0} (b c : Bool) (made : A) → fault_in (cond b (Err NameTaken) (cond c (Err TooMany) (Ok made))) ≡ first_reason ((NameTaken, b) ∷ (TooMany, c) ∷ [])
  go true c made = refl
  go false true made = refl
  go false false made = refl

pub head_name : (name : List ℕ) (kind : Kind) (count : ℕ) (service : Option ℕ) → (head name kind count service).name ≡ name
head_name name Naming count service = refl
head_name name Raw count service = refl
head_name name Async count service = refl
head_name name Block count service = refl

-- the name of what a line makes is its first word
made_name : (a : List ℕ) (n : List ℕ) (kind : Kind) (count : ℕ) (service : Option ℕ) (x : TaskHead) → n ≡ a → given TaskHead (head n kind count service) ≡ given TaskHead x → x.name ≡ a
made_name a n kind count service x is e = sym (ap (λ (y : TaskHead). y.name) (ok_is (head n kind count service) x e)) ∙ head_name n kind count service ∙ is

plain_name : (a b : List ℕ) (x : TaskHead) → plain_task a b ≡ Ok x → x.name ≡ a
unfolding plain_task
plain_name a b x e = go (name_of a) (kind_of b) (named_as a) e where
  go : (o : Option (List ℕ)) (k : Option Kind) → ((n : List ℕ) → o ≡ Some n → n ≡ a) → (needed o >>= λ n. needed k >>= λ k. Ok (head n k most_phones None)) ≡ Ok x → x.name ≡ a
  go (Some n) (Some k) is e = made_name a n k most_phones None x (is n refl) e
  go (Some n) None is e = absurd cc
  go None k is e = absurd cc

counted_name : (a : List ℕ) (found : Option Kind) (c : List ℕ) (x : TaskHead) → counted_task a found c ≡ Ok x → x.name ≡ a
unfolding counted_task
counted_name a found c x e = go (name_of a) found (named_as a) e where
  counted : (n : List ℕ) (kind : Kind) (l : Option ℕ) → n ≡ a → (needed l >>= λ l. Ok (head n kind l None)) ≡ Ok x → x.name ≡ a
  counted n kind (Some l) is e = made_name a n kind l None x is e
  counted n kind None is e = absurd cc

  go : (o : Option (List ℕ)) (k : Option Kind) → ((n : List ℕ) → o ≡ Some n → n ≡ a) → (needed o >>= λ n. needed k >>= λ k. needed (number_up_to (most_behind k) c) >>= λ l. Ok (head n k l None)) ≡ Ok x → x.name ≡ a
  go (Some n) (Some k) is e = counted n k (number_up_to (most_behind k) c) (is n refl) e
  go (Some n) None is e = absurd cc
  go None k is e = absurd cc

service_name : (a b c d : List ℕ) (x : TaskHead) → service_task a b c d ≡ Ok x → x.name ≡ a
unfolding service_task
service_name a b c d x e = go (name_of a) (service_kind_of b) (named_as a) e where
  counted : (n : List ℕ) (kind : Kind) (l s : Option ℕ) → n ≡ a → (needed l >>= λ l. needed s >>= λ s. Ok (head n kind l (Some s))) ≡ Ok x → x.name ≡ a
  counted n kind (Some l) (Some s) is e = made_name a n kind l (Some s) x is e
  counted n kind (Some l) None is e = absurd cc
  counted n kind None s is e = absurd cc

  go : (o : Option (List ℕ)) (k : Option Kind) → ((n : List ℕ) → o ≡ Some n → n ≡ a)
      → (needed o >>= λ n. needed k >>= λ k. needed (number_up_to (most_behind k) c) >>= λ l. needed (number d) >>= λ s. Ok (head n k l (Some s))) ≡ Ok x → x.name ≡ a
  go (Some n) (Some k) is e = counted n k (number_up_to (most_behind k) c) (number d) (is n refl) e
  go (Some n) None is e = absurd cc
  go None k is e = absurd cc

with_new_fault : (others : List (List ℕ)) (plan : Plan) (made : TaskHead)
    → fault_in (with_new others plan made) ≡ first_reason ((NameTaken, is_some (place_of others made.name) || (is_ns made.name || is_known plan made.name)) ∷ (TooMany, nat_le most_tasks (length plan.tasks)) ∷ [])
unfolding with_new
with_new_fault others plan made = go (is_some (place_of others made.name)) where
  go : (b : Bool) → fault_in (cond b (Err NameTaken) (with_task plan made)) ≡ first_reason ((NameTaken, b || (is_ns made.name || is_known plan made.name)) ∷ (TooMany, nat_le most_tasks (length plan.tasks)) ∷ [])
  go true = refl
  go false = with_task_fault plan made

-- a task or template whose name is the first word
new_rest : (names : List (List ℕ)) (plan : Plan) (name : List ℕ) (x : TaskHead) → x.name ≡ name
    → fault_in (with_new names plan x) ≡ first_reason ((NameTaken, is_some (place_of names name) || (is_ns name || is_known plan name)) ∷ (TooMany, nat_le most_tasks (length plan.tasks)) ∷ [])
new_rest names plan name x is = rw (sym is) (with_new_fault names plan x)

task_rest : (names : List (List ℕ)) (plan : Plan) (words : List (List ℕ)) (x : TaskHead) → task_of words ≡ Ok x
    → fault_in (with_new names plan x) ≡ first_reason ((NameTaken, is_among names words || name_is_taken plan first.Task words) ∷ (TooMany, nat_le most_tasks (length plan.tasks)) ∷ [])
unfolding task_of
task_rest names plan [] x e = absurd cc
task_rest names plan (a ∷ []) x e = absurd cc
task_rest names plan (a ∷ b ∷ []) x e = new_rest names plan a x (plain_name a b x e)
task_rest names plan (a ∷ b ∷ c ∷ []) x e = new_rest names plan a x (counted_name a (counted_kind_of b) c x e)
task_rest names plan (a ∷ b ∷ c ∷ d ∷ []) x e = new_rest names plan a x (service_name a b c d x e)
task_rest names plan (a ∷ b ∷ c ∷ d ∷ f ∷ others) x e = absurd cc

template_rest : (names : List (List ℕ)) (plan : Plan) (words : List (List ℕ)) (x : TaskHead) → template_of words ≡ Ok x
    → fault_in (with_new names plan x) ≡ first_reason ((NameTaken, is_among names words || name_is_taken plan first.Template words) ∷ (TooMany, nat_le most_tasks (length plan.tasks)) ∷ [])
unfolding template_of
template_rest names plan [] x e = absurd cc
template_rest names plan (a ∷ []) x e = absurd cc
template_rest names plan (a ∷ b ∷ []) x e = new_rest names plan a x (plain_name a b x e)
template_rest names plan (a ∷ b ∷ c ∷ []) x e = new_rest names plan a x (counted_name a (kind_of b) c x e)
template_rest names plan (a ∷ b ∷ c ∷ d ∷ others) x e = absurd cc

task_line : (names : List (List ℕ)) (plan : Plan) (words : List (List ℕ)) → fault_in (task names plan words) ≡ first_reason (new_rows first.Task names plan words)
unfolding task
task_line names plan words = form_rows (forms plan first.Task) words ((NameTaken, is_among names words || name_is_taken plan first.Task words) ∷ (TooMany, nat_le most_tasks (length plan.tasks)) ∷ []) (task_of words) (with_new names plan) (task_says plan words) (task_rest names plan words)

template_line : (names : List (List ℕ)) (plan : Plan) (words : List (List ℕ)) → fault_in (template names plan words) ≡ first_reason (new_rows first.Template names plan words)
unfolding template
template_line names plan words = form_rows (forms plan first.Template) words ((NameTaken, is_among names words || name_is_taken plan first.Template words) ∷ (TooMany, nat_le most_tasks (length plan.tasks)) ∷ []) (template_of words) (with_new names plan) (template_says plan words) (template_rest names plan words)

-- ---- a wire line

with_wire_fault : (plan : Plan) (from : List ℕ) (phone : ℕ) (to : List ℕ)
    → fault_in (with_wire plan from phone to) ≡ first_reason ((UnknownName, not (is_known plan from) || not (is_known plan to)) ∷ (BadPhone, cannot_lead plan from phone) ∷ [])
unfolding with_wire
with_wire_fault plan from phone to = go (place_of (task_names plan.tasks) from) (place_of (task_names plan.tasks) to) (cannot_lead_from plan phone) (λ f t. record plan { wires = plan.wires ++ wire_between f phone t ∷ [] }) where
  pick : {A : Type 0} (b : Bool) (x : A) → fault_in (cond b (Err BadPhone) (Ok x)) ≡ first_reason ((BadPhone, b) ∷ [])
  pick true x = refl
  pick false x = refl

  go : (f t : Option ℕ) (bad : ℕ → Bool) (made : ℕ → ℕ → Plan)
      → fault_in (ok_or f UnknownName >>= λ f. ok_or t UnknownName >>= λ t. cond (bad f) (Err BadPhone) (Ok (made f t)))
      ≡ first_reason ((UnknownName, not (is_some f) || not (is_some t)) ∷ (BadPhone, option_map_or bad f false) ∷ [])
  go None t bad made = refl
  go (Some f) None bad made = refl
  go (Some f) (Some t) bad made = pick (bad f) (made f t)

-- the parts of a wire are those of its words
wire_parts : (a b c : List ℕ) (x : List ℕ × ℕ × List ℕ) → wire_of (a ∷ b ∷ c ∷ []) ≡ Ok x → (x.0 ≡ a) × (number b ≡ Some x.1) × (x.2 ≡ c)
unfolding wire_of
wire_parts a b c x e = go (name_of a) (number b) (name_of c) (named_as a) (named_as c) e where
  go : (f : Option (List ℕ)) (p : Option ℕ) (t : Option (List ℕ)) → ((n : List ℕ) → f ≡ Some n → n ≡ a) → ((n : List ℕ) → t ≡ Some n → n ≡ c)
      → (needed f >>= λ f. needed p >>= λ p. needed t >>= λ t. Ok (f, p, t)) ≡ Ok x → (x.0 ≡ a) × (p ≡ Some x.1) × (x.2 ≡ c)
  go (Some f) (Some p) (Some t) is_a is_c e =
      let same = sym (ok_is (f, p, t) x e) in
      (ap (λ (y : List ℕ × ℕ × List ℕ). y.0) same ∙ is_a f refl, sym (ap (λ (y : List ℕ × ℕ × List ℕ). Some y.1) same), ap (λ (y : List ℕ × ℕ × List ℕ). y.2) same ∙ is_c t refl)
  go (Some f) (Some p) None is_a is_c e = absurd cc
  go (Some f) None t is_a is_c e = absurd cc
  go None p t is_a is_c e = absurd cc

wire_rest : (plan : Plan) (words : List (List ℕ)) (x : List ℕ × ℕ × List ℕ) → wire_of words ≡ Ok x
    → fault_in (with_wire plan x.0 x.1 x.2) ≡ first_reason ((UnknownName, names_unknown plan first.Wire words) ∷ (BadPhone, phone_is_bad plan first.Wire words) ∷ [])
unfolding wire_of
wire_rest plan (a ∷ b ∷ c ∷ []) x e =
    let p = wire_parts a b c x e in
    rw (p.1, sym p.0, sym p.2) (with_wire_fault plan x.0 x.1 x.2)
wire_rest plan [] x e = absurd cc
wire_rest plan (a ∷ []) x e = absurd cc
wire_rest plan (a ∷ b ∷ []) x e = absurd cc
wire_rest plan (a ∷ b ∷ c ∷ d ∷ others) x e = absurd cc

wire_line : (plan : Plan) (words : List (List ℕ)) → fault_in (wire plan words) ≡ first_reason (verb_rows plan first.Wire words)
unfolding wire
wire_line plan words = form_rows (forms plan first.Wire) words ((UnknownName, names_unknown plan first.Wire words) ∷ (BadPhone, phone_is_bad plan first.Wire words) ∷ []) (wire_of words) (λ (x : List ℕ × ℕ × List ℕ). with_wire plan x.0 x.1 x.2) (wire_says plan words) (wire_rest plan words)

-- ---- any line

-- the rows of a line whose first word is known, about its part
abbrev line_rows : ScriptParts → Verb → List (List ℕ) → List Row
line_rows w verb others =
    (OutOfPlace, is_out_of_place (forms (subject w verb) verb))
    ∷ (WrongCount, has_wrong_count (forms (subject w verb) verb) others)
    ∷ (BadWord, has_bad_word (forms (subject w verb) verb) others)
    ∷ (UnknownName, names_unknown (subject w verb) verb others)
    ∷ (NameTaken, is_taken_beside w verb others || name_is_taken (subject w verb) verb others)
    ∷ (BadPhone, phone_is_bad (subject w verb) verb others)
    ∷ (TooMany, is_too_many (subject w verb) verb others)
    ∷ []

-- a line that makes a task or a template names no task of a wire, and no phone
same_task_rows : (names : List (List ℕ)) (plan : Plan) (words : List (List ℕ)) → first_reason (new_rows first.Task names plan words)
    ≡ first_reason (
    (OutOfPlace, is_out_of_place (forms plan first.Task)) ∷ (WrongCount, has_wrong_count (forms plan first.Task) words) ∷ (BadWord, has_bad_word (forms plan first.Task) words)
    ∷ (UnknownName, names_unknown plan first.Task words) ∷ (NameTaken, is_among names words || name_is_taken plan first.Task words)
    ∷ (BadPhone, phone_is_bad plan first.Task words) ∷ (TooMany, is_too_many plan first.Task words) ∷ [])
same_task_rows names plan words = refl

same_template_rows : (names : List (List ℕ)) (plan : Plan) (words : List (List ℕ)) → first_reason (new_rows first.Template names plan words)
    ≡ first_reason (
    (OutOfPlace, is_out_of_place (forms plan first.Template)) ∷ (WrongCount, has_wrong_count (forms plan first.Template) words) ∷ (BadWord, has_bad_word (forms plan first.Template) words)
    ∷ (UnknownName, names_unknown plan first.Template words) ∷ (NameTaken, is_among names words || name_is_taken plan first.Template words)
    ∷ (BadPhone, phone_is_bad plan first.Template words) ∷ (TooMany, is_too_many plan first.Template words) ∷ [])
same_template_rows names plan words = refl

verb_line : (w : ScriptParts) (verb : Verb) (words : List (List ℕ)) → fault_in (after_verb w (Some verb) words) ≡ first_reason (line_rows w verb words)
verb_line w first.Ns words = bind_ok (ns w words) (with_tasks w) ∙ ns_line w words
verb_line w first.Task words = bind_ok (task (task_names w.templates.tasks) w.tasks words) (with_tasks w) ∙ task_line (task_names w.templates.tasks) w.tasks words ∙ same_task_rows (task_names w.templates.tasks) w.tasks words
verb_line w first.Template words = bind_ok (template (task_names w.tasks.tasks) w.templates words) (with_templates w) ∙ template_line (task_names w.tasks.tasks) w.templates words ∙ same_template_rows (task_names w.tasks.tasks) w.templates words
verb_line w first.Fibril words = bind_ok (body (part w) false words) (with_part w) ∙ fibril_line (part w) words
verb_line w first.Connection words = bind_ok (body (part w) true words) (with_part w) ∙ connection_line (part w) words
verb_line w first.Wire words = bind_ok (wire w.tasks words) (with_wires w) ∙ wire_line w.tasks words
verb_line w (first.Op verb) words = bind_ok (operation (part w) verb words) (with_part w) ∙ op_line (part w) verb words

known_line : (w : ScriptParts) (verb : Option Verb) (others : List (List ℕ)) → fault_in (after_verb w verb others)
    ≡ first_reason (
    (UnknownOperation, not (is_some verb))
    ∷ (OutOfPlace, option_map_or (λ v. is_out_of_place (forms (subject w v) v)) verb false)
    ∷ (WrongCount, option_map_or (λ v. has_wrong_count (forms (subject w v) v) others) verb false)
    ∷ (BadWord, option_map_or (λ v. has_bad_word (forms (subject w v) v) others) verb false)
    ∷ (UnknownName, option_map_or (λ v. names_unknown (subject w v) v others) verb false)
    ∷ (NameTaken, option_map_or (λ v. is_taken_beside w v others || name_is_taken (subject w v) v others) verb false)
    ∷ (BadPhone, option_map_or (λ v. phone_is_bad (subject w v) v others) verb false)
    ∷ (TooMany, option_map_or (λ v. is_too_many (subject w v) v others) verb false) ∷ [])
known_line w None others = refl
known_line w (Some verb) others = verb_line w verb others

abbrev tail_of : List Row → List Row
tail_of [] = []
tail_of (row ∷ rows) = rows

words_line : (w : ScriptParts) (ws : List (List ℕ)) (line : List ℕ) → words line ≡ ws → fault_in (after_words w ws) ≡ first_reason (tail_of (line_reasons w line))
words_line w [] line is = rw is refl
words_line w (first ∷ others) line is = rw is (known_line w (verb_of first) others)

-- bytes come before all else
pub bytes_first : {A : Type 0} (b : Bool) (r : Result A Reason) (rest : List Row) → fault_in r ≡ first_reason rest → fault_in (cond b r (Err BadByte)) ≡ first_reason ((BadByte, not b) ∷ rest)
bytes_first true r rest h = h
bytes_first false r rest h = refl

pub line_fault : (w : ScriptParts) (line : List ℕ) → fault_in (after_line w line) ≡ first_reason (line_reasons w line)
unfolding after_line
line_fault w line = bytes_first (list_all is_allowed line) (after_words w (words line)) (tail_of (line_reasons w line)) (words_line w (words line) line refl)

-- ---- from the first reason to the relation

abbrev option_or_this : Option Reason → Reason → Reason
option_or_this (Some x) other = x
option_or_this None other = other

pub first_is : (rows : List Row) (reason : Reason) → first_reason rows ≡ Some reason → IsFirstReason rows reason
first_is [] reason e = absurd cc
first_is ((x, true) ∷ rows) reason e = record { before = []; behind = rows; parts = ap (λ (o : Option Reason). (option_or_this o x, true) ∷ rows) e; none_before = tt }
first_is ((x, false) ∷ rows) reason e =
    let f = first_is rows reason e in
    record { before = (x, false) ∷ f.before; behind = f.behind; parts = ap (λ (others : List Row). (x, false) ∷ others) f.parts; none_before = (refl, f.none_before) }

first_behind : (before behind : List Row) (reason : Reason) → NoReason before → first_reason (before ++ (reason, true) ∷ behind) ≡ Some reason
first_behind [] behind reason none = refl
first_behind (row ∷ before) behind reason none = rw none.0 (first_behind before behind reason none.1)

pub is_first : (rows : List Row) (reason : Reason) → IsFirstReason rows reason → first_reason rows ≡ Some reason
is_first rows reason f = rw f.parts (first_behind f.before f.behind reason f.none_before)

pub none_is : (rows : List Row) → first_reason rows ≡ None → NoReason rows
none_is [] e = tt
none_is ((x, true) ∷ rows) e = absurd cc
none_is ((x, false) ∷ rows) e = (refl, none_is rows e)

pub is_none : (rows : List Row) → NoReason rows → first_reason rows ≡ None
is_none [] none = refl
is_none (row ∷ rows) none = rw none.0 (is_none rows none.1)

fault_some : {A : Type 0} (r : Result A Reason) (reason : Reason) → fault_in r ≡ Some reason → r ≡ Err reason
fault_some (Ok x) reason e = absurd cc
fault_some (Err x) reason e = cc

fault_none : {A : Type 0} (r : Result A Reason) → fault_in r ≡ None → (x : A) × (r ≡ Ok x)
fault_none (Ok x) e = (x, refl)
fault_none (Err x) e = absurd cc

pub at_fault_both : {A : Type 0} (r : Result A Reason) (rows : List Row) → fault_in r ≡ first_reason rows → (reason : Reason) → (r ≡ Err reason) ↔ IsFirstReason rows reason
at_fault_both r rows h reason = (λ e. first_is rows reason (sym h ∙ ap fault_in e), λ f. fault_some r reason (h ∙ is_first rows reason f))

pub good_both : {A : Type 0} (r : Result A Reason) (rows : List Row) → fault_in r ≡ first_reason rows → ((x : A) × (r ≡ Ok x)) ↔ NoReason rows
good_both r rows h = (λ e. none_is rows (sym h ∙ ap fault_in e.1), λ none. fault_none r (h ∙ is_none rows none))

pub line_told : (w : ScriptParts) (line : List ℕ) (reason : Reason) → (after_line w line ≡ Err reason) ↔ IsFirstReason (line_reasons w line) reason
line_told w line = at_fault_both (after_line w line) (line_reasons w line) (line_fault w line)
