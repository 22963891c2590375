-- The two parts of a script fit each other, whatever its lines add to them.
use Rattle.std.proofs.Common.{◌≡◌, ◌≢◌, ℕ, ◌+◌, Bool, true, false, cond, List, [], ◌∷◌, ◌++◌, length, map, get_or, Option, Some, None, Result, Ok, Err, refl, sym, ap, subst, ◌∙◌, arith}
use Rattle.std.specs.Prelude.{All, IfSome, is_some, nat_le, ◌||◌, ⊤}
use Rattle.std.specs.Option.{ok_or}
use Rattle.std.specs.List.{list_all}
use Rattle.std.specs.Str.{bytes_eq}
use Rattle.std.proofs.lemmas.List.{map_push}
use Rattle.std.proofs.lemmas.List.Elements.{All-push}
use Rattle.std.proofs.lemmas.List.Sums.{fails_before_first}
use Rattle.std.proofs.lemmas.Slice.Eq.{bytes_eq-Decides}
use Rattle.ipc_ids.specs.declared.op.Op.{Op}
use Rattle.ipc_ids.specs.declared.op.Body.{Body}
use Rattle.ipc_ids.specs.Tables.{named_in, most_tasks, most_phones}
use Rattle.script_lines.specs.declared.draft.Draft.{Draft}
use Rattle.script_lines.specs.declared.draft.TaskHead.{TaskHead}
use Rattle.script_lines.specs.declared.fault.Reason.{Reason}
use Rattle.script_lines.specs.declared.fault.Reason.TheVariants.{UnknownName, NameTaken, BadPhone, TooMany}
use Rattle.script_lines.specs.declared.plan.Kind.{Kind}
use Rattle.script_lines.specs.declared.plan.Kind.TheVariants.{Naming, Raw, Async, Block}
use Rattle.script_lines.specs.declared.plan.TaskPlan.{TaskPlan}
use Rattle.script_lines.specs.declared.plan.Wire.{Wire}
use Rattle.script_lines.specs.declared.word.Verb.{Verb}
use Rattle.script_lines.specs.declared.word.Verb.TheVariants as first
use Rattle.script_lines.specs.declared.word.OpVerb.{OpVerb}
use Rattle.script_lines.specs.Text.{is_allowed, words}
use Rattle.script_lines.specs.Word.{verb_of, name_of}
use Rattle.script_lines.specs.Names.{task_names, place_of, ns_name, is_ns}
use Rattle.script_lines.specs.Operation.{◌>>=◌, needed, op_in}
use Rattle.script_lines.specs.Plan.{Plan}
use Rattle.script_lines.specs.Sound.{IsSound, AreApart, IsRawOrAsync}
use Rattle.script_lines.specs.Draft.{plan_of, IsWhole, on_last, body_with_op, task_with_op, with_op, empty_body, is_full, task_with_body, with_body, present, takes_bodies, service, with_service, new_task, with_task, with_new, limit_at, is_wired, leads_to_service, wire_between, with_wire, stands_first}
use Rattle.script_lines.specs.Line.{kinds, kind_of, number_up_to, most_behind, head, plain_task, counted_task, task_of, template_of, wire_of, alone_at, ns, task, template, body, wire, operation, after_verb, after_words, after_line}
use Rattle.script_lines.specs.ScriptParts.{ScriptParts, no_parts, script_of_parts, with_tasks, with_templates, with_wires, part, with_part, PartsFit}
use Rattle.script_lines.proofs.Faultless.{given, then_ok, chosen_ok, given_by}
use Rattle.script_lines.proofs.Soundness.{other_name, none_passes, made_is}
use Rattle.script_lines.proofs.TaskKinds.{each_is_raw_or_async}

-- ---- a change of the last task or template

abbrev kinds_of : List TaskPlan → List Kind
kinds_of tasks = map (λ (t : TaskPlan). t.kind) tasks

-- neither its name nor its kind changes
abbrev SameHead : TaskPlan → TaskPlan → Type 0
SameHead x y = (y.name ≡ x.name) × (y.kind ≡ x.kind)

abbrev SameHeads : List TaskPlan → List TaskPlan → Type 0
SameHeads xs ys = (task_names ys ≡ task_names xs) × (kinds_of ys ≡ kinds_of xs)

op_head : (op : Op) (x y : TaskPlan) → task_with_op op x ≡ Ok y → SameHead x y
op_head op x y e =
    let got = then_ok (on_last (body_with_op op) x.bodies) (λ (bodies : List Body). given (record x { bodies = bodies })) y e in
    subst (SameHead x) (made_is _ y got.2) (refl, refl)

body_head : (connection : Bool) (x y : TaskPlan) → task_with_body connection x ≡ Ok y → SameHead x y
unfolding task_with_body
body_head connection x y e = by_room (is_full connection x.bodies) e where
  longer : TaskPlan
  longer = record x { bodies = x.bodies ++ empty_body connection ∷ [] }

  by_room : (full : Bool) → cond full (Err TooMany) (given longer) ≡ Ok y → SameHead x y
  by_room true f = absurd cc
  by_room false f = subst (SameHead x) (made_is longer y f) (refl, refl)

heads_kept : (change : TaskPlan → Result TaskPlan Reason) → ((x y : TaskPlan) → change x ≡ Ok y → SameHead x y) → (xs ys : List TaskPlan) → on_last change xs ≡ Ok ys → SameHeads xs ys
heads_kept change kept [] ys e = absurd cc
heads_kept change kept (x ∷ []) ys e =
    let got = then_ok (change x) (λ y. given (y ∷ [])) ys e in
    let head = kept x got.0 got.1 in
    subst (SameHeads (x ∷ [])) (made_is _ ys got.2) (ap (λ (n : List ℕ). n ∷ []) head.0, ap (λ (k : Kind). k ∷ []) head.1)
heads_kept change kept (x ∷ next ∷ others) ys e =
    let got = then_ok (on_last change (next ∷ others)) (λ changed. given (x ∷ changed)) ys e in
    let rest = heads_kept change kept (next ∷ others) got.0 got.1 in
    subst (SameHeads (x ∷ next ∷ others)) (made_is _ ys got.2) (ap (λ (ns : List (List ℕ)). x.name ∷ ns) rest.0, ap (λ (ks : List Kind). x.kind ∷ ks) rest.1)

on_tasks : (p q : Plan) (change : TaskPlan → Result TaskPlan Reason) → ((x y : TaskPlan) → change x ≡ Ok y → SameHead x y) → (on_last change p.tasks >>= λ tasks. given (record p { tasks = tasks })) ≡ Ok q → SameHeads p.tasks q.tasks
on_tasks p q change kept e =
    let got = then_ok (on_last change p.tasks) (λ tasks. given (record p { tasks = tasks })) q e in
    subst (λ (z : Plan). SameHeads p.tasks z.tasks) (made_is _ q got.2) (heads_kept change kept p.tasks got.0 got.1)

pub alone_ok : (here : Bool) (words : List (List ℕ)) (made : Result Plan Reason) (q : Plan) → alone_at here words made ≡ Ok q → made ≡ Ok q
alone_ok false words made q e = absurd cc
alone_ok true [] made q e = e
alone_ok true (_ ∷ _) made q e = absurd cc

body_keeps : (p q : Plan) (connection : Bool) (words : List (List ℕ)) → body p connection words ≡ Ok q → SameHeads p.tasks q.tasks
unfolding body with_body
body_keeps p q connection words e = on_tasks p q (task_with_body connection) (body_head connection) (alone_ok (takes_bodies p) words (with_body p connection) q e)

operation_keeps : (p q : Plan) (verb : OpVerb) (words : List (List ℕ)) → operation p verb words ≡ Ok q → SameHeads p.tasks q.tasks
unfolding operation with_op
operation_keeps p q verb words e =
    let got = then_ok (op_in (present p) verb words) (with_op p) q e in
    on_tasks p q (task_with_op got.0) (op_head got.0) got.2

-- ---- a wire

wire_keeps : (p q : Plan) (words : List (List ℕ)) → wire p words ≡ Ok q → q.tasks ≡ p.tasks
unfolding wire with_wire
wire_keeps p q words e =
    let said = then_ok (wire_of words) _ q e in
    let from = then_ok (ok_or (place_of (task_names p.tasks) said.0.0) UnknownName) _ q said.2 in
    let to = then_ok (ok_or (place_of (task_names p.tasks) said.0.2) UnknownName) _ q from.2 in
    by_phone (nat_le (limit_at p.tasks from.0) said.0.1 || is_wired p.wires (from.0 + 1) said.0.1 || leads_to_service p.tasks from.0 said.0.1) (record p { wires = p.wires ++ wire_between from.0 said.0.1 to.0 ∷ [] }) refl to.2 where
      by_phone : (bad : Bool) (made : Plan) → made.tasks ≡ p.tasks → cond bad (Err BadPhone) (given made) ≡ Ok q → q.tasks ≡ p.tasks
      by_phone true made same f = absurd cc
      by_phone false made same f = subst (λ (z : Plan). z.tasks ≡ p.tasks) (made_is made q f) same

-- ---- one more task or template

-- it stands at the end; its name is none of the others, nor that of the naming service; its kind is such a one
record IsOneMore (IsSuch : Kind → Type 0) (names : List (List ℕ)) (p q : Plan) : Type 0 where
  new : TaskPlan
  tasks : q.tasks ≡ p.tasks ++ new ∷ []
  free : is_some (place_of names new.name) ≡ false
  not_ns : new.name ≢ ns_name
  of_kind : IsSuch new.kind

kind_found : (word : List ℕ) (kind : Kind) → needed (kind_of word) ≡ Ok kind → IsRawOrAsync kind
unfolding kind_of
kind_found word kind e = by_found (named_in kinds word) (each_is_raw_or_async word) e where
  by_found : (o : Option Kind) → IfSome o IsRawOrAsync → needed o ≡ Ok kind → IsRawOrAsync kind
  by_found (Some k) is f = subst IsRawOrAsync (made_is k kind f) is
  by_found None is f = absurd cc

-- a line's head of a raw or an async kind is of that kind
head_found : (name : List ℕ) (kind : Kind) (count : ℕ) (number : Option ℕ) → IsRawOrAsync kind → IsRawOrAsync (head name kind count number).kind
head_found name Naming count number is = absurd is
head_found name Raw count number is = tt
head_found name Async count number is = tt
head_found name Block count number is = absurd is

plain_found : (name kind : List ℕ) (x : TaskHead) → plain_task name kind ≡ Ok x → IsRawOrAsync x.kind
unfolding plain_task
plain_found name kind x e =
    let named = then_ok (needed (name_of name)) _ x e in
    let found = then_ok (needed (kind_of kind)) _ x named.2 in
    subst (λ (z : TaskHead). IsRawOrAsync z.kind) (made_is _ x found.2) (head_found named.0 found.0 most_phones None (kind_found kind found.0 found.1))

counted_found : (name kind count : List ℕ) (x : TaskHead) → counted_task name (kind_of kind) count ≡ Ok x → IsRawOrAsync x.kind
unfolding counted_task
counted_found name kind count x e =
    let named = then_ok (needed (name_of name)) _ x e in
    let found = then_ok (needed (kind_of kind)) _ x named.2 in
    let last = then_ok (needed (number_up_to (most_behind found.0) count)) _ x found.2 in
    subst (λ (z : TaskHead). IsRawOrAsync z.kind) (made_is _ x last.2) (head_found named.0 found.0 last.0 None (kind_found kind found.0 found.1))

template_found : (words : List (List ℕ)) (x : TaskHead) → template_of words ≡ Ok x → IsRawOrAsync x.kind
unfolding template_of
template_found (name ∷ kind ∷ []) x e = plain_found name kind x e
template_found (name ∷ kind ∷ count ∷ []) x e = counted_found name kind count x e
template_found _ x e = absurd cc

either_false : (a b : Bool) → (a || b) ≡ false → a ≡ false
either_false true b e = e
either_false false b e = refl

one_more : (IsSuch : Kind → Type 0) (names : List (List ℕ)) (p q : Plan) (made : TaskHead) → IsSuch made.kind → with_new names p made ≡ Ok q → IsOneMore IsSuch names p q
unfolding with_new with_task
one_more IsSuch names p q made such e = by_other (is_some (place_of names made.name)) refl e where
  longer : Plan
  longer = record p { tasks = p.tasks ++ new_task made ∷ [] }

  full : Bool
  full = nat_le most_tasks (length p.tasks)

  taken : Bool
  taken = is_ns made.name || is_some (place_of (task_names p.tasks) made.name)

  by_full : (f : Bool) → is_some (place_of names made.name) ≡ false → is_ns made.name ≡ false → cond f (Err TooMany) (given longer) ≡ Ok q → IsOneMore IsSuch names p q
  by_full true free other e = absurd cc
  by_full false free other e = subst (IsOneMore IsSuch names p) (made_is longer q e) (record { new = new_task made; tasks = refl; free = free; not_ns = other_name made.name other; of_kind = such })

  by_own : (t : Bool) → taken ≡ t → is_some (place_of names made.name) ≡ false → cond t (Err NameTaken) (cond full (Err TooMany) (given longer)) ≡ Ok q → IsOneMore IsSuch names p q
  by_own true is free e = absurd cc
  by_own false is free e = by_full full free (either_false (is_ns made.name) _ is) e

  by_other : (t : Bool) → is_some (place_of names made.name) ≡ t → cond t (Err NameTaken) (cond taken (Err NameTaken) (cond full (Err TooMany) (given longer))) ≡ Ok q → IsOneMore IsSuch names p q
  by_other true is e = absurd cc
  by_other false is e = by_own taken refl is e

abbrev IsAny : Kind → Type 0
IsAny kind = ⊤

task_keeps : (names : List (List ℕ)) (p q : Plan) (words : List (List ℕ)) → task names p words ≡ Ok q → IsOneMore IsAny names p q
unfolding task
task_keeps names p q words e =
    let said = then_ok (task_of words) _ q e in
    one_more IsAny names p q said.0 tt said.2

template_keeps : (names : List (List ℕ)) (p q : Plan) (words : List (List ℕ)) → template names p words ≡ Ok q → IsOneMore IsRawOrAsync names p q
unfolding template
template_keeps names p q words e =
    let said = then_ok (template_of words) _ q e in
    one_more IsRawOrAsync names p q said.0 (template_found words said.0 said.1) said.2

-- none of these names is a new one
fresh : (names : List (List ℕ)) (name : List ℕ) → is_some (place_of names name) ≡ false → All (λ (known : List ℕ). known ≢ name) names
fresh names name e k d lt same =
    let past = none_passes (bytes_eq name) names e in
    let fails = fails_before_first (bytes_eq name) names k d (omega arith) in
    let passes = (bytes_eq-Decides name (get_or names k d)).1 (sym same) in
    absurd cc

-- ---- the parts fit

-- a task beside the templates
task_beside : (names others : List (List ℕ)) (name : List ℕ) → AreApart names others → All (λ (other : List ℕ). other ≢ name) others → AreApart (names ++ name ∷ []) others
task_beside names others name apart new k d lt = All-push (λ (known : List ℕ). known ≢ get_or others k d) names name (apart k d lt) (λ same. new k d lt (sym same))

service_fits : (w : ScriptParts) → PartsFit w → PartsFit (with_tasks w (with_service w.tasks))
unfolding with_service
service_fits w fit = record {
  apart = subst (λ (names : List (List ℕ)). AreApart names (task_names w.templates.tasks)) (sym (map_push (λ (t : TaskPlan). t.name) w.tasks.tasks service)) (task_beside (task_names w.tasks.tasks) (task_names w.templates.tasks) ns_name fit.apart fit.not_ns);
  not_ns = fit.not_ns;
  raw_or_async = fit.raw_or_async;
}

task_fits : (w : ScriptParts) (q : Plan) → PartsFit w → IsOneMore IsAny (task_names w.templates.tasks) w.tasks q → PartsFit (with_tasks w q)
task_fits w q fit one = record {
  apart = subst (λ (names : List (List ℕ)). AreApart names (task_names w.templates.tasks)) (sym (ap task_names one.tasks ∙ map_push (λ (t : TaskPlan). t.name) w.tasks.tasks one.new)) (task_beside (task_names w.tasks.tasks) (task_names w.templates.tasks) one.new.name fit.apart (fresh (task_names w.templates.tasks) one.new.name one.free));
  not_ns = fit.not_ns;
  raw_or_async = fit.raw_or_async;
}

template_fits : (w : ScriptParts) (q : Plan) → PartsFit w → IsOneMore IsRawOrAsync (task_names w.tasks.tasks) w.templates q → PartsFit (with_templates w q)
template_fits w q fit one =
    let names_are = sym (ap task_names one.tasks ∙ map_push (λ (t : TaskPlan). t.name) w.templates.tasks one.new) in
    record {
      apart = subst (AreApart (task_names w.tasks.tasks)) names_are (All-push (λ (other : List ℕ). All (λ (name : List ℕ). name ≢ other) (task_names w.tasks.tasks)) (task_names w.templates.tasks) one.new.name fit.apart (fresh (task_names w.tasks.tasks) one.new.name one.free));
      not_ns = subst (All (λ (name : List ℕ). name ≢ ns_name)) names_are (All-push (λ (name : List ℕ). name ≢ ns_name) (task_names w.templates.tasks) one.new.name fit.not_ns one.not_ns);
      raw_or_async = subst (All IsRawOrAsync) (sym (ap kinds_of one.tasks ∙ map_push (λ (t : TaskPlan). t.kind) w.templates.tasks one.new)) (All-push IsRawOrAsync (kinds_of w.templates.tasks) one.new.kind fit.raw_or_async one.of_kind);
    }

wire_fits : (w : ScriptParts) (q : Plan) → PartsFit w → q.tasks ≡ w.tasks.tasks → PartsFit (with_wires w q)
wire_fits w q fit same = record {
  apart = subst (λ (names : List (List ℕ)). AreApart names (task_names w.templates.tasks)) (ap task_names (sym same)) fit.apart;
  not_ns = fit.not_ns;
  raw_or_async = fit.raw_or_async;
}

part_fits : (tasks templates : Plan) (on_template : Bool) (q : Plan) → PartsFit (record { tasks = tasks; templates = templates; on_template = on_template })
    → SameHeads (part (record { tasks = tasks; templates = templates; on_template = on_template })).tasks q.tasks → PartsFit (with_part (record { tasks = tasks; templates = templates; on_template = on_template }) q)
part_fits tasks templates true q fit same = record {
  apart = subst (AreApart (task_names tasks.tasks)) (sym same.0) fit.apart;
  not_ns = subst (All (λ (name : List ℕ). name ≢ ns_name)) (sym same.0) fit.not_ns;
  raw_or_async = subst (All IsRawOrAsync) (sym same.1) fit.raw_or_async;
}
part_fits tasks templates false q fit same = record {
  apart = subst (λ (names : List (List ℕ)). AreApart names (task_names templates.tasks)) (sym same.0) fit.apart;
  not_ns = fit.not_ns;
  raw_or_async = fit.raw_or_async;
}

ns_made : (w : ScriptParts) (q : Plan) (words : List (List ℕ)) → ns w words ≡ Ok q → with_service w.tasks ≡ q
unfolding ns
ns_made w q words e = made_is (with_service w.tasks) q (alone_ok (stands_first (script_of_parts w)) words (given (with_service w.tasks)) q e)

module _ (w v : ScriptParts) (fit : PartsFit w) where
  verb_fits : (verb : Option Verb) (words : List (List ℕ)) → after_verb w verb words ≡ Ok v → PartsFit v
  verb_fits None words e = absurd cc
  verb_fits (Some first.Ns) words e =
      let got = given_by (ns w words) (with_tasks w) v e in
      subst PartsFit (ap (with_tasks w) (ns_made w got.0 words got.1) ∙ got.2) (service_fits w fit)
  verb_fits (Some first.Task) words e =
      let got = given_by (task (task_names w.templates.tasks) w.tasks words) (with_tasks w) v e in
      subst PartsFit got.2 (task_fits w got.0 fit (task_keeps (task_names w.templates.tasks) w.tasks got.0 words got.1))
  verb_fits (Some first.Template) words e =
      let got = given_by (template (task_names w.tasks.tasks) w.templates words) (with_templates w) v e in
      subst PartsFit got.2 (template_fits w got.0 fit (template_keeps (task_names w.tasks.tasks) w.templates got.0 words got.1))
  verb_fits (Some first.Fibril) words e =
      let got = given_by (body (part w) false words) (with_part w) v e in
      subst PartsFit got.2 (part_fits w.tasks w.templates w.on_template got.0 fit (body_keeps (part w) got.0 false words got.1))
  verb_fits (Some first.Connection) words e =
      let got = given_by (body (part w) true words) (with_part w) v e in
      subst PartsFit got.2 (part_fits w.tasks w.templates w.on_template got.0 fit (body_keeps (part w) got.0 true words got.1))
  verb_fits (Some first.Wire) words e =
      let got = given_by (wire w.tasks words) (with_wires w) v e in
      subst PartsFit got.2 (wire_fits w got.0 fit (wire_keeps w.tasks got.0 words got.1))
  verb_fits (Some (first.Op verb)) words e =
      let got = given_by (operation (part w) verb words) (with_part w) v e in
      subst PartsFit got.2 (part_fits w.tasks w.templates w.on_template got.0 fit (operation_keeps (part w) got.0 verb words got.1))

  words_fit : (words : List (List ℕ)) → after_words w words ≡ Ok v → PartsFit v
  words_fit [] e = subst PartsFit (made_is w v e) fit
  words_fit (first ∷ others) e = verb_fits (verb_of first) others e

  pub line_fits : (line : List ℕ) → after_line w line ≡ Ok v → PartsFit v
  unfolding after_line
  line_fits line e = words_fit (words line) (chosen_ok (list_all is_allowed line) (after_words w (words line)) v e)

pub nothing_fits : PartsFit no_parts
nothing_fits = record { apart = λ k d lt. absurd (omega arith); not_ns = λ k d lt. absurd (omega arith); raw_or_async = λ k d lt. absurd (omega arith) }

-- ---- the whole script

pub script_is_sound : (a b : Draft) (on_template : Bool) (tasks templates : List TaskPlan) (wires : List Wire) → IsWhole a → IsWhole b → PartsFit (record { tasks = plan_of a; templates = plan_of b; on_template = on_template })
    → tasks ≡ (plan_of a).tasks → wires ≡ (plan_of a).wires → templates ≡ (plan_of b).tasks → IsSound (record { tasks = tasks; wires = wires; templates = templates })
script_is_sound a b on_template tasks templates wires first second fit tasks_are wires_are templates_are = rw (tasks_are, wires_are, templates_are) (record {
  few = first.sound.few;
  names_differ = first.sound.names_differ;
  sound_tasks = first.sound.sound_tasks;
  service_is_first = first.sound.service_is_first;
  wires_lead = first.sound.wires_lead;
  phones_differ = first.sound.phones_differ;
  beside_service = first.sound.beside_service;
  few_templates = second.sound.few;
  template_names_differ = second.sound.names_differ;
  templates_apart = fit.apart;
  sound_templates = second.sound.sound_tasks;
  raw_or_async = fit.raw_or_async;
})
