-- What each step of a draft makes of it.
use Rattle.std.proofs.Common.{◌≡◌, ◌≢◌, ℕ, ◌+◌, ◌-◌, ◌<◌, true, false, List, [], ◌∷◌, ◌++◌, length, Option, Some, None, Bool, Result, Ok, Err, refl, sym, ap, subst, ◌∙◌, arith}
use Rattle.std.specs.Prelude.{is_some, OnOk, IfSome, option_map, ⊤}
use Rattle.std.specs.Option.{option_and_then, option_map_or}
use Rattle.std.proofs.lemmas.Bool.{ne_eqb}
use Rattle.std.proofs.lemmas.List.{map_push, length-map}
use Rattle.ipc_ids.specs.declared.op.Op.{Op}
use Rattle.ipc_ids.specs.declared.op.Body.{Body}
use Rattle.script_lines.specs.declared.fault.Reason.{Reason}
use Rattle.script_lines.specs.declared.fault.Reason.TheVariants.{OutOfPlace}
use Rattle.script_lines.specs.declared.fault.LineFault.{LineFault}
use Rattle.script_lines.specs.declared.fault.LineFault.TheVariants.{Bad, NoMemory}
use Rattle.script_lines.specs.declared.plan.Kind.TheVariants.{Naming}
use Rattle.script_lines.specs.declared.plan.TaskPlan.{TaskPlan}
use Rattle.script_lines.specs.declared.plan.Wire.{Wire}
use Rattle.script_lines.specs.declared.draft.LastTask.{LastTask}
use Rattle.script_lines.specs.declared.draft.Draft.{Draft}
use Rattle.script_lines.specs.Draft.{last_plan, last_plans, plan_of, IsWhole, HasLast, HasLastBody, on_last, last_of, if_any, open_kind, is_async, is_full, present, last_is_async, takes_bodies, taken_by, taker, body_with_op, task_with_op, with_op, task_with_body, with_body, service, leads_to_service, HasHeadOf, Follows, limit_at, is_wired}
use Rattle.script_lines.specs.Operation.{◌>>=◌}
use Rattle.script_lines.specs.Names.{place_of, task_names}
use Rattle.script_lines.specs.Plan.{Plan}
use Rattle.script_lines.specs.Ranges.{IsOpOf}
use Rattle.script_lines.specs.Sound.{IsSoundTask, has_service}
use Rattle.script_lines.proofs.Soundness.{op_sound, body_sound, with_service_sound, with_task_sound, with_wire_sound, with_last_sound, names_same, leads_within}

-- ---- the last task

abbrev plan_with : List Wire → List TaskPlan → Plan
plan_with wires tasks = record { tasks = tasks; wires = wires; templates = [] }

put_front : {A : Type 0} (x : A) (xs : List A) (r : Result A Reason) → ((r >>= λ y. Ok (xs ++ y ∷ [])) >>= λ changed. Ok (x ∷ changed)) ≡ (r >>= λ y. Ok (x ∷ xs ++ y ∷ []))
put_front x xs (Ok y) = refl
put_front x xs (Err e) = refl

on_last_push : {A : Type 0} (change : A → Result A Reason) (xs : List A) (x : A) → on_last change (xs ++ x ∷ []) ≡ (change x >>= λ y. Ok (xs ++ y ∷ []))
on_last_push change [] x = refl
on_last_push change (a ∷ []) x = put_front a [] (change x)
on_last_push change (a ∷ b ∷ xs) x = ap (λ r. r >>= λ changed. Ok (a ∷ changed)) (on_last_push change (b ∷ xs) x) ∙ put_front a (b ∷ xs) (change x)

-- a call that changes the last, as the code makes it
last_follows : {A : Type 0} (change : A → Result A Reason) (done : List A) (x y : A) (r : Result ⊤ LineFault) → Follows r y (change x) → Follows r (done ++ y ∷ []) (on_last change (done ++ x ∷ []))
last_follows change done x y (Ok u) h = rw (on_last_push change done x, h) refl
last_follows change done x y (Err (Bad reason)) h = rw (on_last_push change done x, h) refl
last_follows change done x y (Err NoMemory) h = tt

-- a call on a part
part_follows : {A B : Type 0} (put : A → B) (y : A) (said : Result A Reason) (r : Result ⊤ LineFault) → Follows r y said → Follows r (put y) (said >>= λ z. Ok (put z))
part_follows put y said (Ok u) h = rw h refl
part_follows put y said (Err (Bad reason)) h = rw h refl
part_follows put y said (Err NoMemory) h = tt

plan_follows : (done : List TaskPlan) (wires : List Wire) (change : TaskPlan → Result TaskPlan Reason) (t u : TaskPlan) (r : Result ⊤ LineFault) → Follows r u (change t)
    → Follows r (plan_with wires (done ++ u ∷ [])) (on_last change (done ++ t ∷ []) >>= λ tasks. Ok (plan_with wires tasks))
plan_follows done wires change t u r h = part_follows (plan_with wires) (done ++ u ∷ []) (on_last change (done ++ t ∷ [])) r (last_follows change done t u r h)

pub op_follows : (done : List TaskPlan) (wires : List Wire) (t u : TaskPlan) (op : Op) (r : Result ⊤ LineFault) → Follows r u (task_with_op op t) → Follows r (plan_with wires (done ++ u ∷ [])) (with_op (plan_with wires (done ++ t ∷ [])) op)
unfolding with_op
op_follows done wires t u op r h = plan_follows done wires (task_with_op op) t u r h

pub body_follows : (done : List TaskPlan) (wires : List Wire) (t u : TaskPlan) (connection : Bool) (r : Result ⊤ LineFault) → Follows r u (task_with_body connection t) → Follows r (plan_with wires (done ++ u ∷ [])) (with_body (plan_with wires (done ++ t ∷ [])) connection)
unfolding with_body
body_follows done wires t u connection r h = plan_follows done wires (task_with_body connection) t u r h

pub task_follows : (task : TaskPlan) (done : List Body) (old new : Body) (op : Op) (r : Result ⊤ LineFault) → Follows r new (body_with_op op old) → Follows r (record task { bodies = done ++ new ∷ [] }) (task_with_op op (record task { bodies = done ++ old ∷ [] }))
task_follows task done old new op r h = part_follows (λ (bodies : List Body). record task { bodies = bodies }) (done ++ new ∷ []) (on_last (body_with_op op) (done ++ old ∷ [])) r (last_follows (body_with_op op) done old new r h)

-- without a last one there is none
pub none_left : {A B : Type 0} (last : Option A) (done : List B) → last ≡ None → HasLast last done → done ≡ []
none_left None done is empty = empty
none_left (Some x) done is empty = absurd cc

pub no_op_follows : (last : LastTask) (op : Op) → last.body ≡ None → HasLastBody last → task_with_op op (last_plan last) ≡ Err OutOfPlace
no_op_follows last op none whole =
    let empty = none_left last.body last.bodies none whole in
    rw (none, empty) refl

pub op_whole : (last : LastTask) (old new : Body) (op : Op) (r : Result ⊤ LineFault) → last.body ≡ Some old → IsSoundTask (last_plan last) → IfSome (taken_by last) (λ kind. IsOpOf kind op) → Follows r new (body_with_op op old)
    → OnOk r (IsSoundTask (last_plan (record last { body = Some new })) × HasLastBody (record last { body = Some new }))
op_whole last old new op r is sound takes told =
    let open_sound = subst (λ (body : Option Body). IsSoundTask (record { name = last.name; kind = last.kind; limit = last.limit; bodies = last.bodies ++ if_any body; blocks = last.blocks; service = last.service })) is sound in
    let taken = subst (λ (body : Option Body). IfSome (option_map (λ _. last.kind) body) (λ kind. IsOpOf kind op)) is takes in
    and_there r (op_sound (last_plan last) last.bodies old new op r open_sound told taken) where
      and_there : (r : Result ⊤ LineFault) → OnOk r (IsSoundTask (last_plan (record last { body = Some new }))) → OnOk r (IsSoundTask (last_plan (record last { body = Some new })) × HasLastBody (record last { body = Some new }))
      and_there (Ok x) sound = (sound, tt)
      and_there (Err e) sound = tt

pub new_body_whole : (old mid : LastTask) (connection : Bool) (ops : List Op) → IsSoundTask (last_plan old) → is_async old.kind ≡ true → HasHeadOf (last_plan old) (last_plan mid) → mid.bodies ≡ old.bodies ++ if_any old.body → ops ≡ [] → is_full connection mid.bodies ≡ false
    → IsSoundTask (last_plan (record mid { body = Some (record { connection = connection; ops = ops }) })) × HasLastBody (record mid { body = Some (record { connection = connection; ops = ops }) })
new_body_whole old mid connection ops sound async head bodies_is none room =
    let room_before = subst (λ (bodies : List Body). is_full connection bodies ≡ false) bodies_is room in
    (rw (head.name, head.kind, head.limit, bodies_is, none, head.blocks, head.service) (body_sound (last_plan old) connection sound async room_before), tt)

-- a task that begins has no bodies before its last one
pub none_before : {A B : Type 0} (last : Option A) (done : List B) → done ≡ [] → HasLast last done
none_before None done empty = empty
none_before (Some x) done empty = tt

pub last_whole : (done : List TaskPlan) (wires : List Wire) (names : List (List ℕ)) (old new : LastTask) (r : Result ⊤ LineFault) → IsWhole (record { done = done; last = Some old; wires = wires; names = names })
    → HasHeadOf (last_plan old) (last_plan new) → OnOk r (IsSoundTask (last_plan new) × HasLastBody new) → OnOk r (IsWhole (record { done = done; last = Some new; wires = wires; names = names }))
last_whole done wires names old new (Ok x) w head sound = record {
  names = w.names ∙ sym (names_same done (last_plan old) (last_plan new) head.name);
  last = tt;
  last_body = sound.1;
  sound = with_last_sound done (last_plan old) (last_plan new) wires head w.sound sound.0;
}
last_whole done wires names old new (Err e) w head sound = tt

-- ---- the kind of the last task

pub last_of_push : {A : Type 0} (xs : List A) (x : A) → last_of (xs ++ x ∷ []) ≡ Some x
last_of_push [] x = refl
last_of_push (y ∷ []) x = refl
last_of_push (y ∷ z ∷ zs) x = last_of_push (z ∷ zs) x

open_kind_is : (last : LastTask) → HasLastBody last → open_kind (last_plan last) ≡ taken_by last
open_kind_is last whole = go last.body whole where
  go : (body : Option Body) → HasLast body last.bodies → option_map (λ _. last.kind) (last_of (last.bodies ++ if_any body)) ≡ option_map (λ _. last.kind) body
  go None empty = rw empty refl
  go (Some body) there = ap (option_map (λ _. last.kind)) (last_of_push last.bodies body)

pub present_is : (draft : Draft) → IsWhole draft → present (plan_of draft) ≡ taker draft
unfolding present
present_is draft w = go draft.last w.last w.last_body where
  go : (last : Option LastTask) → HasLast last draft.done → IfSome last HasLastBody → option_and_then open_kind (last_of (draft.done ++ last_plans last)) ≡ option_and_then taken_by last
  go None empty whole = rw empty refl
  go (Some last) there whole = ap (option_and_then open_kind) (last_of_push draft.done (last_plan last)) ∙ open_kind_is last whole

pub takes_bodies_is : (draft : Draft) → IsWhole draft → takes_bodies (plan_of draft) ≡ last_is_async draft
unfolding takes_bodies
takes_bodies_is draft w = go draft.last w.last where
  go : (last : Option LastTask) → HasLast last draft.done → option_map_or (λ task. is_async task.kind) (last_of (draft.done ++ last_plans last)) false ≡ option_map_or (λ last. is_async last.kind) last false
  go None empty = rw empty refl
  go (Some last) there = ap (λ (o : Option TaskPlan). option_map_or (λ task. is_async task.kind) o false) (last_of_push draft.done (last_plan last))

-- ---- one more task

pub task_whole : (old : Draft) (last : LastTask) (done : List TaskPlan) (wires : List Wire) (names : List (List ℕ)) → IsWhole old → done ≡ (plan_of old).tasks → wires ≡ old.wires → names ≡ old.names ++ last.name ∷ []
    → length old.names < 64 → is_some (place_of old.names last.name) ≡ false → last.kind ≢ Naming → IsSoundTask (last_plan last) → HasLastBody last → IsWhole (record { done = done; last = Some last; wires = wires; names = names })
task_whole old last done wires names w done_is wires_is names_is room new not_naming sound body =
    let tasks = (plan_of old).tasks in
    let len : length old.names ≡ length tasks = ap length w.names ∙ length-map tasks (λ (t : TaskPlan). t.name) in
    record {
      names = names_is ∙ ap (λ (ns : List (List ℕ)). ns ++ last.name ∷ []) w.names ∙ sym (map_push (λ (t : TaskPlan). t.name) tasks (last_plan last)) ∙ ap (λ (ts : List TaskPlan). task_names (ts ++ last_plan last ∷ [])) (sym done_is);
      last = tt;
      last_body = body;
      sound = rw (done_is, wires_is) (with_task_sound tasks old.wires (last_plan last) w.sound (omega arith) (subst (λ (ns : List (List ℕ)). is_some (place_of ns last.name) ≡ false) w.names new) not_naming sound);
    }

pub service_whole : (old : Draft) (last : LastTask) (done : List TaskPlan) (wires : List Wire) (names : List (List ℕ)) → IsWhole old → done ≡ (plan_of old).tasks → wires ≡ old.wires → names ≡ old.names ++ last.name ∷ []
    → length old.names ≡ 0 → last_plan last ≡ service → HasLastBody last → IsWhole (record { done = done; last = Some last; wires = wires; names = names })
service_whole old last done wires names w done_is wires_is names_is none is body =
    let tasks = (plan_of old).tasks in
    let len : length old.names ≡ length tasks = ap length w.names ∙ length-map tasks (λ (t : TaskPlan). t.name) in
    record {
      names = names_is ∙ ap (λ (ns : List (List ℕ)). ns ++ last.name ∷ []) w.names ∙ sym (map_push (λ (t : TaskPlan). t.name) tasks (last_plan last)) ∙ ap (λ (ts : List TaskPlan). task_names (ts ++ last_plan last ∷ [])) (sym done_is);
      last = tt;
      last_body = body;
      sound = rw (done_is, wires_is, is) (with_service_sound tasks old.wires w.sound (omega arith));
    }

-- ---- one more wire

-- a phone that does not lead to the service from the start
beside : (tasks : List TaskPlan) (from phone : ℕ) → leads_to_service tasks from phone ≡ false → has_service tasks ≡ true → from + 1 ≢ 1 → phone ≢ 0
beside tasks from phone free has other none =
    let test : leads_to_service tasks from phone ≡ true = rw (has, ne_eqb from 0 (omega (arith, other)), none) refl in
    absurd cc

pub wire_whole : (old : Draft) (wires : List Wire) (from phone to : ℕ) → IsWhole old → wires ≡ old.wires ++ record { from = record { 0 = from + 1 }; phone = record { 0 = phone }; to = record { 0 = to + 1 } } ∷ []
    → from < length old.names → to < length old.names → phone < limit_at (plan_of old).tasks from → is_wired old.wires (from + 1) phone ≡ false → leads_to_service (plan_of old).tasks from phone ≡ false → IsWhole (record old { wires = wires })
wire_whole old wires from phone to w wires_is from_there to_there below new free =
    let tasks = (plan_of old).tasks in
    let len : length old.names ≡ length tasks = ap length w.names ∙ length-map tasks (λ (t : TaskPlan). t.name) in
    let wire : Wire = record { from = record { 0 = from + 1 }; phone = record { 0 = phone }; to = record { 0 = to + 1 } } in
    let back : from + 1 - 1 ≡ from = omega arith in
    record {
      names = w.names;
      last = w.last;
      last_body = w.last_body;
      sound = rw wires_is (with_wire_sound tasks old.wires wire w.sound (record {
        from_task = (omega arith, omega arith);
        to_task = (omega arith, omega arith);
        in_range = λ d. rw back (leads_within tasks from phone (omega arith) below d);
      }) (beside tasks from phone free) new);
    }
