-- Scripts stay sound as lines add to them.
use Rattle.std.proofs.Common.{◌≡◌, ◌≢◌, ℕ, zero, suc, ◌+◌, ◌-◌, ◌<◌, ◌≤◌, Bool, true, false, not, cond, leb, leb-false, List, Result, Ok, Err, [], ◌∷◌, ◌++◌, length, get_or, take, length-take-le, Option, Some, None, refl, sym, ap, subst, ◌∙◌, inl, inr, arith, length-append, ◌&&◌, eqb}
use Rattle.std.specs.Prelude.{position, is_some, All, OnOk, ⊤, count_by, slice_get}
use Rattle.std.specs.List.{position_or_len}
use Rattle.std.specs.Option.{option_map_or}
use Rattle.std.specs.Str.{bytes_eq}
use Rattle.std.proofs.Math.ListN.{get_or-append}
use Rattle.std.proofs.lemmas.Bool.{cases_lt, lt-ltb, le-ltb, eq-eqb, and_from, false_from_ne_true}
use Rattle.std.proofs.lemmas.List.{get_or-take}
use Rattle.std.proofs.lemmas.List.Elements.{All-push, All-weaker}
use Rattle.std.proofs.lemmas.List.Quantifiers.{all_pairs_push}
use Rattle.std.proofs.lemmas.List.Folds.{list_any_at}
use Rattle.std.proofs.lemmas.List.Sums.{fails_before_first, position_or_len_is, sum_by_push}
use Rattle.std.proofs.lemmas.Option.{get_or_from_slice_get}
use Rattle.std.proofs.lemmas.Slice.Eq.{bytes_eq-Decides}
use Rattle.ipc_ids.specs.declared.op.Op.{Op}
use Rattle.ipc_ids.specs.declared.op.Body.{Body}
use Rattle.script_lines.specs.declared.fault.Reason.{Reason}
use Rattle.script_lines.specs.declared.fault.Reason.TheVariants.{TooMany}
use Rattle.script_lines.specs.declared.fault.LineFault.{LineFault}
use Rattle.script_lines.specs.declared.plan.Kind.{Kind}
use Rattle.script_lines.specs.declared.plan.Kind.TheVariants.{Naming, Raw, Async, Block}
use Rattle.script_lines.specs.declared.plan.TaskPlan.{TaskPlan}
use Rattle.script_lines.specs.declared.plan.Wire.{Wire}
use Rattle.script_lines.specs.declared.draft.TaskHead.{TaskHead}
use Rattle.script_lines.specs.Draft.{is_wired, limit_at, if_any, first_body, new_task, service, is_async, is_full, body_with_op, HasHeadOf, Follows}
use Rattle.script_lines.specs.Names.{ns_name, is_ns, place_of, task_names}
use Rattle.script_lines.specs.Ranges.{IsOpOf}
use Rattle.script_lines.specs.Sound.{HeadFits, IsRawBody, IsAsyncBody, IsTaskOf, fibrils, connections, IsSoundTask, IsBesideService, Leads, NamesDiffer, IsSound, is_naming, has_service}
use Rattle.script_lines.proofs.Places.{position_through}

-- ---- one task

abbrev given : {A : Type 0} → A → Result A Reason
given x = Ok x

pub made_is : {A : Type 0} (x y : A) → given x ≡ given y → x ≡ y
made_is x y e = cc

pub all_one : {X : Type 0} (P : X → Type 0) (x : X) → P x → All P (x ∷ [])
all_one P x h zero d lt = h
all_one P x h (suc k) d lt = absurd (omega arith)

-- a body that took one more operation
body_grows : (op : Op) (old new : Body) → body_with_op op old ≡ Ok new → (length old.ops < 4096) × (new.connection ≡ old.connection) × (new.ops ≡ old.ops ++ op ∷ [])
body_grows op old new e = go (leb 4096 (length old.ops)) refl e where
  longer : Body
  longer = record old { ops = old.ops ++ op ∷ [] }

  go : (b : Bool) → leb 4096 (length old.ops) ≡ b → cond b (Err TooMany) (Ok longer) ≡ Ok new → (length old.ops < 4096) × (new.connection ≡ old.connection) × (new.ops ≡ old.ops ++ op ∷ [])
  go true is told = absurd cc
  go false is told = let same : longer ≡ new = made_is longer new told in (leb-false _ _ is, ap (λ (b : Body). b.connection) (sym same), ap (λ (b : Body). b.ops) (sym same))

-- the operations of a body of a task of this kind
abbrev HasOps : Kind → Body → Type 0
HasOps kind body = (length body.ops ≤ 4096) × All (IsOpOf kind) body.ops

ops_grow : (kind : Kind) (op : Op) (old new : Body) → body_with_op op old ≡ Ok new → IsOpOf kind op → HasOps kind old → HasOps kind new
ops_grow kind op old new told is ops =
    let grown = body_grows op old new told in
    let len : length new.ops ≡ length old.ops + 1 = ap length grown.2 ∙ length-append old.ops (op ∷ []) in
    (omega (arith, grown.0), rw grown.2 (All-push (IsOpOf kind) old.ops op ops.1 is))

no_ops : (kind : Kind) (connection : Bool) → HasOps kind (record { connection = connection; ops = [] })
no_ops kind connection = (omega arith, λ k d lt. absurd (omega arith))

ops_of_raw : (body : Body) → IsRawBody body → HasOps Raw body
ops_of_raw body raw = (raw.few, λ k d lt. (raw.raw_ops k d lt, raw.ranges k d lt))

raw_body : (body : Body) → body.connection ≡ false → HasOps Raw body → IsRawBody body
raw_body body none ops = record { no_connection = none; few = ops.0; ranges = λ k d lt. (ops.1 k d lt).1; raw_ops = λ k d lt. (ops.1 k d lt).0 }

ops_of_async : (body : Body) → IsAsyncBody body → HasOps Async body
ops_of_async body fibril = (fibril.few, λ k d lt. (fibril.async_ops k d lt, fibril.ranges k d lt))

async_body : (body : Body) → HasOps Async body → IsAsyncBody body
async_body body ops = record { few = ops.0; ranges = λ k d lt. (ops.1 k d lt).1; async_ops = λ k d lt. (ops.1 k d lt).0 }

-- ---- the last of a list

front_all : {X : Type 0} (P : X → Type 0) (xs : List X) (x : X) → All P (xs ++ x ∷ []) → All P xs
front_all P xs x all k d lt = subst P (get_or-append xs (x ∷ []) d k lt) (all k d (omega (arith, lt, length-append xs (x ∷ []))))

pub last_all : {X : Type 0} (P : X → Type 0) (xs : List X) (x : X) → All P (xs ++ x ∷ []) → P x
last_all P [] x all = all 0 x (omega arith)
last_all P (y ∷ ys) x all = last_all P ys x (λ k d lt. all (suc k) d (omega arith))

count_push : {X : Type 0} (p : X → Bool) (xs : List X) (x : X) → count_by p (xs ++ x ∷ []) ≡ count_by p xs + cond (p x) 1 0
count_push p xs x = sum_by_push (λ y. cond (p y) 1 0) xs x

count_last : {X : Type 0} (p : X → Bool) (xs : List X) (x y : X) → p y ≡ p x → count_by p (xs ++ y ∷ []) ≡ count_by p (xs ++ x ∷ [])
count_last p xs x y same = count_push p xs y ∙ ap (λ (b : Bool). count_by p xs + cond b 1 0) same ∙ sym (count_push p xs x)

-- ---- one more operation of a task's last body

pub op_sound : (task : TaskPlan) (done : List Body) (old new : Body) (op : Op) (r : Result ⊤ LineFault) → IsSoundTask (record task { bodies = done ++ old ∷ [] }) → Follows r new (body_with_op op old) → IsOpOf task.kind op → OnOk r (IsSoundTask (record task { bodies = done ++ new ∷ [] }))
op_sound task done old new op (Ok x) sound told is = record { some_phones = sound.some_phones; few_phones = sound.few_phones; of_kind = go task.kind sound.of_kind is } where
  same : new.connection ≡ old.connection
  same = (body_grows op old new told).1

  go : (kind : Kind) → IsTaskOf kind (record task { bodies = done ++ old ∷ [] }) → IsOpOf kind op → IsTaskOf kind (record task { bodies = done ++ new ∷ [] })
  go Naming naming is = absurd is
  go Block block is = absurd is
  go Raw raw is =
      let last = last_all IsRawBody done old raw.raw_bodies in
      record {
        not_ns = raw.not_ns;
        some_phones = raw.some_phones;
        few_phones = raw.few_phones;
        one_body = length-append done (new ∷ []) ∙ sym (length-append done (old ∷ [])) ∙ raw.one_body;
        raw_bodies = All-push IsRawBody done new (front_all IsRawBody done old raw.raw_bodies) (raw_body new (same ∙ last.no_connection) (ops_grow Raw op old new told is (ops_of_raw old last)));
      }
  go Async fibril is =
      let last = last_all IsAsyncBody done old fibril.async_bodies in
      record {
        not_ns = fibril.not_ns;
        some_phones = fibril.some_phones;
        few_phones = fibril.few_phones;
        few_fibrils = rw (count_last (λ (b : Body). not b.connection) done old new (ap not same)) fibril.few_fibrils;
        one_connection = rw (count_last (λ (b : Body). b.connection) done old new same) fibril.one_connection;
        async_bodies = All-push IsAsyncBody done new (front_all IsAsyncBody done old fibril.async_bodies) (async_body new (ops_grow Async op old new told is (ops_of_async old last)));
      }
op_sound task done old new op (Err e) sound told is = tt

-- ---- one more body

more_fibrils : (connection : Bool) (bodies : List Body) → is_full connection bodies ≡ false → fibrils bodies ≤ 16 → fibrils (bodies ++ record { connection = connection; ops = [] } ∷ []) ≤ 16
more_fibrils true bodies room few = rw (count_push (λ (b : Body). not b.connection) bodies (record { connection = true; ops = [] })) (omega arith)
more_fibrils false bodies room few = rw (count_push (λ (b : Body). not b.connection) bodies (record { connection = false; ops = [] })) (omega (arith, leb-false _ _ room))

more_connections : (connection : Bool) (bodies : List Body) → is_full connection bodies ≡ false → connections bodies ≤ 1 → connections (bodies ++ record { connection = connection; ops = [] } ∷ []) ≤ 1
more_connections true bodies room few = rw (count_push (λ (b : Body). b.connection) bodies (record { connection = true; ops = [] })) (omega (arith, leb-false _ _ room))
more_connections false bodies room few = rw (count_push (λ (b : Body). b.connection) bodies (record { connection = false; ops = [] })) (omega arith)

pub body_sound : (task : TaskPlan) (connection : Bool) → IsSoundTask task → is_async task.kind ≡ true → is_full connection task.bodies ≡ false → IsSoundTask (record task { bodies = task.bodies ++ record { connection = connection; ops = [] } ∷ [] })
body_sound task connection sound async room = record { some_phones = sound.some_phones; few_phones = sound.few_phones; of_kind = go task.kind async sound.of_kind } where
  longer : TaskPlan
  longer = record task { bodies = task.bodies ++ record { connection = connection; ops = [] } ∷ [] }

  go : (kind : Kind) → is_async kind ≡ true → IsTaskOf kind task → IsTaskOf kind longer
  go Naming async naming = absurd cc
  go Raw async raw = absurd cc
  go Block async block = absurd cc
  go Async async fibril = record {
    not_ns = fibril.not_ns;
    some_phones = fibril.some_phones;
    few_phones = fibril.few_phones;
    few_fibrils = more_fibrils connection task.bodies room fibril.few_fibrils;
    one_connection = more_connections connection task.bodies room fibril.one_connection;
    async_bodies = All-push IsAsyncBody task.bodies _ fibril.async_bodies (async_body _ (no_ops Async connection));
  }

-- ---- a task as its line makes it

pub new_task_sound : (head : TaskHead) → head.name ≢ ns_name → HeadFits head.kind head → IsSoundTask (new_task head)
new_task_sound head other within = record { some_phones = some head.kind within; few_phones = few head.kind within; of_kind = go head.kind within } where
  some : (kind : Kind) → HeadFits kind head → 1 ≤ head.limit
  some Naming within = absurd within
  some Raw within = within.0
  some Async within = within.0
  some Block within = omega (arith, within.0)

  few : (kind : Kind) → HeadFits kind head → head.limit ≤ 64
  few Naming within = absurd within
  few Raw within = within.1
  few Async within = within.1
  few Block within = omega (arith, within.0)

  go : (kind : Kind) → HeadFits kind head → IsTaskOf kind (record (new_task head) { bodies = if_any (first_body kind) })
  go Naming within = absurd within
  go Raw within = record { not_ns = other; some_phones = within.0; few_phones = within.1; one_body = refl; raw_bodies = all_one IsRawBody _ (raw_body _ refl (no_ops Raw false)) }
  go Async within = record {
    not_ns = other;
    some_phones = within.0;
    few_phones = within.1;
    few_fibrils = omega arith;
    one_connection = omega arith;
    async_bodies = λ k d lt. absurd (omega arith);
  }
  go Block within = record { not_ns = other; limit = within.0; blocks = within.1; no_bodies = refl }

service_sound : IsSoundTask service
service_sound = record { some_phones = omega arith; few_phones = omega arith; of_kind = record { name = refl; limit = refl; no_bodies = refl } }

-- ---- names

pub other_name : (name : List ℕ) → is_ns name ≡ false → name ≢ ns_name
other_name name e same = let passes = (bytes_eq-Decides name ns_name).1 same in absurd cc

-- no place: no element passes
pub none_passes : {X : Type 0} (p : X → Bool) (xs : List X) → is_some (position p xs) ≡ false → length xs ≤ position_or_len p xs
none_passes p xs e =
    elim (cases_lt (position_or_len p xs) (length xs)) [
      | inl lt ↦ absurd (let t : is_some (position p xs) ≡ true = ap (λ (b : Bool). is_some (cond b (Some (position_or_len p xs)) None)) (lt-ltb _ _ lt) in cc)
      | inr le ↦ le
    ]

name_is_new : (tasks : List TaskPlan) (name : List ℕ) → is_some (place_of (task_names tasks) name) ≡ false → (k : ℕ) (d : TaskPlan) → k < length tasks → (get_or tasks k d).name ≢ name
name_is_new tasks name e k d lt same =
    let passes_by : TaskPlan → Bool = λ (t : TaskPlan). bytes_eq name t.name in
    let through = position_through (λ (t : TaskPlan). t.name) (bytes_eq name) tasks in
    let past = none_passes (λ (t : TaskPlan). bytes_eq name t.name) tasks (ap is_some through ∙ e) in
    let fails = fails_before_first (λ (t : TaskPlan). bytes_eq name t.name) tasks k d (omega arith) in
    let passes = (bytes_eq-Decides name (get_or tasks k d).name).1 (sym same) in
    absurd cc

-- nothing passes: there is no place
none_is : {X : Type 0} (p : X → Bool) (xs : List X) (d : X) → ((k : ℕ) → k < length xs → p (get_or xs k d) ≡ false) → is_some (position p xs) ≡ false
none_is p xs d fails =
    let end = position_or_len_is p xs (length xs) d (omega arith) fails (λ lt. absurd (omega arith)) in
    ap (λ (b : Bool). is_some (cond b (Some (position_or_len p xs)) None)) (le-ltb (position_or_len p xs) (length xs) (omega arith))

-- the names of the tasks before one do not have its name
pub name_before_is_new : (tasks : List TaskPlan) (i : ℕ) (d : TaskPlan) → NamesDiffer tasks → i < length tasks → is_some (place_of (task_names (take i tasks)) (get_or tasks i d).name) ≡ false
name_before_is_new tasks i d differ lt =
    let name = (get_or tasks i d).name in
    let len = length-take-le i tasks (omega arith) in
    let other : (k : ℕ) → k < i → bytes_eq name (get_or tasks k d).name ≡ true → ⊥ = λ k below same. differ k i d below lt (sym ((bytes_eq-Decides name (get_or tasks k d).name).0 same)) in
    let fails : (k : ℕ) → k < length (take i tasks) → bytes_eq name (get_or (take i tasks) k d).name ≡ false =
    λ k below. rw (get_or-take i tasks k d (omega arith)) (false_from_ne_true (bytes_eq name (get_or tasks k d).name) (other k (omega arith))) in
    ap is_some (sym (position_through (λ (t : TaskPlan). t.name) (bytes_eq name) (take i tasks))) ∙ none_is (λ (t : TaskPlan). bytes_eq name t.name) (take i tasks) d fails

-- ---- the parts of a sound script

leads_on : (tasks : List TaskPlan) (t : TaskPlan) (w : Wire) → Leads tasks w → Leads (tasks ++ t ∷ []) w
leads_on tasks t w l =
    let len = length-append tasks (t ∷ []) in
    record {
      from_task = (l.from_task.0, omega (arith, l.from_task.1));
      to_task = (l.to_task.0, omega (arith, l.to_task.1));
      in_range = λ d. rw (get_or-append tasks (t ∷ []) d (w.from.0 - 1) (omega (arith, l.from_task.0, l.from_task.1))) (l.in_range d);
    }

-- no wire is there where no task is
pub with_service_sound : (tasks : List TaskPlan) (wires : List Wire) → IsSound (record { tasks = tasks; wires = wires; templates = [] }) → length tasks ≡ 0 → IsSound (record { tasks = tasks ++ service ∷ []; wires = wires; templates = [] })
with_service_sound tasks wires s none =
    let len = length-append tasks (service ∷ []) in
    record {
      few = omega arith;
      names_differ = λ i j d lt below. absurd (omega arith);
      sound_tasks = All-push IsSoundTask tasks service s.sound_tasks service_sound;
      service_is_first = λ i j d lt below. absurd (omega arith);
      wires_lead = λ k d lt. absurd (let from = (s.wires_lead k d lt).from_task in omega (arith, from.0, from.1));
      phones_differ = s.phones_differ;
      few_templates = omega arith;
      template_names_differ = λ i j d lt below. absurd (omega arith);
      templates_apart = λ k d lt. absurd (omega arith);
      sound_templates = λ k d lt. absurd (omega arith);
      raw_or_async = λ k d lt. absurd (omega arith);
      beside_service = λ k d lt. absurd (let from = (s.wires_lead k d lt).from_task in omega (arith, from.0, from.1));
    }

-- the first task stays the first
service_stays : (tasks : List TaskPlan) (t : TaskPlan) → 1 ≤ length tasks → has_service (tasks ++ t ∷ []) ≡ has_service tasks
service_stays [] t some = absurd (omega arith)
service_stays (x ∷ xs) t some = refl

pub with_task_sound : (tasks : List TaskPlan) (wires : List Wire) (t : TaskPlan) → IsSound (record { tasks = tasks; wires = wires; templates = [] }) → length tasks < 64 → is_some (place_of (task_names tasks) t.name) ≡ false → t.kind ≢ Naming → IsSoundTask t
    → IsSound (record { tasks = tasks ++ t ∷ []; wires = wires; templates = [] })
with_task_sound tasks wires t s few new not_naming sound =
    let len = length-append tasks (t ∷ []) in
    record {
      few = omega arith;
      names_differ = all_pairs_push (λ a b. a.name ≢ b.name) tasks t s.names_differ (λ k d lt. name_is_new tasks t.name new k d lt);
      sound_tasks = All-push IsSoundTask tasks t s.sound_tasks sound;
      service_is_first = all_pairs_push (λ a b. b.kind ≢ Naming) tasks t s.service_is_first (λ k d lt. not_naming);
      wires_lead = All-weaker (Leads tasks) (Leads (tasks ++ t ∷ [])) (λ w l. leads_on tasks t w l) wires s.wires_lead;
      phones_differ = s.phones_differ;
      few_templates = omega arith;
      template_names_differ = λ i j d lt below. absurd (omega arith);
      templates_apart = λ k d lt. absurd (omega arith);
      sound_templates = λ k d lt. absurd (omega arith);
      raw_or_async = λ k d lt. absurd (omega arith);
      beside_service = λ k d lt has. let from = (s.wires_lead k d lt).from_task in s.beside_service k d lt (sym (service_stays tasks t (omega (arith, from.0, from.1))) ∙ has);
    }

phone_is_new : (wires : List Wire) (from phone : ℕ) → is_wired wires from phone ≡ false → (k : ℕ) (d : Wire) → k < length wires → (get_or wires k d).from.0 ≡ from → (get_or wires k d).phone.0 ≢ phone
phone_is_new wires from phone e k d lt same_from same =
    let found = list_any_at (λ (w : Wire). eqb w.from.0 from && eqb w.phone.0 phone) wires k d lt (and_from _ _ (eq-eqb _ _ same_from) (eq-eqb _ _ same)) in
    absurd cc

pub with_wire_sound : (tasks : List TaskPlan) (wires : List Wire) (w : Wire) → IsSound (record { tasks = tasks; wires = wires; templates = [] }) → Leads tasks w → IsBesideService tasks w → is_wired wires w.from.0 w.phone.0 ≡ false
    → IsSound (record { tasks = tasks; wires = wires ++ w ∷ []; templates = [] })
with_wire_sound tasks wires w s leads beside new = record {
  few = s.few;
  names_differ = s.names_differ;
  sound_tasks = s.sound_tasks;
  service_is_first = s.service_is_first;
  wires_lead = All-push (Leads tasks) wires w s.wires_lead leads;
  phones_differ = all_pairs_push (λ a b. a.from ≡ b.from → a.phone ≢ b.phone) wires w s.phones_differ (λ k d lt from phone. phone_is_new wires w.from.0 w.phone.0 new k d lt (ap (λ n. n.0) from) (ap (λ n. n.0) phone));
  few_templates = omega arith;
  template_names_differ = λ i j d lt below. absurd (omega arith);
  templates_apart = λ k d lt. absurd (omega arith);
  sound_templates = λ k d lt. absurd (omega arith);
  raw_or_async = λ k d lt. absurd (omega arith);
  beside_service = All-push (IsBesideService tasks) wires w s.beside_service beside;
}

-- a phone below the limit of a task that is found
pub leads_within : (tasks : List TaskPlan) (place phone : ℕ) → place < length tasks → phone < limit_at tasks place → (d : TaskPlan) → phone < (get_or tasks place d).limit
unfolding limit_at
leads_within tasks place phone within below d = below_limit (slice_get tasks place) refl below where
  below_limit : (o : Option TaskPlan) → slice_get tasks place ≡ o → phone < option_map_or (λ (task : TaskPlan). task.limit) o 0 → phone < (get_or tasks place d).limit
  below_limit (Some t) is lt = rw (get_or_from_slice_get tasks place t d is) lt
  below_limit None is lt = absurd (omega arith)

-- ---- a change of the last task

head_at : (done : List TaskPlan) (t u : TaskPlan) → HasHeadOf t u → (k : ℕ) (d : TaskPlan) → k < length (done ++ u ∷ []) → HasHeadOf (get_or (done ++ t ∷ []) k d) (get_or (done ++ u ∷ []) k d)
head_at [] t u head zero d lt = head
head_at [] t u head (suc k) d lt = absurd (omega arith)
head_at (x ∷ xs) t u head zero d lt = record { name = refl; kind = refl; limit = refl; blocks = refl; service = refl }
head_at (x ∷ xs) t u head (suc k) d lt = head_at xs t u head k d (omega arith)

same_service : (done : List TaskPlan) (t u : TaskPlan) → u.kind ≡ t.kind → has_service (done ++ u ∷ []) ≡ has_service (done ++ t ∷ [])
same_service [] t u kind = ap is_naming kind
same_service (x ∷ xs) t u kind = refl

pub with_last_sound : (done : List TaskPlan) (t u : TaskPlan) (wires : List Wire) → HasHeadOf t u → IsSound (record { tasks = done ++ t ∷ []; wires = wires; templates = [] }) → IsSoundTask u
    → IsSound (record { tasks = done ++ u ∷ []; wires = wires; templates = [] })
with_last_sound done t u wires same s sound =
    let len_t = length-append done (t ∷ []) in
    let len_u = length-append done (u ∷ []) in
    let head = head_at done t u same in
    record {
      few = omega (arith, s.few);
      names_differ = λ i j d lt below name. s.names_differ i j d lt (omega arith) (sym (head i d (omega arith)).name ∙ name ∙ (head j d (omega arith)).name);
      sound_tasks = All-push IsSoundTask done u (front_all IsSoundTask done t s.sound_tasks) sound;
      service_is_first = λ i j d lt below naming. s.service_is_first i j d lt (omega arith) (sym (head j d (omega arith)).kind ∙ naming);
      wires_lead = All-weaker (Leads (done ++ t ∷ [])) (Leads (done ++ u ∷ [])) (λ w l. record {
        from_task = (l.from_task.0, omega (arith, l.from_task.1));
        to_task = (l.to_task.0, omega (arith, l.to_task.1));
        in_range = λ d. rw (head (w.from.0 - 1) d (omega (arith, l.from_task.0, l.from_task.1))).limit (l.in_range d);
      }) wires s.wires_lead;
      phones_differ = s.phones_differ;
      few_templates = omega arith;
      template_names_differ = λ i j d lt below. absurd (omega arith);
      templates_apart = λ k d lt. absurd (omega arith);
      sound_templates = λ k d lt. absurd (omega arith);
      raw_or_async = λ k d lt. absurd (omega arith);
      beside_service = λ k d lt has. s.beside_service k d lt (sym (same_service done t u same.kind) ∙ has);
    }

pub names_same : (done : List TaskPlan) (t u : TaskPlan) → u.name ≡ t.name → task_names (done ++ u ∷ []) ≡ task_names (done ++ t ∷ [])
names_same [] t u name = ap (λ (n : List ℕ). n ∷ []) name
names_same (x ∷ xs) t u name = ap (λ (ns : List (List ℕ)). x.name ∷ ns) (names_same xs t u name)
