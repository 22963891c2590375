-- The wires of a sound script are open once its tasks are there.
use Rattle.std.proofs.Common.{◌≡◌, ℕ, zero, suc, ◌-◌, ◌<◌, Bool, true, List, [], ◌∷◌, ◌++◌, length, map, replicate, Some, refl, ap, sym, ◌∙◌, arith, append_assoc}
use Rattle.std.specs.Prelude.{slice_get, ◌≢◌, ◌≤◌, ◌+◌, if◌then◌else◌, All, slice_index_or, false}
use Rattle.std.proofs.lemmas.Option.{slice_get-map, get_or_from_slice_get}
use Rattle.std.proofs.lemmas.List.{append-nil}
use Rattle.std.proofs.lemmas.Bool.{ne_eqb}
use Rattle.ipc_ids.specs.declared.numbers.TaskNo.{TaskNo}
use Rattle.ipc_ids.specs.declared.numbers.PhoneNo.{PhoneNo}
use Rattle.ipc_ids.specs.declared.message.PhoneState.{PhoneState}
use Rattle.ipc_ids.specs.declared.message.PhoneState.TheVariants.{Free, Connected}
use Rattle.script_lines.specs.declared.plan.TaskPlan.{TaskPlan}
use Rattle.script_lines.specs.declared.plan.Wire.{Wire}
use Rattle.script_lines.specs.Plan.{Plan}
use Rattle.script_lines.specs.Sound.{IsTask, IsSoundTask, has_service, IsBesideService, Leads, PhonesDiffer, IsSound}
use Rattle.phone_table.specs.Phones.{state_at}
use Rattle.switchboard.specs.State.{Tasks, KernelState, start, alive_in, with_task}
use Rattle.switchboard.proofs.Keepers.{state_elsewhere}
use Rattle.task_system.specs.Run.{with_tasks, with_service}
use Rattle.task_system.specs.Wiring.{service_wire, service_wires, wires_to_service, with_wire, with_wires, IsOpen, AreOpen}

abbrev is_there : TaskPlan → Bool
is_there task = true

abbrev free_phones : TaskPlan → List PhoneState
free_phones task = replicate task.limit Free

abbrev added : Tasks → List TaskPlan → Tasks
added old tasks = record { alive = old.alive ++ map is_there tasks; phones = old.phones ++ map free_phones tasks }

tasks_added : (k : KernelState) (tasks : List TaskPlan) → (with_tasks k tasks).tasks ≡ added k.tasks tasks
tasks_added k [] = rw (append-nil k.tasks.alive, append-nil k.tasks.phones) refl
tasks_added k (task ∷ tasks) =
    tasks_added (with_task k task.limit) tasks
    ∙ rw (append_assoc k.tasks.alive (true ∷ []) (map is_there tasks), append_assoc k.tasks.phones (free_phones task ∷ []) (map free_phones tasks)) refl

pub item : (tasks : List TaskPlan) (i : ℕ) → i < length tasks → (task : TaskPlan) × (slice_get tasks i ≡ Some task)
item [] i h = absurd (omega (arith, h))
item (task ∷ tasks) zero h = (task, refl)
item (task ∷ tasks) (suc i) h = item tasks i (omega (arith, h))

there : (tasks : List TaskPlan) (t : ℕ) → IsTask (length tasks) t → alive_in (map is_there tasks) t ≡ true
there tasks zero is = absurd (omega (arith, is.0))
there tasks (suc t) is =
    let back : suc t - 1 ≡ t = omega arith in
    let found = item tasks t (omega (arith, is.1)) in
    rw (ne_eqb (suc t) 0 (λ e. omega arith), back, slice_get-map is_there tasks t, found.1) refl

free_there : (n p : ℕ) → p < n → slice_get (replicate n Free) p ≡ Some Free
free_there zero p h = absurd (omega (arith, h))
free_there (suc n) zero h = refl
free_there (suc n) (suc p) h = free_there n p (omega (arith, h))

within : (tasks : List TaskPlan) (t place p : ℕ) (task : TaskPlan) → place ≡ t → slice_get tasks t ≡ Some task → p < (slice_index_or tasks place task).limit → p < task.limit
within tasks t place p task at found few = rw (at, get_or_from_slice_get tasks t task task found) at few

free_at : (tasks : List TaskPlan) (t p : ℕ) → IsTask (length tasks) t → ((d : TaskPlan) → p < (slice_index_or tasks (t - 1) d).limit) → state_at (map free_phones tasks) t p ≡ Some Free
free_at tasks zero p is few = absurd (omega (arith, is.0))
free_at tasks (suc t) p is few =
    let back : suc t - 1 ≡ t = omega arith in
    let found = item tasks t (omega (arith, is.1)) in
    let below : p < found.0.limit = within tasks t (suc t - 1) p found.0 back found.1 (few found.0) in
    rw (ne_eqb (suc t) 0 (λ e. omega arith), back, slice_get-map free_phones tasks t, found.1) (free_there found.0.limit p below)

opened : (tasks : List TaskPlan) (wire : Wire) → Leads tasks wire → IsOpen (with_tasks start tasks) wire
opened tasks wire leads = record {
  from = rw (tasks_added start tasks) (there tasks wire.from.0 leads.from_task);
  to = rw (tasks_added start tasks) (there tasks wire.to.0 leads.to_task);
  free = rw (tasks_added start tasks) (free_at tasks wire.from.0 wire.phone.0 leads.from_task leads.in_range);
}

still_open : (k : KernelState) (wire other : Wire) → IsOpen k other → (wire.from ≡ other.from → wire.phone ≢ other.phone) → IsOpen (with_wire k wire) other
still_open k wire other is apart = record {
  from = is.from;
  to = is.to;
  free = state_elsewhere k.tasks.phones wire.from.0 wire.phone.0 other.from.0 other.phone.0 (Connected wire.to) Free is.free
      (λ e. apart (ap (λ (n : ℕ). number n) (sym e.0)) (ap (λ (n : ℕ). phone n) (sym e.1)));
} where
  number : ℕ → TaskNo
  number n = record { 0 = n }

  phone : ℕ → PhoneNo
  phone n = record { 0 = n }

laid : (k : KernelState) (wires : List Wire) → All (IsOpen k) wires → PhonesDiffer wires → AreOpen k wires
laid k [] each apart = tt
laid k (wire ∷ wires) each apart = (
  each 0 wire (omega arith),
  laid
      (with_wire k wire)
      wires
      (λ i d h. still_open k wire (slice_index_or wires i d) (each (suc i) d (omega (arith, h))) (apart 0 (suc i) d (omega arith) (omega (arith, h))))
      (λ i j d before within. apart (suc i) (suc j) d (omega (arith, before)) (omega (arith, within))),
)

-- the next wire to the naming service, and those behind it
pub next_wire : (n t : ℕ) → t < n → service_wires (n - t) t ≡ service_wire t ∷ service_wires (n - (t + 1)) (t + 1)
next_wire n t h =
    let more : n - t ≡ suc (n - (t + 1)) = omega (arith, h) in
    rw more refl

-- each wire of the naming service is open once those before it are laid
service_laid : (n t : ℕ) (k : KernelState) → ((u : ℕ) → t ≤ u → u < t + n → IsOpen k (service_wire u)) → AreOpen k (service_wires n t)
service_laid zero t k each = tt
service_laid (suc n) t k each = (
  each t (omega arith) (omega arith),
  service_laid
      n
      (t + 1)
      (with_wire k (service_wire t))
      (λ u from below. still_open k (service_wire t) (service_wire u) (each u (omega (arith, from)) (omega (arith, below))) (λ same. absurd (apart t u from (ap (λ (x : TaskNo). x.0) same)))),
) where
  apart : (t u : ℕ) → t + 1 ≤ u → t ≡ u → ⊥
  apart t u from same = omega (arith, from, same)

-- the naming service has phone 0 of the other tasks
service_open : (tasks : List TaskPlan) → All IsSoundTask tasks → (u : ℕ) → 2 ≤ u → u < 2 + (length tasks - 1) → IsOpen (with_tasks start tasks) (service_wire u)
service_open tasks sound u from below =
    opened tasks (service_wire u) (record {
      from_task = (omega (arith, from), omega (arith, from, below));
      to_task = (omega arith, omega (arith, from, below));
      in_range = λ d. let some : 1 ≤ (slice_index_or tasks (u - 1) d).limit = (sound (u - 1) d (omega (arith, from, below))).some_phones in omega (arith, some);
    })

pub service_wires_are_open : (plan : Plan) → IsSound plan → AreOpen (with_tasks start plan.tasks) (wires_to_service plan.tasks)
service_wires_are_open plan sound = by_service (has_service plan.tasks) where
  by_service : (b : Bool) → AreOpen (with_tasks start plan.tasks) (if b then service_wires (length plan.tasks - 1) 2 else [])
  by_service true = service_laid (length plan.tasks - 1) 2 (with_tasks start plan.tasks) (service_open plan.tasks sound.sound_tasks)
  by_service false = tt

-- a wire that begins at the service, or not at phone 0, stays open
open_beside : (n t : ℕ) (k : KernelState) (wire : Wire) → 2 ≤ t → (wire.from.0 ≢ 1 → wire.phone.0 ≢ 0) → IsOpen k wire → IsOpen (with_wires k (service_wires n t)) wire
open_beside zero t k wire from beside is = is
open_beside (suc n) t k wire from beside is =
    open_beside n (t + 1) (with_wire k (service_wire t)) wire (omega (arith, from)) beside (still_open k (service_wire t) wire is apart) where
      another : t ≡ wire.from.0 → wire.from.0 ≢ 1
      another same one = omega (arith, from, same, one)

      apart : (service_wire t).from ≡ wire.from → (service_wire t).phone ≢ wire.phone
      apart from_is phone_is = beside (another (ap (λ (x : TaskNo). x.0) from_is)) (sym (ap (λ (x : PhoneNo). x.0) phone_is))

open_behind : (tasks : List TaskPlan) (wire : Wire) → IsBesideService tasks wire → IsOpen (with_tasks start tasks) wire → IsOpen (with_service tasks) wire
open_behind tasks wire beside is = by_service (has_service tasks) beside where
  by_service : (b : Bool) → (b ≡ true → wire.from.0 ≢ 1 → wire.phone.0 ≢ 0) → IsOpen (with_wires (with_tasks start tasks) (if b then service_wires (length tasks - 1) 2 else [])) wire
  by_service true beside = open_beside (length tasks - 1) 2 (with_tasks start tasks) wire (omega arith) (beside refl) is
  by_service false beside = is

pub wires_are_open : (plan : Plan) → IsSound plan → AreOpen (with_service plan.tasks) plan.wires
wires_are_open plan sound =
    laid
    (with_service plan.tasks)
    plan.wires
    (λ i d h. open_behind plan.tasks (slice_index_or plan.wires i d) (sound.beside_service i d h) (opened plan.tasks (slice_index_or plan.wires i d) (sound.wires_lead i d h)))
    sound.phones_differ
