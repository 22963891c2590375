-- The start of a run fits its wires, and a program's own entries tell nothing of phones.
use Rattle.std.proofs.Common.{◌≡◌, ℕ, Bool, true, false, List, [], ◌∷◌, ◌++◌, map, Option, None, Some, refl, sym, subst, ◌∙◌, append_assoc}
use Rattle.std.specs.Prelude.{◌==◌, ◌-◌, if◌then◌else◌, slice_get, unwrap_or, option_and_then}
use Rattle.ipc_ids.specs.declared.numbers.TaskNo.{TaskNo}
use Rattle.ipc_ids.specs.declared.message.PhoneState.{PhoneState}
use Rattle.ipc_ids.specs.declared.message.PhoneState.TheVariants.{Free, Connected}
use Rattle.ipc_ids.specs.declared.message.Request.{Request}
use Rattle.ipc_ids.specs.declared.entry.Entry.{Entry}
use Rattle.ipc_ids.specs.declared.entry.Entry.TheVariants as entry
use Rattle.ipc_ids.specs.Holdings.{Making, making}
use Rattle.ipc_ids.proofs.Common.{is_some}
use Rattle.phone_table.specs.Phones.{state_at}
use Rattle.switchboard.specs.State.{KernelState, with_task}
use Rattle.switchboard.specs.State as kernel
use Rattle.switchboard.specs.Serving.{Served}
use Rattle.kernel_core.specs.History.{HistoryFits, served_entries}
use Rattle.script_lines.specs.declared.plan.TaskPlan.{TaskPlan}
use Rattle.script_lines.specs.declared.plan.Wire.{Wire}
use Rattle.script_lines.specs.Plan.{Plan}
use Rattle.script_lines.specs.Sound.{IsSound}
use Rattle.route_laws.specs.Leads.{Lead, Beginning, is_phone, wired}
use Rattle.route_laws.specs.PhoneHistory.{RoutesFit}
use Rattle.route_laws.proofs.PhoneSteps.{IsPlain, ArePlain, written}
use Rattle.route_laws.proofs.PhoneEvents.{phones_plain, free_more}
use Rattle.task_system.specs.Run.{with_tasks, with_service, start}
use Rattle.run_laws.specs.RunHistory.{lead_of, beginning}
use Rattle.task_system.specs.Wiring.{with_wire, with_wires, wires_to_service, AreOpen}
use Rattle.run_laws.proofs.OwnEntries.{IsOwn, AreOwn}
use Rattle.task_system.proofs.OpenWires.{service_wires_are_open, wires_are_open}

-- a program's own entries

own_one : (e : Entry) → IsOwn e → IsPlain e
own_one (entry.Head t asked) own = absurd own
own_one (entry.Kill t) own = absurd own
own_one (entry.Gone t) own = absurd own
own_one (entry.Spawn t) own = absurd own
own_one (entry.Accepted n from method to) own = absurd own
own_one (entry.Forwarded n t to label) own = absurd own
own_one (entry.PhoneIs label state) own = absurd own
own_one (entry.Outcome told) own = absurd own
own_one _ own = tt

own_plain : (es : List Entry) → AreOwn es → ArePlain es
own_plain [] own = tt
own_plain (e ∷ es) own = (own_one e own.0, own_plain es own.1)

pub own_routes : (b : Beginning) (h : List Entry) (k : KernelState) (t : TaskNo) (asked : Request) (served : Served) (own : List Entry) → AreOwn own
    → RoutesFit b (h ++ served_entries t asked served) k → RoutesFit b (h ++ (served_entries t asked served ++ own)) k
own_routes b h k t asked served own are routes =
    subst (λ (es : List Entry). RoutesFit b es k) (append_assoc h (served_entries t asked served) own)
    (phones_plain b (h ++ served_entries t asked served) own k (own_plain own are) routes)

-- the wires

wired_both : (first then_laid : List Lead) (t p : ℕ) (s : PhoneState) → wired (first ++ then_laid) t p s ≡ wired then_laid t p (wired first t p s)
wired_both [] then_laid t p s = refl
wired_both (w ∷ first) then_laid t p s = wired_both first then_laid t p (if is_phone t p w.phone then Connected w.to else s)

-- once wires are laid, each phone is in the state that they make of the one before
wires_told : (k : KernelState) (wires : List Wire) → AreOpen k wires → (t p : ℕ) (s : PhoneState) → s ≡ unwrap_or (state_at k.tasks.phones t p) Free
    → wired (map lead_of wires) t p s ≡ unwrap_or (state_at (with_wires k wires).tasks.phones t p) Free
wires_told k [] ready t p s was = was
wires_told k (wire ∷ wires) ready t p s was =
    wires_told (with_wire k wire) wires ready.1 t p (if is_phone t p (lead_of wire).phone then Connected wire.to else s)
    (written k.tasks.phones (lead_of wire).phone (Connected wire.to) (is_some (state_at k.tasks.phones wire.from.0 wire.phone.0) Free ready.0.free) t p s was)

-- the phones of tasks are free at first

none_there : (t p : ℕ) → unwrap_or (state_at [] t p) Free ≡ Free
none_there t p = by_number (t == 0) where
  by_number : (x : Bool) → unwrap_or (option_and_then (λ (row : List PhoneState). slice_get row p) (if x then None else slice_get [] (t - 1))) Free ≡ Free
  by_number true = refl
  by_number false = refl

tasks_free : (k : KernelState) (tasks : List TaskPlan) → ((t p : ℕ) → unwrap_or (state_at k.tasks.phones t p) Free ≡ Free)
    → (t p : ℕ) → unwrap_or (state_at (with_tasks k tasks).tasks.phones t p) Free ≡ Free
tasks_free k [] free = free
tasks_free k (task ∷ tasks) free = tasks_free (with_task k task.limit) tasks (λ t p. free_more k.tasks.phones task.limit t p ∙ free t p)

none_made : (o : Option Making) (m : Making) → o ≡ None → o ≡ Some m → ⊥
none_made o m a b = cc

-- before the first event
pub start_routes : (plan : Plan) → IsSound plan → HistoryFits [] (start plan).kernel → RoutesFit (beginning plan) [] (start plan).kernel
start_routes plan sound fits = record {
  lawful = tt;
  phones = λ t p.
      wired_both (map lead_of (wires_to_service plan.tasks)) (map lead_of plan.wires) t p Free
      ∙ wires_told (with_service plan.tasks) plan.wires (wires_are_open plan sound) t p (wired (map lead_of (wires_to_service plan.tasks)) t p Free)
      (wires_told (with_tasks kernel.start plan.tasks) (wires_to_service plan.tasks) (service_wires_are_open plan sound) t p Free (sym (tasks_free kernel.start plan.tasks none_there t p)));
  labels = λ n c is. absurd (none_made (making n []) _ refl (fits.areas.calls n c is).made);
}
