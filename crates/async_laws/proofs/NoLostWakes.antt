-- No wake-up is lost: each event keeps it.
use Rattle.std.proofs.Common.{ℕ, zero, suc, ◌-◌, ◌≡◌, Bool, true, false}
use Rattle.std.proofs.Common.{length, Option, Some, None, List, refl}
use Rattle.std.specs.Prelude.{slice_get}
use Rattle.ipc_ids.specs.declared.numbers.TaskNo.{TaskNo}
use Rattle.ipc_ids.specs.declared.message.Why.{Why}
use Rattle.ipc_ids.specs.declared.message.Outcome.{Outcome}
use Rattle.ipc_ids.specs.declared.op.Body.{Body}
use Rattle.fibril_core.specs.Fibrils.{why_at, fibril_at}
use Rattle.fibril_core.specs.Fibrils.{no_fibrils}
use Rattle.fibril_core.specs.Conns as conns
use Rattle.fibril_core.specs.Conns.{start}
use Rattle.fibril_core.proofs.Orders.{sound_none as sound_no_fibrils}
use Rattle.fibril_core.proofs.Connections.{sound_no_conns}
use Rattle.async_sessions.proofs.Sound.{sound_none}
use Rattle.async_task.specs.Contexts.{new_context}
use Rattle.async_task.specs.AsyncState.{AsyncState}
use Rattle.async_task.specs.Turns.{turn_now}
use Rattle.async_task.specs.Steps.{step, bare_task, start_in, start_at}
use Rattle.async_task.specs.Steps.{start_bodies}
use Rattle.async_task.specs.Program.{started}
use Rattle.async_task.proofs.Bounds.{step_near}
use Rattle.async_laws.specs.NoLostWakes.{KeepsWakes, IsNewCall}
use Rattle.async_laws.proofs.WakeSlots.{Keeps}
use Rattle.async_laws.proofs.WakeFibrils.{adds_fibril, turns}

-- one event
pub step_keeps : (a : AsyncState) (o : Outcome) → KeepsWakes a → IsNewCall a o →
    KeepsWakes (step a o).state
step_keeps a o kept new =
    let now : Keeps (step a o).state =
    turns a o (turn_now a)
    (record {
      wakes = kept.wakes;
      slots = kept.slots;
      order = kept.order;
      pool = kept.pool;
      conns = kept.conns;
    }) kept.served new refl in
    record {
      wakes = now.wakes;
      slots = now.slots;
      order = now.order;
      pool = now.pool;
      conns = now.conns;
      served = (step_near a o).served kept.served;
    }

-- the start

bare_keeps : (me : TaskNo) (bodies : List Body) → Keeps (bare_task me bodies)
bare_keeps me bodies = record {
  wakes = λ f w h. absurd (none f.0 w h);
  slots = λ i k n t runs h g. absurd (cc h);
  order = sound_no_fibrils;
  pool = sound_none;
  conns = sound_no_conns;
}
  where
    none : (n : ℕ) (w : Why) → why_at (fibril_at no_fibrils n) ≡ Some w → ⊥
    none zero w h = cc h
    none (suc n) w h = cc h

starts_in : (n : ℕ) (b : Bool) (a : AsyncState) → Keeps a → a.conns ≡ conns.no_conns →
    Keeps (start_in n b a) × ((start_in n b a).conns ≡ conns.no_conns)
starts_in n false a kept is = (adds_fibril a (new_context n) kept refl, is)
starts_in n true a kept is = (kept, is)

starts_at : (n : ℕ) (body : Option Body) (a : AsyncState) → Keeps a → a.conns ≡ conns.no_conns →
    Keeps (start_at n body a) × ((start_at n body a).conns ≡ conns.no_conns)
starts_at n None a kept is = (kept, is)
starts_at n (Some body) a kept is = starts_in n body.connection a kept is

starts_all : (n : ℕ) (a : AsyncState) → Keeps a → a.conns ≡ conns.no_conns →
    Keeps (start_bodies n a) × ((start_bodies n a).conns ≡ conns.no_conns)
starts_all zero a kept is = (kept, is)
starts_all (suc n) a kept is =
    let one : Keeps (start_bodies n a) × ((start_bodies n a).conns ≡ conns.no_conns) =
    starts_all n a kept is in
    starts_at n (slice_get a.bodies n) (start_bodies n a) one.0 one.1

pub started_keeps : (me : TaskNo) (bodies : List Body) → KeepsWakes (started me bodies)
started_keeps me bodies =
    let all : Keeps (started me bodies) × ((started me bodies).conns ≡ conns.no_conns) =
    starts_all (length bodies) (bare_task me bodies) (bare_keeps me bodies) refl in
    record {
      wakes = all.0.wakes;
      slots = all.0.slots;
      order = all.0.order;
      pool = all.0.pool;
      conns = all.0.conns;
      served = rw all.1 tt;
    }
