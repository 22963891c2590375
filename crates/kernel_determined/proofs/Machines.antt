-- A machine that does all that is said of the requests is the kernel; and machines that the laws so far allow.
use Rattle.std.proofs.Common.{◌≡◌, ℕ, List, Option, Some, refl, sym, ap, ◌∙◌}
use Rattle.std.proofs.lemmas.Option.{same_Some}
use Rattle.ipc_ids.specs.declared.numbers.TaskNo.{TaskNo}
use Rattle.ipc_ids.specs.declared.message.Request.{Request}
use Rattle.ipc_ids.specs.declared.message.Request.TheVariants as request
use Rattle.call_slab.specs.declared.call.Call.{Call}
use Rattle.address_space.specs.Memory.{Memory}
use Rattle.switchboard.specs.State.{KernelState, Transition, phone_at, with_memory, with_phone}
use Rattle.switchboard.proofs.Keepers.{state_here}
use Rattle.switchboard.proofs.Lookups.{put_here}
use Rattle.answerbox.specs.Calls.{call_at}
use Rattle.ipc_ids.specs.declared.message.PhoneState.{PhoneState}
use Rattle.ipc_ids.specs.declared.entry.Entry.{Entry}
use Rattle.kernel_determined.specs.Changed.{served_to, served_telling, ended_in, ended_telling, other_call}
use Rattle.switchboard.specs.Serving.{Served}
use Rattle.kernel_core.specs.Kernel.{serve, kill_event, spawn_event}
use Rattle.kernel_determined.specs.KillLaw.{IsKill}
use Rattle.kernel_determined.specs.KernelLaw.{MayAct, IsServed, IsKernel, IsTheKernel}
use Rattle.kernel_determined.proofs.HangupDetermined.{hangup_is_so, hangup_is_served, nothing_is_so, nothing_is_served}
use Rattle.kernel_determined.proofs.TakesSo.{receive_is_so, receive_is_served}
use Rattle.kernel_determined.proofs.ForwardSo.{forward_is_so, forward_is_served}
use Rattle.kernel_determined.proofs.CallSo.{call_is_so, call_is_served}
use Rattle.kernel_determined.proofs.MemoryDetermined.{poke_is_determined, peek_is_determined, poke_is_so, peek_is_so}
use Rattle.kernel_determined.proofs.AreasDetermined.{area_make_is_so, area_make_is_determined}
use Rattle.kernel_determined.proofs.DropDetermined.{area_drop_is_so, area_drop_is_determined}
use Rattle.kernel_determined.proofs.SpawnDetermined.{spawn_is_so, spawn_is_served}
use Rattle.kernel_determined.proofs.AnswerSo.{answer_is_so, answer_is_served}
use Rattle.kernel_determined.proofs.KillSo.{kill_is_so, kill_is_killed}
use Rattle.switchboard.proofs.SoundMemory.{from_one}
use Rattle.ipc_ids.specs.declared.message.Outcome.TheVariants as outcome
use Rattle.ipc_ids.proofs.Common.{is_some}

served_as : (k : KernelState) (t : TaskNo) (asked : Request) (done : Served) → MayAct k t
    → IsServed k t asked done → done ≡ serve k t asked
served_as k t (request.Call p msg) done may is = call_is_served k t p msg done may.sound is
served_as k t request.Receive done may is = receive_is_served k t done may.sound is
served_as k t (request.Answer n reply) done may is = answer_is_served k t n reply done may.sound is
served_as k t (request.Forward n p mode change) done may is = forward_is_served k t n p mode change done may.sound is
served_as k t (request.Hangup p) done may is = hangup_is_served k t p done is
served_as k t (request.AreaMake base pages rights) done may is =
    area_make_is_determined k t base pages rights done (serve k t (request.AreaMake base pages rights)) may.sound
    may.alive is
    (area_make_is_so k t base pages rights may.sound may.alive)
served_as k t (request.AreaDrop base) done may is =
    area_drop_is_determined k t base done (serve k t (request.AreaDrop base)) may.sound.memory.spaces
    (from_one k.tasks.alive t may.alive) is (area_drop_is_so k t base)
served_as k t (request.Poke at bytes) done may is =
    poke_is_determined t k done (serve k t (request.Poke at bytes)) at bytes is (poke_is_so k t at bytes may.sound)
served_as k t (request.Peek at count) done may is =
    peek_is_determined t k done (serve k t (request.Peek at count)) at count is (peek_is_so k t at count may.sound)
served_as k t request.Nothing done may is = nothing_is_served k t done is

-- a machine that keeps the laws is the kernel
pub one_kernel : (serves : KernelState → TaskNo → Request → Served) (kills : KernelState → TaskNo → Transition)
    (spawns : KernelState → ℕ → Option TaskNo → Transition) → IsKernel serves kills spawns → IsTheKernel serves kills
    spawns
one_kernel serves kills spawns is = record {
  requests = λ k t asked may. served_as k t asked (serves k t asked) may (is.requests k t asked may);
  killed = λ k t may. kill_is_killed k t (kills k t) may.sound may.alive (is.killed k t may);
  spawned = λ k limit names sound some.
      spawn_is_served limit names k (spawns k limit names) sound some (is.spawned k limit names sound some);
}

-- ---- and the kernel is such a machine

serve_is_lawful : (k : KernelState) (t : TaskNo) (asked : Request) → MayAct k t
    → IsServed k t asked (serve k t asked)
serve_is_lawful k t (request.Call p msg) may = call_is_so k t p msg
serve_is_lawful k t request.Receive may = receive_is_so k t may.sound
serve_is_lawful k t (request.Answer n reply) may = answer_is_so k t n reply may.sound
serve_is_lawful k t (request.Forward n p mode change) may = forward_is_so k may.sound t n p mode change
serve_is_lawful k t (request.Hangup p) may = hangup_is_so k t p
serve_is_lawful k t (request.AreaMake base pages rights) may = area_make_is_so k t base pages rights may.sound may.alive
serve_is_lawful k t (request.AreaDrop base) may = area_drop_is_so k t base
serve_is_lawful k t (request.Poke at bytes) may = poke_is_so k t at bytes may.sound
serve_is_lawful k t (request.Peek at count) may = peek_is_so k t at count may.sound
serve_is_lawful k t request.Nothing may = record { told = refl; nothing = nothing_is_so k outcome.Done }

pub kernel_is_lawful : IsKernel serve kill_event spawn_event
kernel_is_lawful = record {
  requests = serve_is_lawful;
  killed = λ k t may. kill_is_so k t may.sound may.alive;
  spawned = λ k limit names sound some. spawn_is_so k limit names sound some;
}

-- ---- so no change of what it does is lawful

-- of a request there is one outcome
pub one_served : (k : KernelState) (t : TaskNo) (asked : Request) (a b : Served) → MayAct k t
    → IsServed k t asked a → IsServed k t asked b → a ≡ b
one_served k t asked a b may x y = served_as k t asked a may x ∙ sym (served_as k t asked b may y)

pub one_killed : (k : KernelState) (t : TaskNo) (a b : Transition) → MayAct k t → IsKill t k a → IsKill t k b → a ≡ b
one_killed k t a b may x y =
    kill_is_killed k t a may.sound may.alive x ∙ sym (kill_is_killed k t b may.sound may.alive y)

phone_changed : (k : KernelState) (u : TaskNo) (q : ℕ) (old s : PhoneState) → phone_at k u q ≡ Some old
    → k ≡ with_phone k u q s → old ≡ s
phone_changed k u q old s is same =
    let now : phone_at (with_phone k u q s) u q ≡ Some s =
    state_here k.tasks.phones u.0 q s (is_some (phone_at k u q) old is) in
    let e : Some old ≡ Some s = sym is ∙ ap (λ (j : KernelState). phone_at j u q) same ∙ now in
    cc

call_changed : (k : KernelState) (n : ℕ) (c d : Call) → call_at k.calls n ≡ Some c → k ≡ other_call k n d → c ≡ d
call_changed k n c d is same =
    let now : call_at (other_call k n d).calls n ≡ Some d = put_here k.calls n n d refl in
    same_Some c d (sym is ∙ ap (λ (j : KernelState). call_at j.calls n) same ∙ now)

module _ (k : KernelState) (t : TaskNo) (asked : Request) (done : Served) (may : MayAct k t)
    (is : IsServed k t asked done) where
  pub served_memory : (m : Memory) → IsServed k t asked (served_to done (with_memory done.state m))
      → done.state.memory ≡ m
  served_memory m other = ap (λ (s : Served). s.state.memory) (one_served k t asked done _ may is other)

  pub served_phone : (u : TaskNo) (q : ℕ) (old s : PhoneState) → phone_at done.state u q ≡ Some old
      → IsServed k t asked (served_to done (with_phone done.state u q s)) → old ≡ s
  served_phone u q old s there other =
      phone_changed done.state u q old s there (ap (λ (x : Served). x.state)
      (one_served k t asked done _ may is other))

  pub served_call : (n : ℕ) (c d : Call) → call_at done.state.calls n ≡ Some c
      → IsServed k t asked (served_to done (other_call done.state n d)) → c ≡ d
  served_call n c d there other =
      call_changed done.state n c d there (ap (λ (x : Served). x.state) (one_served k t asked done _ may is other))

  pub served_told : (es : List Entry) → IsServed k t asked (served_telling done es) → done.entries ≡ es
  served_told es other = ap (λ (s : Served). s.entries) (one_served k t asked done _ may is other)

module _ (k : KernelState) (t : TaskNo) (done : Transition) (may : MayAct k t) (is : IsKill t k done) where
  pub killed_memory : (m : Memory) → IsKill t k (ended_in done (with_memory done.state m)) → done.state.memory ≡ m
  killed_memory m other = ap (λ (s : Transition). s.state.memory) (one_killed k t done _ may is other)

  pub killed_phone : (u : TaskNo) (q : ℕ) (old s : PhoneState) → phone_at done.state u q ≡ Some old
      → IsKill t k (ended_in done (with_phone done.state u q s)) → old ≡ s
  killed_phone u q old s there other =
      phone_changed done.state u q old s there (ap (λ (x : Transition). x.state) (one_killed k t done _ may is other))

  pub killed_call : (n : ℕ) (c d : Call) → call_at done.state.calls n ≡ Some c
      → IsKill t k (ended_in done (other_call done.state n d)) → c ≡ d
  killed_call n c d there other =
      call_changed done.state n c d there (ap (λ (x : Transition). x.state) (one_killed k t done _ may is other))

  pub killed_told : (es : List Entry) → IsKill t k (ended_telling done es) → done.entries ≡ es
  killed_told es other = ap (λ (s : Transition). s.entries) (one_killed k t done _ may is other)
