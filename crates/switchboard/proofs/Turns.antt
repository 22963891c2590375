-- A turn of a loop: what is done goes on, and the room that is used adds up.
use Rattle.std.proofs.Common.{◌≡◌, ℕ, ◌+◌, ◌-◌, ◌≤◌, ◌<◌, Option, Some, ◌∙◌, arith}
use Rattle.ipc_ids.specs.Trace.{TraceState}
use Rattle.call_slab.specs.declared.call.Call.{Call}
use Rattle.switchboard.specs.State.{KernelState, BoardState, Transition, drain, each}
use Rattle.switchboard.proofs.Loops.{drained_state, drained_entries, each_state, each_entries}
use Rattle.switchboard.specs.Rooms.{HasRoom, UsesRoom}
use Rattle.switchboard.specs.Serving.{Does, Completes}

-- a call that was next
pub drained : (next : KernelState → Option Call) (step : KernelState → Call → Transition) {most counter : ℕ} {m m' : BoardState} {told now now' : TraceState} {whole : Transition} (c : Call) → counter < most → next m.state ≡ Some c → Does m' now now' (step m.state c) → Completes m told now (drain next step (most - counter) m.state) whole → Completes m' told now' (drain next step (most - (counter + 1)) m'.state) whole
drained next step {most} {counter} {m} {m'} {told} {now} {now'} {whole} c lt is did s = record {
  state = drained_state next step most counter m.state m'.state c whole told.entries now.entries now'.entries lt is did.state did.entries s.state;
  entries = drained_entries next step most counter m.state m'.state c whole told.entries now.entries now'.entries lt is did.state did.entries s.entries;
}

-- the next number
pub turned : (step : KernelState → ℕ → Transition) {most i : ℕ} {m m' : BoardState} {told now now' : TraceState} {whole : Transition} → i < most → Does m' now now' (step m.state i) → Completes m told now (each step (most - i) i m.state) whole → Completes m' told now' (each step (most - (i + 1)) (i + 1) m'.state) whole
turned step {most} {i} {m} {m'} {told} {now} {now'} {whole} lt did s = record {
  state = each_state step most i m.state m'.state whole told.entries now.entries now'.entries lt did.state did.entries s.state;
  entries = each_entries step most i m.state m'.state whole told.entries now.entries now'.entries lt did.state did.entries s.entries;
}

-- what two steps use
pub uses_both : {a b d : BoardState} {x y z : TraceState} {c c' m m' l l' : ℕ} → UsesRoom a b x y c m l → UsesRoom b d y z c' m' l' → UsesRoom a d x z (c + c') (m + m') (l + l')
uses_both s t = record {
  numbers = omega (arith, s.numbers, t.numbers);
  stamps = omega (arith, s.stamps, t.stamps);
  live = omega (arith, s.live, t.live);
  calls = omega (arith, s.calls, t.calls);
  entries = omega (arith, s.entries, t.entries);
  alive = t.alive ∙ s.alive;
  places = t.places ∙ s.places;
  events = t.events ∙ s.events;
}

-- more than is used
pub uses_less : {a b : BoardState} {x y : TraceState} {c c' m m' l l' : ℕ} → UsesRoom a b x y c m l → c ≤ c' → m ≤ m' → l ≤ l' → UsesRoom a b x y c' m' l'
uses_less s f g h = record {
  numbers = omega (arith, s.numbers, f);
  stamps = omega (arith, s.stamps, g);
  live = omega (arith, s.live, f);
  calls = omega (arith, s.calls, f);
  entries = omega (arith, s.entries, h);
  alive = s.alive;
  places = s.places;
  events = s.events;
}

-- the room that is left
pub room_left : {a b : BoardState} {x y : TraceState} {c m l d n k c' m' l' : ℕ} → HasRoom a x c m l → UsesRoom a b x y d n k → d + c' ≤ c → n + m' ≤ m → k + l' ≤ l → HasRoom b y c' m' l'
room_left h s f g i = record {
  numbers = omega (arith, h.numbers, s.numbers, f);
  stamps = omega (arith, h.stamps, s.stamps, g);
  calls = omega (arith, h.calls, s.calls, f);
  entries = omega (arith, h.entries, s.entries, i);
}
