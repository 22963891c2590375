-- A state of the kernel, and what an event makes of it, with other stamps of the calls.
use Rattle.std.specs.Prelude.{◌≡◌, ◌≤◌, ℕ, ◌+◌, map, nat_lt}
use Rattle.std.specs.Ordering.{nat_cmp}
use Rattle.std.specs.FinMap.{FinMap, entries, from_sorted}
use Rattle.call_slab.specs.declared.call.Call.{Call}
use Rattle.call_slab.specs.declared.call.Place.{Place}
use Rattle.answerbox.specs.Calls.{CallTable}
use Rattle.switchboard.specs.State.{KernelState, Transition}
use Rattle.switchboard.specs.Serving.{Served}

-- other stamps keep the order within each place
abbrev pub Rises : (Place → ℕ → ℕ) → Type 0
Rises f = (p : Place) (s t : ℕ) → nat_lt s t ≡ nat_lt (f p s) (f p t)

-- from n on each stamp is d more
abbrev pub Shifts : ℕ → ℕ → (Place → ℕ → ℕ) → Type 0
Shifts n d f = (p : Place) (s : ℕ) → n ≤ s → f p s ≡ s + d

-- the call, with another stamp
abbrev pub restamp : (Place → ℕ → ℕ) → Call → Call
restamp f c = record c { stamp = f c.place c.stamp }

-- likewise an entry of the table
abbrev pub restamped_entry : (Place → ℕ → ℕ) → ℕ × Call → ℕ × Call
restamped_entry f e = (e.0, restamp f e.1)

-- likewise all records
unfoldable pub restamped_records : (Place → ℕ → ℕ) → FinMap nat_cmp Call → FinMap nat_cmp Call
restamped_records f m = from_sorted (map (restamped_entry f) (entries m))

-- the calls, with other stamps; the next one is d more
abbrev pub restamped : (Place → ℕ → ℕ) → ℕ → CallTable → CallTable
restamped f d calls =
    record {
      records = restamped_records f calls.records;
      next_number = calls.next_number;
      next_stamp = calls.next_stamp + d;
    }

-- the state, with other stamps of its calls
abbrev pub with_stamps : (Place → ℕ → ℕ) → ℕ → KernelState → KernelState
with_stamps f d k = record { tasks = k.tasks; calls = restamped f d k.calls; memory = k.memory; events = k.events }

-- what a step gives, likewise
abbrev pub step_with_stamps : (Place → ℕ → ℕ) → ℕ → Transition → Transition
step_with_stamps f d step = record { state = with_stamps f d step.state; entries = step.entries }

-- what a request gives, likewise
abbrev pub served_with_stamps : (Place → ℕ → ℕ) → ℕ → Served → Served
served_with_stamps f d served =
    record { state = with_stamps f d served.state; outcome = served.outcome; entries = served.entries }
