-- How many calls are live after each change.
use Rattle.std.proofs.Common.{◌≡◌, ℕ, ◌+◌, ◌≤◌, List, Option, None, Some, refl, ap, ◌∙◌, arith}
use Rattle.std.specs.Prelude.{IsSome}
use Rattle.std.specs.Cmp.{nat_cmp_total}
use Rattle.std.specs.FinMap.{len, len-insert, insert}
use Rattle.ipc_ids.specs.declared.numbers.TaskNo.{TaskNo}
use Rattle.ipc_ids.specs.declared.numbers.Label.{Label}
use Rattle.ipc_ids.specs.declared.message.Msg.{Msg}
use Rattle.ipc_ids.specs.declared.message.Reply.{Reply}
use Rattle.ipc_ids.specs.declared.message.PhoneState.{PhoneState}
use Rattle.call_slab.specs.declared.call.Call.{Call}
use Rattle.call_slab.specs.declared.call.Place.{Place}
use Rattle.call_slab.specs.declared.call.Place.TheVariants.{Incoming, Answers}
use Rattle.answerbox.specs.Calls.{CallTable, call_at, enqueue, received, without_call, without_caller}
use Rattle.switchboard.specs.Counts.{HasCounts}
use Rattle.switchboard.specs.Joins.{declined_call, passed_call}
use Rattle.switchboard.specs.Board.{IsCallOf, with_reply, with_bytes, with_declined, with_passed}
use Rattle.switchboard.proofs.Lookups.{record_of, fewer_calls, as_many_calls}

-- a live call of a caller is there
pub called : (o : Option Call) (u : TaskNo) → IsCallOf o u → (c : Call) × (o ≡ Some c)
called None u h = absurd h
called (Some c) u h = (c, refl)

-- a new call is one more
pub live_enqueue : (q : CallTable) (c : Call) → call_at q c.number.0 ≡ None → len (enqueue q c).records ≤ len q.records + 1
live_enqueue q c free = rw (len-insert nat_cmp_total q.records c.number.0 (record c { stamp = q.next_stamp }), free) (omega arith)

-- a call that is over is one less
pub live_without : (q : CallTable) (n : ℕ) → IsSome (call_at q n) → len (without_call q n).records ≤ len q.records
live_without q n live = let f = record_of (call_at q n) live in let l = fewer_calls q n f.0 f.1 in omega arith

module _ (phones : List (List PhoneState)) (counts : List (List ℕ)) (q : CallTable) (n : ℕ) (s : HasCounts phones counts q) (live : IsSome (call_at q n)) where
  -- a record in the place of another leaves as many
  same : (c d : Call) → call_at q n ≡ Some c → len (insert q.records c.number.0 d) ≡ len q.records
  same c d is = as_many_calls q c.number.0 c d (ap (call_at q) (s.numbered n c is) ∙ is)

  pub live_received : (msg : Msg) (reserved : Option Label) (place : Place) → len (received q n msg reserved place).records ≤ len q.records
  live_received msg reserved place = let f = record_of (call_at q n) live in let l = same f.0 (record f.0 { msg = msg; reserved = reserved; place = place; stamp = q.next_stamp }) f.1 in rw f.1 (omega arith)

  pub live_reply : (reply : Reply) (caller : TaskNo) → len (with_reply q n reply caller).records ≤ len q.records
  live_reply reply caller = let f = record_of (call_at q n) live in let l = same f.0 (record f.0 { reply = reply; place = Answers caller; stamp = q.next_stamp }) f.1 in rw f.1 (omega arith)

  pub live_bytes : (reply : Reply) (bytes : List ℕ) (caller : TaskNo) → len (with_bytes q n reply bytes caller).records ≤ len q.records
  live_bytes reply bytes caller = let f = record_of (call_at q n) live in let l = same f.0 (record f.0 { reply = reply; buffer = bytes; place = Answers caller; stamp = q.next_stamp }) f.1 in rw f.1 (omega arith)

  pub live_declined : (reply : Reply) (caller : TaskNo) → len (with_declined q n reply caller).records ≤ len q.records
  live_declined reply caller = let f = record_of (call_at q n) live in let l = same f.0 (record (declined_call f.0 reply) { place = Answers caller; stamp = q.next_stamp }) f.1 in rw f.1 (omega arith)

  pub live_passed : (msg : Msg) (label : Label) (to : TaskNo) → len (with_passed q n msg label to).records ≤ len q.records
  live_passed msg label to = let f = record_of (call_at q n) live in let l = same f.0 (record (passed_call msg label f.0) { place = Incoming to; stamp = q.next_stamp }) f.1 in rw f.1 (omega arith)

  pub live_caller : len (without_caller q n).records ≤ len q.records
  live_caller = let f = record_of (call_at q n) live in let l = same f.0 (record f.0 { caller = None }) f.1 in rw f.1 (omega arith)
