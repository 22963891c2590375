-- What a switchboard reads from phones and marks.
use Rattle.std.proofs.Common.{◌≡◌, ℕ, ◌-◌, Option, None, Some, Ok, List, refl, set}
use Rattle.ipc_ids.specs.declared.numbers.TaskNo.{TaskNo}
use Rattle.ipc_ids.specs.declared.message.PhoneState.{PhoneState}
use Rattle.ipc_ids.specs.declared.message.PhoneState.TheVariants.{Free, Connecting, Connected, HungUp, Slammed}
use Rattle.phone_table.specs.Phones.{row_at, hangup_answer}
use Rattle.phone_table.specs.declared.hung.Hung.TheVariants.{Sent}
use Rattle.switchboard.specs.State.{with_state_at}

-- whom a hangup tells
pub sent_to : (o : Option PhoneState) (u : TaskNo) → Ok (Sent u) ≡ hangup_answer o → o ≡ Some (Connected u)
sent_to None u e = absurd (cc e)
sent_to (Some Free) u e = absurd (cc e)
sent_to (Some Connecting) u e = absurd (cc e)
sent_to (Some (Connected v)) u e = cc
sent_to (Some HungUp) u e = absurd (cc e)
sent_to (Some Slammed) u e = absurd (cc e)

-- a phone that leads to a task is slammed
pub slammed_states : (rows : List (List PhoneState)) (t p : ℕ) (row : List PhoneState) (s : PhoneState) → row_at rows t ≡ Some row → set rows (t - 1) (set row p s) ≡ with_state_at rows t p s
slammed_states rows t p row s is = rw is refl
