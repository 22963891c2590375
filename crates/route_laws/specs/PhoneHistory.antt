-- What the entries so far, the newest first, tell of phones and of the labels of calls, in the state of the kernel.
use Rattle.std.specs.Prelude.{ℕ, ◌≡◌, unwrap_or, List, Some}
use Rattle.ipc_ids.specs.declared.message.PhoneState.{PhoneState}
use Rattle.ipc_ids.specs.declared.message.PhoneState.TheVariants.{Free}
use Rattle.ipc_ids.specs.declared.entry.Entry.{Entry}
use Rattle.ipc_ids.specs.Holdings.{newest_first}
use Rattle.call_slab.specs.declared.call.Call.{Call}
use Rattle.answerbox.specs.Calls.{CallTable, call_at}
use Rattle.phone_table.specs.Phones.{state_at}
use Rattle.switchboard.specs.State.{KernelState}
use Rattle.route_laws.specs.Leads.{Lead, Beginning, phone_in}
use Rattle.route_laws.specs.PhoneLaw.{label_of_call, WereRouted}

-- each phone is in the state that the entries tell; a phone that is not there counts as free
abbrev pub TellPhones : List Lead → List Entry → List (List PhoneState) → Type 0
TellPhones wires q rows = (t p : ℕ) → phone_in wires t p q ≡ unwrap_or (state_at rows t p) Free

-- the entries so far fit these phones and these calls
pub record PhonesFit (b : Beginning) (q : List Entry) (rows : List (List PhoneState)) (calls : CallTable) : Type 0 where
  -- each was lawful as it came
  pub lawful : WereRouted b q
  pub phones : TellPhones b.wires q rows
  -- each live call has the label that they tell
  pub labels : (n : ℕ) (c : Call) → call_at calls n ≡ Some c → label_of_call n q ≡ Some c.label

-- the history fits the phones and the calls of the kernel
abbrev pub RoutesFit : Beginning → List Entry → KernelState → Type 0
RoutesFit b h k = PhonesFit b (newest_first h) k.tasks.phones k.calls
