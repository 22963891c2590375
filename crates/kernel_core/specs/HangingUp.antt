-- A hangup by task t of its phone p.
use Rattle.std.specs.Prelude.{ℕ, Option, None, Some}
use Rattle.ipc_ids.specs.declared.numbers.TaskNo.{TaskNo}
use Rattle.ipc_ids.specs.declared.message.PhoneState.{PhoneState}
use Rattle.ipc_ids.specs.declared.message.PhoneState.TheVariants.{Free, Connecting, Connected, HungUp, Slammed}
use Rattle.ipc_ids.specs.declared.message.Outcome.TheVariants.{Done}
use Rattle.ipc_ids.specs.Codes.{enoent, einval}
use Rattle.switchboard.specs.State.{KernelState, phone_at}
use Rattle.switchboard.specs.Serving.{refusal, Served, telling}
use Rattle.switchboard.specs.Joins.{hang_up}

abbrev pub hangup_over : KernelState → TaskNo → ℕ → Option PhoneState → Served
hangup_over k t p None = refusal k enoent
hangup_over k t p (Some Free) = refusal k einval
hangup_over k t p (Some Connecting) = refusal k einval
hangup_over k t p (Some HungUp) = refusal k einval
hangup_over k t p (Some Slammed) = telling (hang_up k t p (Some Slammed)) Done
hangup_over k t p (Some (Connected u)) = telling (hang_up k t p (Some (Connected u))) Done

abbrev pub hangup : KernelState → TaskNo → ℕ → Served
hangup k t p = hangup_over k t p (phone_at k t p)
