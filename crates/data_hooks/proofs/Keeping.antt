-- What a moment that writes leaves of the memory: it stays sound, and no area and no store comes or goes.
use Rattle.std.proofs.Common.{◌≡◌, ℕ, Bool, true, false, List, length, refl}
use Rattle.std.specs.Prelude.{nat_lt, take}
use Rattle.ipc_ids.specs.declared.numbers.TaskNo.{TaskNo}
use Rattle.ipc_ids.specs.declared.message.Reply.{Reply}
use Rattle.address_space.specs.Memory.{Memory, write}
use Rattle.address_space.specs.Sound.{IsSound, AreHeld}
use Rattle.address_space.proofs.Held.{held_write}
use Rattle.address_space.proofs.Numbers.{next_at_write}
use Rattle.address_space.proofs.Rows.{areas_at_write}
use Rattle.address_space.proofs.Soundness.{sound_write}
use Rattle.data_hooks.specs.DataMoments.{address_of, count_of, write_accept, read_deliver}

-- the memory keeps its areas and the number of its next store, is sound if it was, and has no store alone if it had none
pub record IsOverwritten (m after : Memory) : Type 0 where
  pub areas : after.areas ≡ m.areas
  pub next : after.next_store ≡ m.next_store
  pub sound : IsSound m → IsSound after
  pub held : AreHeld m → AreHeld after

pub written : (m : Memory) (t : TaskNo) (at : ℕ) (bytes : List ℕ) → IsOverwritten m (write m t at bytes).memory
written m t at bytes = record {
  areas = areas_at_write m t at bytes;
  next = next_at_write m t at bytes;
  sound = λ s. sound_write m t at bytes s;
  held = λ h. held_write m t at bytes h;
}

accept_if : (m : Memory) (answerer : TaskNo) (buffer : List ℕ) (reply : Reply) (above : Bool) → nat_lt (length buffer) (count_of reply.args) ≡ above → IsOverwritten m (write_accept m answerer buffer reply).memory
accept_if m answerer buffer reply true is = rw is (record { areas = refl; next = refl; sound = λ s. s; held = λ h. h })
accept_if m answerer buffer reply false is = rw is (written m answerer (address_of reply.args) (take (count_of reply.args) buffer))

pub write_accept_keeps : (m : Memory) (answerer : TaskNo) (buffer : List ℕ) (reply : Reply) → IsOverwritten m (write_accept m answerer buffer reply).memory
write_accept_keeps m answerer buffer reply = accept_if m answerer buffer reply (nat_lt (length buffer) (count_of reply.args)) refl

pub read_deliver_keeps : (m : Memory) (caller : TaskNo) (args buffer : List ℕ) → IsOverwritten m (read_deliver m caller args buffer).memory
read_deliver_keeps m caller args buffer = written m caller (address_of args) buffer
