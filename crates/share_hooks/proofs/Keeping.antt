-- What a moment that shares leaves of the memory: it stays sound, no byte changes, and only the task that gets
-- the area has other areas than before.
use Rattle.std.proofs.Common.{◌≡◌, ℕ, ◌≤◌, List, length}
use Rattle.ipc_ids.specs.declared.numbers.TaskNo.{TaskNo}
use Rattle.ipc_ids.specs.declared.message.Reply.{Reply}
use Rattle.address_space.specs.Memory.{Memory, areas_of, share}
use Rattle.address_space.specs.Sound.{IsSound, AreHeld}
use Rattle.address_space.proofs.Held.{held_share}
use Rattle.address_space.proofs.Numbers.{stores_at_share}
use Rattle.address_space.proofs.Rows.{length_share, others_at_share}
use Rattle.address_space.proofs.Soundness.{sound_share}
use Rattle.share_hooks.specs.ShareMoments.{base_of, pages_of, rights_of, out_accept, in_accept}

-- the memory keeps its tasks, its stores and the number of the next one, and all areas but those of one task
pub record KeepsOthers (to : TaskNo) (m after : Memory) : Type 0 where
  pub tasks : length after.areas ≡ length m.areas
  pub stores : after.stores ≡ m.stores
  pub next : after.next_store ≡ m.next_store
  pub others : (u : TaskNo) → 1 ≤ to.0 → 1 ≤ u.0 → (u.0 ≡ to.0 → ⊥) → areas_of after u ≡ areas_of m u
  pub sound : IsSound m → IsSound after
  pub held : AreHeld m → AreHeld after

pub shared : (m : Memory) (from : TaskNo) (base : ℕ) (to : TaskNo) (target pages rights : ℕ) → KeepsOthers to m (share m from base to target pages rights).memory
shared m from base to target pages rights =
    let same = stores_at_share m from base to target pages rights in
    record {
      tasks = length_share m from base to target pages rights;
      stores = same.stores;
      next = same.next;
      others = λ u some more apart. others_at_share m from base to target pages rights u some more apart;
      sound = λ s. sound_share m from base to target pages rights s;
      held = λ h. held_share m from base to target pages rights h;
    }

pub out_accept_keeps : (m : Memory) (caller answerer : TaskNo) (args : List ℕ) (reply : Reply) → KeepsOthers answerer m (out_accept m caller answerer args reply).memory
out_accept_keeps m caller answerer args reply = shared m caller (base_of args) answerer (base_of reply.args) (pages_of args) (rights_of args)

pub in_accept_keeps : (m : Memory) (caller answerer : TaskNo) (args : List ℕ) (reply : Reply) → KeepsOthers caller m (in_accept m caller answerer args reply).memory
in_accept_keeps m caller answerer args reply = shared m answerer (base_of reply.args) caller (base_of args) (pages_of args) (rights_of args)
