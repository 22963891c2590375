-- A kill keeps what the entries tell of areas.
use Rattle.std.proofs.Common.{◌≡◌, true, Some, None, List, [], ◌∷◌, length, Ok, refl, sym, subst}
use Rattle.ipc_ids.specs.declared.numbers.TaskNo.{TaskNo}
use Rattle.ipc_ids.specs.declared.message.PhoneState.TheVariants as phone
use Rattle.ipc_ids.specs.declared.entry.Entry.{Entry}
use Rattle.ipc_ids.specs.declared.entry.Entry.TheVariants as entry
use Rattle.ipc_ids.specs.Codes.{ehangup}
use Rattle.ipc_ids.specs.Holdings.{on_top}
use Rattle.ipc_ids.proofs.LawfulAreas.{on_top-append}
use Rattle.call_slab.specs.declared.call.Call.{Call}
use Rattle.answerbox.specs.Calls.{with_record}
use Rattle.answerbox.proofs.Callers.{calls_of_live}
use Rattle.address_space.specs.Memory.{Memory, drop_area}
use Rattle.address_space.specs.Sound as sound
use Rattle.address_space.proofs.Ending.{first_is_dropped}
use Rattle.address_space.proofs.Numbers.{next_at_drop}
use Rattle.address_space.proofs.Rows.{length_drop}
use Rattle.address_space.proofs.Soundness.{sound_drop}
use Rattle.switchboard.specs.State.{KernelState, Transition, is_alive, mark_ended}
use Rattle.switchboard.specs.Joins.{bare_reply, forget_call, declined_call}
use Rattle.switchboard.specs.Kept.{lent_phone}
use Rattle.cleanup.specs.Kill.{kill}
use Rattle.switchboard.specs.Sound.{IsSound}
use Rattle.switchboard.proofs.Lookups.{at_insert}
use Rattle.cleanup.proofs.Queues.{forget_step}
use Rattle.kernel_core.specs.Kernel.{kill_event}
use Rattle.kernel_core.specs.History.{killed_entries}
use Rattle.kernel_core.specs.AreaHistory.{AreasFit}
use Rattle.kernel_core.proofs.ByKill as end
use Rattle.kernel_core.proofs.HeldAreas.{area_dropped}
use Rattle.kernel_core.proofs.AreaSteps.{IsQuietStep, all_lead_back, put_back, after_quiet, IsOwn, own_call, quiet_vanishing, quiet_answer, quiet_drop, begun, lost_area}
use Rattle.kernel_core.proofs.AreaRequests.{After, HasRow, row_in, areas_later, hung_up}

-- a call of t elsewhere is forgotten
forget_quiet : (k : KernelState) (c : Call) → IsOwn k c
    → IsQuietStep k (forget_call k c).entries (forget_call k c).state
forget_quiet k c live =
    let d : Call = record c { caller = None } in
    subst (λ (j : KernelState). IsQuietStep k (entry.Forgotten c.number ∷ []) j) (sym (forget_step k c live))
    (record {
      quiet = (tt, tt);
      memory = refl;
      calls =
          put_back k.calls (with_record k.calls d) c.number.0 c d live
          (record { number = refl; from = refl; request = refl }) (λ m. at_insert k.calls.records c.number.0 m d);
    })

-- the entries fit, and the memory is sound, so that areas can be dropped
record IsDropping (t : TaskNo) (q : List Entry) (k : KernelState) : Type 0 where
  fits : AreasFit q k
  safe : sound.IsSound k.memory
  row : HasRow k.memory t

-- a step that leaves the memory keeps that
quietly :
    (t : TaskNo) (q : List Entry) (k : KernelState) (es : List Entry) (j : KernelState) → IsQuietStep k es j
    → IsDropping t q k → IsDropping t (on_top es q) j
quietly t q k es j step h = record {
  fits = after_quiet q k es j step h.fits;
  safe = rw step.memory h.safe;
  row = (h.row.0, rw step.memory h.row.1);
}

-- each part of a kill
ended :
    (t : TaskNo) (q : List Entry) (k : KernelState) (s : Transition) → IsDropping t q k → end.Ends t k s
    → IsDropping t (on_top s.entries q) s.state
ended t q k s h (end.hung_up p u _) =
    record { fits = hung_up t q k h.fits p (Some (phone.Connected u)); safe = h.safe; row = h.row }
ended t q k s h (end.hung_up_slammed p _) =
    record { fits = hung_up t q k h.fits p (Some phone.Slammed); safe = h.safe; row = h.row }
ended t q k s h (end.slammed u v p _ _) =
    quietly t q k (end.slamming u k p).entries (end.slamming u k p).state
    (record { quiet = (tt, tt); memory = refl; calls = all_lead_back k.calls }) h
ended t q k s h (end.vanished n c at _ stands _) =
    quietly t q k _ _ (quiet_vanishing k c (own_call q k h.fits n c stands.live)) h
ended t q k s h (end.bounced n c u at _ stands _ _) =
    quietly t q k _ _ (quiet_answer k c (own_call q k h.fits n c stands.live) (declined_call c (bare_reply ehangup))
    (record { number = refl; from = refl; request = refl }) (lent_phone c) phone.Free None u) h
ended t q k s h (end.dropped n c stands) = quietly t q k _ _ (quiet_drop k c (own_call q k h.fits n c stands.live) t) h
ended t q k s h (end.forgotten c is) =
    let f = calls_of_live k.calls t c is in
    quietly t q k _ _ (forget_quiet k c (own_call q k h.fits f.number c f.is)) h
ended t q k s h (end.lost base is) =
    let after : Memory = (drop_area k.memory t base).memory in
    let told : (drop_area k.memory t base).told ≡ Ok tt = first_is_dropped k.memory t base is in
    let long : length after.areas ≡ length k.memory.areas = length_drop k.memory t base in
    record {
      fits =
          lost_area q k t base after h.fits (area_dropped k.memory t base h.safe h.row.0 h.row.1 told)
          (next_at_drop k.memory t base);
      safe = sound_drop k.memory t base h.safe;
      row = (h.row.0, rw long h.row.1);
    }

pub areas_kill :
    (t : TaskNo) (q : List Entry) (k : KernelState) → AreasFit q k → IsSound k → is_alive k t ≡ true
    → After q (killed_entries t (kill_event k t)) (kill_event k t).state
areas_kill t q k fits safe alive =
    let p : List Entry = entry.Kill t ∷ q in
    let first : AreasFit p k = begun q k (entry.Kill t) (λ u b. refl) refl (λ m. refl) tt fits in
    let marked : IsDropping t p (mark_ended k t) = record {
      fits = record { lawful = first.lawful; held = first.held; stores = first.stores; calls = first.calls };
      safe = safe.memory.spaces;
      row = row_in k t safe alive;
    } in
    let done : IsDropping t (on_top (kill k t).entries p) (kill k t).state =
    end.by_kill (List Entry) on_top (λ _. refl) (λ xs ys r. on_top-append xs ys r) t (IsDropping t)
    (λ r j s h part. ended t r j s h part) p k marked in
    areas_later (on_top (kill k t).entries p) (kill k t).state done.fits
