-- The phone that is handed out, and the phones that wait for a connection.
use Rattle.std.proofs.Common.{◌≡◌, ℕ, suc, ◌+◌, Bool, true, false, Option, None, Some, List, [], ◌∷◌, refl, subst, arith}
use Rattle.std.specs.Prelude.{if◌then◌else◌, slice_get}
use Rattle.ipc_ids.specs.declared.numbers.TaskNo.{TaskNo}
use Rattle.ipc_ids.specs.declared.numbers.Label.{Label}
use Rattle.ipc_ids.specs.declared.numbers.Code.{Code}
use Rattle.ipc_ids.specs.declared.message.PhoneState.{PhoneState}
use Rattle.call_slab.specs.declared.call.Call.{Call}
use Rattle.call_slab.specs.declared.call.Place.{Place}
use Rattle.answerbox.specs.Calls.{CallTable, call_at, active_calls}
use Rattle.phone_table.specs.Phones.{row_at, is_usable}
use Rattle.switchboard.specs.declared.kept.Keeper.{Keeper}
use Rattle.switchboard.specs.declared.kept.Keeper.TheVariants.{Nobody, Receiver, Caller}
use Rattle.switchboard.specs.State.{KernelState, phone_at, label_of}
use Rattle.switchboard.specs.Kept.{AreKept, WaitsIn, who_keeps, kept_of, kept_phone, lent_of, lent_phone, first_usable_from, first_usable_of}
use Rattle.switchboard.proofs.Rows.{some_of}

-- the phone l is one of task t, and is usable
pub record IsUsable (k : KernelState) (t : TaskNo) (l : Label) : Type 0 where
  pub own : l.task ≡ t
  pub state : PhoneState
  pub is : phone_at k l.task l.phone.0 ≡ Some state
  pub usable : is_usable state (active_calls k.calls l) ≡ true

-- one of these states, from index i on
record IsUsableFrom (calls : CallTable) (t : TaskNo) (i : ℕ) (states : List PhoneState) (l : Label) : Type 0 where
  pub own : l.task ≡ t
  pub offset : ℕ
  pub phone : l.phone.0 ≡ i + offset
  pub state : PhoneState
  pub is : slice_get states offset ≡ Some state
  pub usable : is_usable state (active_calls calls l) ≡ true

usable_from : (calls : CallTable) (t : TaskNo) (i : ℕ) (states : List PhoneState) (l : Label) → first_usable_from calls t i states ≡ Some l → IsUsableFrom calls t i states l
usable_from calls t i [] l h = absurd (cc h)
usable_from calls t i (s ∷ states) l h = by_use (is_usable s (active_calls calls (label_of t i))) refl h (usable_from calls t (i + 1) states l) where
  by_use : (b : Bool) → is_usable s (active_calls calls (label_of t i)) ≡ b → (if b then Some (label_of t i) else first_usable_from calls t (i + 1) states) ≡ Some l → (first_usable_from calls t (i + 1) states ≡ Some l → IsUsableFrom calls t (i + 1) states l) → IsUsableFrom calls t i (s ∷ states) l
  by_use true it g later =
      let same : label_of t i ≡ l = cc in
      subst (IsUsableFrom calls t i (s ∷ states)) same (record { own = refl; offset = 0; phone = omega arith; state = s; is = refl; usable = it })
  by_use false it g later =
      let f = later g in
      record { own = f.own; offset = suc f.offset; phone = let p = f.phone in omega arith; state = f.state; is = f.is; usable = f.usable }

-- what is handed out is usable
pub usable_is : (k : KernelState) (t : TaskNo) (l : Label) → first_usable_of k t ≡ Some l → IsUsable k t l
usable_is k t l h =
    let row = some_of (row_at k.tasks.phones t.0) (first_usable_from k.calls t 0) l h in
    let f = usable_from k.calls t 0 row.0 l row.2 in
    record { own = f.own; state = f.state; is = placed row.0 f.offset f.state row.1 f.own (let p = f.phone in omega arith) f.is; usable = f.usable }
  where
    placed : (row : List PhoneState) (offset : ℕ) (state : PhoneState) → row_at k.tasks.phones t.0 ≡ Some row → l.task ≡ t → l.phone.0 ≡ offset → slice_get row offset ≡ Some state → phone_at k l.task l.phone.0 ≡ Some state
    placed row offset state is own same has = rw (own, same, is) has

-- the phone that a live call keeps waits, also where its holder keeps it

lent_kept : (keeper : Keeper) (from : TaskNo) (place : Place) (code : Code) (reserved : Option Label) (l : Label) → lent_of keeper place reserved ≡ Some l → kept_of keeper from place code reserved ≡ Some l
lent_kept Nobody from place code reserved l h = h
lent_kept Receiver from place code reserved l h = h
lent_kept Caller from place code reserved l h = absurd (cc h)

module _ (rows : List (List PhoneState)) (q : CallTable) (n : ℕ) (c : Call) (s : AreKept rows q) (is : call_at q n ≡ Some c) where
  waits : (o : Option Label) → ((l : Label) → o ≡ Some l → kept_phone c ≡ Some l) → WaitsIn rows o
  waits None h = tt
  waits (Some l) h = s.waits n l (rw is (h l refl))

  pub kept_waits : WaitsIn rows (kept_phone c)
  kept_waits = waits (kept_phone c) (λ l e. e)

  pub lent_waits : WaitsIn rows (lent_phone c)
  lent_waits = waits (lent_phone c) (lent_kept (who_keeps c) c.from.task c.place c.reply.code c.reserved)
