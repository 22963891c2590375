-- The codes with which calls fail that are tested, and which phone is kept.
use Rattle.std.proofs.Common.{◌≡◌, ℕ, zero, suc, ◌<◌, inl, inr, List, [], ◌∷◌, Option, None, Some, Result, Ok, Err, refl, ap, sym, subst, ◌∙◌, arith, nat_lt}
use Rattle.std.specs.Prelude.{⊤, ◌+◌, ◌==◌, ◌&&◌, slice_get, unwrap_or}
use Rattle.ipc_ids.specs.declared.numbers.Code.{Code}
use Rattle.ipc_ids.specs.declared.numbers.Label.{Label}
use Rattle.ipc_ids.specs.declared.numbers.TaskNo.{TaskNo}
use Rattle.ipc_ids.specs.declared.message.PhoneState.{PhoneState}
use Rattle.ipc_ids.specs.declared.message.PhoneState.TheVariants.{Free, Connecting}
use Rattle.ipc_ids.specs.declared.entry.Entry.{Entry}
use Rattle.ipc_ids.specs.Codes.{eperm, elimit}
use Rattle.ipc_ids.specs.Methods.{data_write, data_read, share_out, share_in}
use Rattle.ipc_ids.specs.Tables.{most_data, most_buffered}
use Rattle.phone_table.specs.Phones.{row_at, state_at}
use Rattle.address_space.specs.Areas.{Area, is_subset, holder}
use Rattle.address_space.specs.declared.area.Right.TheVariants.{Read}
use Rattle.address_space.specs.Memory.{Memory, areas_of, spot_in, read_at, read, area_at}
use Rattle.data_hooks.specs.DataMoments.{address_of, count_of, is_restricted, kept_count, pooled, write_kept, write_before_send, read_before_send}
use Rattle.share_hooks.specs.ShareMoments.{base_of, pages_of, rights_of, is_between, offer, out_before_send, in_before_send}
use Rattle.switchboard.specs.State.{KernelState, phone_at}
use Rattle.switchboard.specs.Kept.{first_usable_of}
use Rattle.switchboard.proofs.Repeats.{by_test}
use Rattle.switchboard.proofs.Usable.{IsUsable, usable_is}
use Rattle.kernel_laws.proofs.UsablePhones.{least_one}
use Rattle.route_laws.specs.Leads.{Beginning}
use Rattle.route_laws.specs.PhoneHistory.{TellPhones}
use Rattle.run_determined.specs.PhoneCauses.{IsLowest, IsCopyCode, IsOfferCode, IsTestedCode}

-- ---- codes

-- where it fails, its code is so
abbrev pub FailsWith : {A : Type 0} → (Code → Type 0) → Result A Code → Type 0
FailsWith IsSo (Ok x) = ⊤
FailsWith IsSo (Err code) = IsSo code

abbrev IsLimit : Code → Type 0
IsLimit code = code ≡ elimit

abbrev IsPermission : Code → Type 0
IsPermission code = code ≡ eperm

count_code : (args : List ℕ) → FailsWith IsLimit (kept_count args)
count_code args =
    by_test (λ (r : Result ℕ Code). FailsWith IsLimit r) (nat_lt most_data (count_of args)) _ _
    (λ _. by_test (λ (r : Result ℕ Code). FailsWith IsLimit r) (is_restricted args) _ _ (λ _. tt) (λ _. refl))
    (λ _. tt)

bytes_code : (m : Memory) (t : TaskNo) (at count : ℕ) → FailsWith IsPermission (read m t at count)
bytes_code m t at count =
    by_test (λ (r : Result (List ℕ) Code). FailsWith IsPermission r) (count == 0) _ _ (λ _. tt)
    (λ _. by_area (holder at count Read (areas_of m t))) where
      by_area : (o : Option Area) → FailsWith IsPermission (read_at m count (spot_in at o))
      by_area None = refl
      by_area (Some a) = tt

pooled_code : (used count : ℕ) (r : Result (List ℕ) Code) → FailsWith IsPermission r
    → FailsWith IsCopyCode (pooled used count r)
pooled_code used count (Ok bytes) why =
    by_test (λ (r : Result (List ℕ) Code). FailsWith IsCopyCode r) (nat_lt most_buffered (used + count)) _ _
    (λ _. inr (inr refl)) (λ _. tt)
pooled_code used count (Err code) why = inr (inl why)

offer_code : (args : List ℕ) (o : Option Area) → FailsWith IsOfferCode (offer args o)
offer_code args None = inl refl
offer_code args (Some a) =
    by_test (λ (r : Result Unit Code). FailsWith IsOfferCode r)
    ((a.pages == pages_of args) && (is_between 1 3 (rights_of args) && is_subset (rights_of args) a.rights)) _ _
    (λ _. tt) (λ _. inr refl)

wish_code : (args : List ℕ) → FailsWith IsPermission (in_before_send args)
wish_code args =
    by_test (λ (r : Result Unit Code). FailsWith IsPermission r)
    (is_between 1 16 (pages_of args) && is_between 1 3 (rights_of args)) _ _ (λ _. tt) (λ _. refl)

-- so of each method that is tested

fails_as : {A : Type 0} (P Q : Code → Type 0) → ((code : Code) → P code → Q code) → (r : Result A Code)
    → FailsWith P r → FailsWith Q r
fails_as P Q to (Ok x) why = tt
fails_as P Q to (Err code) why = to code why

pub write_tested : (method : ℕ) (m : Memory) (t : TaskNo) (args : List ℕ) (used : ℕ) → method ≡ data_write
    → FailsWith (IsTestedCode method) (write_before_send m t args used)
write_tested method m t args used says =
    fails_as IsCopyCode (IsTestedCode method) (λ code why. inr (inl (says, why))) (write_before_send m t args used)
    (by_count (kept_count args) (count_code args)) where
      by_count : (r : Result ℕ Code) → FailsWith IsLimit r → FailsWith IsCopyCode (write_kept m t args used r)
      by_count (Ok count) why =
          pooled_code used count (read m t (address_of args) count) (bytes_code m t (address_of args) count)
      by_count (Err code) why = inl why

pub read_tested : (method : ℕ) (args : List ℕ) → method ≡ data_read
    → FailsWith (IsTestedCode method) (read_before_send args)
read_tested method args says =
    fails_as IsLimit (IsTestedCode method) (λ code why. inr (inr (inl (says, why)))) (read_before_send args)
    (count_code args)

pub out_tested : (method : ℕ) (m : Memory) (t : TaskNo) (args : List ℕ) → method ≡ share_out
    → FailsWith (IsTestedCode method) (out_before_send m t args)
out_tested method m t args says =
    fails_as IsOfferCode (IsTestedCode method) (λ code why. inr (inr (inr (inl (says, why)))))
    (out_before_send m t args) (offer_code args (area_at m t (base_of args)))

pub in_tested : (method : ℕ) (args : List ℕ) → method ≡ share_in
    → FailsWith (IsTestedCode method) (in_before_send args)
in_tested method args says =
    fails_as IsPermission (IsTestedCode method) (λ code why. inr (inr (inr (inr (says, why))))) (in_before_send args)
    (wish_code args)

-- ---- the phone that is kept

none_behind : (xs : List PhoneState) (p q : ℕ) (x : PhoneState) → p < q → slice_get xs p ≡ None
    → slice_get xs q ≡ Some x → ⊥
none_behind [] p q x less none some = absurd (cc some)
none_behind (y ∷ ys) zero q x less none some = absurd (cc none)
none_behind (y ∷ ys) (suc p) zero x less none some = absurd (omega (arith, less))
none_behind (y ∷ ys) (suc p) (suc q) x less none some = none_behind ys p q x (omega (arith, less)) none some

-- a task that has a phone has each with a lower number
lower_is_there : (rows : List (List PhoneState)) (t p q : ℕ) (x : PhoneState) → p < q → state_at rows t p ≡ None
    → state_at rows t q ≡ Some x → ⊥
lower_is_there rows t p q x less none some = by_row (row_at rows t) refl none some where
  by_row : (row : Option (List PhoneState)) → row_at rows t ≡ row → state_at rows t p ≡ None
      → state_at rows t q ≡ Some x → ⊥
  by_row None at none some = let h = rw at at some in absurd (cc h)
  by_row (Some row) at none some =
      let gone : slice_get row p ≡ None = rw at at none in
      let there : slice_get row q ≡ Some x = rw at at some in
      none_behind row p q x less gone there

pub is_lowest : (b : Beginning) (q : List Entry) (k : KernelState) (t : TaskNo) (l : Label)
    → first_usable_of k t ≡ Some l → TellPhones b.wires q k.tasks.phones → IsLowest b l q Connecting
is_lowest b q k t l first phones p less free =
    by_state (state_at k.tasks.phones l.task.0 p) refl (sym (phones l.task.0 p) ∙ free) where
      u : IsUsable k t l
      u = usable_is k t l first

      by_state : (o : Option PhoneState) → state_at k.tasks.phones l.task.0 p ≡ o → unwrap_or o Free ≡ Free → ⊥
      by_state None at e = lower_is_there k.tasks.phones l.task.0 p l.phone.0 u.state less at u.is
      by_state (Some x) at e =
          least_one k t l first p less
          (inl (subst (λ (v : TaskNo). phone_at k v p ≡ Some Free) u.own (at ∙ ap Some e)))
