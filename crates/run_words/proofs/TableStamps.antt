-- What the table of calls answers, and what becomes of it, with other stamps of the calls.
use Rattle.std.proofs.Common.{◌≡◌, ℕ, ◌+◌, ◌≤◌, Bool, true, false, T, ◌&&◌, cond, List, [], ◌∷◌, map, fold, Option, None, Some, option_map, nat_lt, nat_le, refl, sym, ap, subst, ◌∙◌, arith}
use Rattle.std.specs.Prelude.{⊤, if◌then◌else◌}
use Rattle.std.specs.Ordering.{nat_cmp, eq_by_cmp, is_lt}
use Rattle.std.specs.Cmp.{nat_cmp_total}
use Rattle.std.specs.Option.{option_map_or}
use Rattle.std.specs.FinMap.{FinMap, find, is_sorted, get, insert, remove, entries, entries_sorted, entries-from_sorted, get-entries, get-insert, get-remove, same_map, nat_cmp-IsAntisymmetric}
use Rattle.std.specs.FinMap.Entries.{below_all}
use Rattle.ipc_ids.specs.declared.numbers.TaskNo.{TaskNo}
use Rattle.ipc_ids.specs.declared.numbers.Label.{Label}
use Rattle.call_slab.specs.declared.call.Call.{Call}
use Rattle.call_slab.specs.declared.call.Place.{Place}
use Rattle.answerbox.specs.Calls.{CallTable, call_at, front, same_place, sooner, with_record, put_at, enqueue, without_call, without_caller, first_from, calls_of, is_caller, is_active_on, count_of, sum_of, bytes_in, used, calls_at, calls_by, active_calls}
use Rattle.kernel_core.proofs.InEvent.{same_place-true}
use Rattle.run_words.specs.Stamped.{Rises, Shifts, restamp, restamped_entry, restamped_records, restamped}

-- the parts of a table
abbrev table : FinMap nat_cmp Call → ℕ → ℕ → CallTable
table records number stamp = record { records = records; next_number = number; next_stamp = stamp }

-- what stands at the place, or nothing
abbrev StandsAt : Place → Option Call → Type 0
StandsAt place None = ⊤
StandsAt place (Some c) = c.place ≡ place

-- the best of two at a place
abbrev pick : Place → Option Call → Call → Option Call
pick place best c = if same_place c.place place then sooner best c else best

stands_sooner : (place : Place) (o : Option Call) (c : Call) → StandsAt place o → c.place ≡ place
    → StandsAt place (sooner o c)
stands_sooner place None c h e = e
stands_sooner place (Some b) c h e =
    elim (nat_lt c.stamp b.stamp) as (λ x. StandsAt place (cond x (Some c) (Some b))) [ true ↦ e | false ↦ h ]

stands_picked : (place : Place) (o : Option Call) (c : Call) → StandsAt place o → (b : Bool)
    → same_place c.place place ≡ b → StandsAt place (cond b (sooner o c) o)
stands_picked place o c h true e = stands_sooner place o c h (same_place-true c.place place e)
stands_picked place o c h false e = h

module _ (f : Place → ℕ → ℕ) where
  -- ---- the records
  below_same : (n : ℕ) (es : List (ℕ × Call)) → below_all nat_cmp n (map (restamped_entry f) es) ≡ below_all nat_cmp n es
  below_same n [] = refl
  below_same n (e ∷ es) = ap (λ (b : Bool). is_lt (nat_cmp n e.0) && b) (below_same n es)

  sorted_same : (es : List (ℕ × Call)) → is_sorted nat_cmp (map (restamped_entry f) es) ≡ is_sorted nat_cmp es
  sorted_same [] = refl
  sorted_same (e ∷ es) =
      ap (λ (b : Bool). b && is_sorted nat_cmp (map (restamped_entry f) es)) (below_same e.0 es)
      ∙ ap (λ (b : Bool). below_all nat_cmp e.0 es && b) (sorted_same es)

  entries_at : (m : FinMap nat_cmp Call) → entries (restamped_records f m) ≡ map (restamped_entry f) (entries m)
  unfolding restamped_records
  entries_at m = entries-from_sorted nat_cmp (map (restamped_entry f) (entries m)) (subst T (sym (sorted_same (entries m))) (entries_sorted m))

  -- a choice between two
  chosen : (b : Bool) (x y : Option Call)
      → cond b (option_map (restamp f) x) (option_map (restamp f) y) ≡ option_map (restamp f) (cond b x y)
  chosen true x y = refl
  chosen false x y = refl

  find_at : (q : ℕ) (es : List (ℕ × Call))
      → find nat_cmp q (map (restamped_entry f) es) ≡ option_map (restamp f) (find nat_cmp q es)
  find_at q [] = refl
  find_at q (e ∷ es) =
      ap (λ (o : Option Call). cond (eq_by_cmp nat_cmp q e.0) (Some (restamp f e.1)) o) (find_at q es)
      ∙ chosen (eq_by_cmp nat_cmp q e.0) (Some e.1) (find nat_cmp q es)

  pub found : (m : FinMap nat_cmp Call) (q : ℕ) → get (restamped_records f m) q ≡ option_map (restamp f) (get m q)
  found m q =
      get-entries (restamped_records f m) q
      ∙ ap (find nat_cmp q) (entries_at m)
      ∙ find_at q (entries m)
      ∙ ap (option_map (restamp f)) (sym (get-entries m q))

  inserted : (m : FinMap nat_cmp Call) (n : ℕ) (c : Call)
      → insert (restamped_records f m) n (restamp f c) ≡ restamped_records f (insert m n c)
  inserted m n c =
      same_map nat_cmp_total nat_cmp-IsAntisymmetric _ _ (λ q.
      get-insert nat_cmp_total (restamped_records f m) n (restamp f c) q
      ∙ ap (λ (o : Option Call). cond (eq_by_cmp nat_cmp q n) (Some (restamp f c)) o) (found m q)
      ∙ chosen (eq_by_cmp nat_cmp q n) (Some c) (get m q)
      ∙ ap (option_map (restamp f)) (sym (get-insert nat_cmp_total m n c q))
      ∙ sym (found (insert m n c) q))

  removed : (m : FinMap nat_cmp Call) (n : ℕ)
      → remove (restamped_records f m) n ≡ restamped_records f (remove m n)
  removed m n =
      same_map nat_cmp_total nat_cmp-IsAntisymmetric _ _ (λ q.
      get-remove nat_cmp_total (restamped_records f m) n q
      ∙ ap (λ (o : Option Call). cond (eq_by_cmp nat_cmp q n) None o) (found m q)
      ∙ chosen (eq_by_cmp nat_cmp q n) None (get m q)
      ∙ ap (option_map (restamp f)) (sym (get-remove nat_cmp_total m n q))
      ∙ sym (found (remove m n) q))

  -- ---- the counts
  counted : (test : Call → Bool) → ((c : Call) → test (restamp f c) ≡ test c) → (es : List (ℕ × Call))
      → count_of test (map (restamped_entry f) es) ≡ count_of test es
  counted test same [] = refl
  counted test same (e ∷ es) =
      ap (λ (b : Bool). (if b then 1 else 0) + count_of test (map (restamped_entry f) es)) (same e.1)
      ∙ ap (λ (n : ℕ). (if test e.1 then 1 else 0) + n) (counted test same es)

  summed : (es : List (ℕ × Call)) → sum_of bytes_in (map (restamped_entry f) es) ≡ sum_of bytes_in es
  summed [] = refl
  summed (e ∷ es) = ap (λ (n : ℕ). bytes_in e.1 + n) (summed es)

  first_from_at : (t : TaskNo) (low : ℕ) (es : List (ℕ × Call))
      → first_from t low (map (restamped_entry f) es) ≡ option_map (restamp f) (first_from t low es)
  first_from_at t low [] = refl
  first_from_at t low (e ∷ es) =
      ap (λ (o : Option Call). cond (nat_le low e.0 && is_caller t e.1.caller) (Some (restamp f e.1)) o) (first_from_at t low es)
      ∙ chosen (nat_le low e.0 && is_caller t e.1.caller) (Some e.1) (first_from t low es)

  -- ---- the table
  module _ (d : ℕ) where
    pub count_at : (calls : CallTable) (place : Place) → calls_at (restamped f d calls) place ≡ calls_at calls place
    count_at calls place =
        let test : Call → Bool = λ c. same_place c.place place in
        ap (count_of test) (entries_at calls.records) ∙ counted test (λ c. refl) (entries calls.records)

    pub count_by : (calls : CallTable) (t : TaskNo) → calls_by (restamped f d calls) t ≡ calls_by calls t
    count_by calls t =
        let test : Call → Bool = λ c. is_caller t c.caller in
        ap (count_of test) (entries_at calls.records) ∙ counted test (λ c. refl) (entries calls.records)

    pub count_active : (calls : CallTable) (label : Label) → active_calls (restamped f d calls) label ≡ active_calls calls label
    count_active calls label =
        ap (count_of (is_active_on label)) (entries_at calls.records) ∙ counted (is_active_on label) (λ c. refl) (entries calls.records)

    pub used_at : (calls : CallTable) → used (restamped f d calls) ≡ used calls
    used_at calls = ap (sum_of bytes_in) (entries_at calls.records) ∙ summed (entries calls.records)

    pub first_made : (calls : CallTable) (t : TaskNo)
        → calls_of (restamped f d calls) t ≡ option_map (restamp f) (calls_of calls t)
    first_made calls t = ap (first_from t 0) (entries_at calls.records) ∙ first_from_at t 0 (entries calls.records)

    pub recorded : (calls : CallTable) (c : Call)
        → with_record (restamped f d calls) (restamp f c) ≡ restamped f d (with_record calls c)
    recorded calls c = ap (λ r. table r calls.next_number (calls.next_stamp + d)) (inserted calls.records c.number.0 c)

    pub left : (calls : CallTable) (n : ℕ) → without_call (restamped f d calls) n ≡ restamped f d (without_call calls n)
    left calls n = ap (λ r. table r calls.next_number (calls.next_stamp + d)) (removed calls.records n)

    forgot : (calls : CallTable) (o : Option Call)
        → option_map_or (λ c. with_record (restamped f d calls) (record c { caller = None })) (option_map (restamp f) o) (restamped f d calls)
        ≡ restamped f d (option_map_or (λ c. with_record calls (record c { caller = None })) o calls)
    forgot calls None = refl
    forgot calls (Some c) = recorded calls (record c { caller = None })

    pub forgotten : (calls : CallTable) (n : ℕ)
        → without_caller (restamped f d calls) n ≡ restamped f d (without_caller calls n)
    forgotten calls n =
        ap
        (λ (o : Option Call). option_map_or (λ c. with_record (restamped f d calls) (record c { caller = None })) o (restamped f d calls))
        (found calls.records n)
        ∙ forgot calls (call_at calls n)

    module _ (n : ℕ) (shifts : Shifts n d f) where
      next_is : (s : ℕ) → (s + d) + 1 ≡ (s + 1) + d
      next_is s = omega arith

      -- the call goes into the table with the next stamp
      stamped : (calls : CallTable) (c : Call) → n ≤ calls.next_stamp
          → insert (restamped_records f calls.records) c.number.0 (record c { stamp = calls.next_stamp + d })
          ≡ restamped_records f (insert calls.records c.number.0 (record c { stamp = calls.next_stamp }))
      stamped calls c h =
          ap
          (λ (s : ℕ). insert (restamped_records f calls.records) c.number.0 (record c { stamp = s }))
          (sym (shifts c.place calls.next_stamp h))
          ∙ inserted calls.records c.number.0 (record c { stamp = calls.next_stamp })

      pub put : (calls : CallTable) (c : Call) (place : Place) → n ≤ calls.next_stamp
          → put_at (restamped f d calls) c place ≡ restamped f d (put_at calls c place)
      put calls c place h =
          ap (λ r. table r calls.next_number ((calls.next_stamp + d) + 1)) (stamped calls (record c { place = place }) h)
          ∙ ap (table _ calls.next_number) (next_is calls.next_stamp)

      pub queued : (calls : CallTable) (c : Call) → n ≤ calls.next_stamp
          → enqueue (restamped f d calls) c ≡ restamped f d (enqueue calls c)
      queued calls c h =
          ap (λ r. table r (calls.next_number + 1) ((calls.next_stamp + d) + 1)) (stamped calls c h)
          ∙ ap (table _ (calls.next_number + 1)) (next_is calls.next_stamp)

    -- ---- the first call of a place
    module _ (rises : Rises f) where
      sooner_at : (place : Place) (o : Option Call) (c : Call) → StandsAt place o → c.place ≡ place
          → sooner (option_map (restamp f) o) (restamp f c) ≡ option_map (restamp f) (sooner o c)
      sooner_at place None c h e = refl
      sooner_at place (Some b) c h e =
          let test : nat_lt (f c.place c.stamp) (f b.place b.stamp) ≡ nat_lt c.stamp b.stamp =
          ap (λ (p : Place). nat_lt (f p c.stamp) (f b.place b.stamp)) (e ∙ sym h)
          ∙ sym (rises b.place c.stamp b.stamp) in
          ap (λ (x : Bool). cond x (Some (restamp f c)) (Some (restamp f b))) test
          ∙ chosen (nat_lt c.stamp b.stamp) (Some c) (Some b)

      picked : (place : Place) (o : Option Call) (c : Call) → StandsAt place o → (b : Bool)
          → same_place c.place place ≡ b
          → cond b (sooner (option_map (restamp f) o) (restamp f c)) (option_map (restamp f) o)
          ≡ option_map (restamp f) (cond b (sooner o c) o)
      picked place o c h true e = sooner_at place o c h (same_place-true c.place place e)
      picked place o c h false e = refl

      folded : (place : Place) (es : List (ℕ × Call)) (o : Option Call) → StandsAt place o
          → fold (pick place) (option_map (restamp f) o) (map (λ e. e.1) (map (restamped_entry f) es))
          ≡ option_map (restamp f) (fold (pick place) o (map (λ e. e.1) es))
      folded place [] o h = refl
      folded place (e ∷ es) o h =
          ap
          (λ (x : Option Call). fold (pick place) x (map (λ (y : ℕ × Call). y.1) (map (restamped_entry f) es)))
          (picked place o e.1 h (same_place e.1.place place) refl)
          ∙ folded place es (pick place o e.1) (stands_picked place o e.1 h (same_place e.1.place place) refl)

      pub front_at : (calls : CallTable) (place : Place)
          → front (restamped f d calls) place ≡ option_map (restamp f) (front calls place)
      front_at calls place =
          ap (λ (es : List (ℕ × Call)). fold (pick place) None (map (λ (y : ℕ × Call). y.1) es)) (entries_at calls.records)
          ∙ folded place (entries calls.records) None tt
