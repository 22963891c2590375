-- What is checked of a call, and the bytes that it brings, are determined by their laws.
use Rattle.std.proofs.Common.{◌≡◌, ℕ, ◌+◌, ◌-◌, ◌<◌, ◌≤◌, ◌⊎◌, inl, inr, List, length, Option, None, Some, refl, sym, ap, ◌∙◌, arith}
use Rattle.std.specs.Prelude.{Result, Ok, Err, slice_get, slice_index}
use Rattle.std.proofs.lemmas.Bool.{cases_eq, cases_lt}
use Rattle.ipc_ids.specs.declared.numbers.Code.{Code}
use Rattle.ipc_ids.specs.declared.numbers.TaskNo.{TaskNo}
use Rattle.ipc_ids.specs.declared.message.Msg.{Msg}
use Rattle.ipc_ids.specs.Codes.{enoent, eperm}
use Rattle.ipc_ids.specs.Methods.{connect_to_me, connect_me_to, data_write, data_read, share_out, share_in, first_user_method, phone_hungup}
use Rattle.address_space.specs.declared.area.Right.TheVariants.{Read}
use Rattle.address_space.specs.Areas.{Area, holder}
use Rattle.address_space.specs.Memory.{Memory, areas_of, area_at}
use Rattle.share_hooks.specs.ShareMoments.{out_before_send, offer}
use Rattle.switchboard.specs.State.{KernelState}
use Rattle.switchboard.proofs.Repeats.{by_test}
use Rattle.kernel_laws.specs.PoolLaws.{pool}
use Rattle.kernel_laws.specs.MemoryLaws.{IsLawfulRead}
use Rattle.kernel_laws.specs.DataLaws.{first, second, asked, IsFull, IsLawfulCopy, IsLawfulAsking, AreCutDown, IsLawfulOffer, IsAreaAsked, IsLawfulWish}
use Rattle.kernel_laws.specs.CallCodes.{IsNoCall, cause_of, IsCheck}
use Rattle.kernel_laws.proofs.OneArea.{found_readable, none_readable}
use Rattle.address_space.specs.Sound as spaces
use Rattle.kernel_laws.proofs.LawfulShares.{offer_is_lawful}
use Rattle.kernel_laws.proofs.LawfulData.{decided_read, decided_count}
use Rattle.kernel_determined.proofs.Same.{list_same}
use Rattle.std.proofs.lemmas.Option.{slice_get_past, slice_get-get_or, none-some}

abbrev told_ok : List ℕ → Result (List ℕ) Code
told_ok x = Ok x

ok_ok : (x y : List ℕ) → told_ok x ≡ told_ok y → x ≡ y
ok_ok x y e = cc

ok_err : {A : Type 0} (x : A) (code : Code) → Ok x ≡ Err code → ⊥
ok_err x code e = cc

-- ---- bytes

pub bytes_read_same : (m : Memory) (t : TaskNo) (at count : ℕ) (xs ys : List ℕ) → IsLawfulRead m t at count (Ok xs)
    → IsLawfulRead m t at count (Ok ys) → xs ≡ ys
bytes_read_same m t at count xs ys f g = elim (cases_lt 0 count) [
  | inr none ↦ let z : count ≡ 0 = omega (arith, none) in ok_ok xs ys (f.none z ∙ sym (g.none z))
  | inl some ↦ by_holder (holder at count Read (areas_of m t)) refl (omega (arith, some))
] where
  by_holder : (o : Option Area) → holder at count Read (areas_of m t) ≡ o → 1 ≤ count → xs ≡ ys
  by_holder None e some = absurd (ok_err xs eperm (f.refused some (λ a r. none_readable m t at count a e r)))
  by_holder (Some h) e some =
      let may = found_readable m t at count h e in
      let u = f.bytes h some may in
      let v = g.bytes h some may in
      let um = u.many in
      let vm = v.many in
      let from = may.spans.from in
      list_same xs ys (λ i. elim (cases_lt i count) [
        | inl few ↦ u.each i (at + i - h.base) few (omega arith) ∙ sym (v.each i (at + i - h.base) few (omega arith))
        | inr far ↦ slice_get_past xs i (omega (arith, um, far)) ∙ sym (slice_get_past ys i (omega (arith, vm, far)))
      ])

-- ---- a DATA_WRITE that is sent

module _ (m : Memory) (t : TaskNo) (args : List ℕ) (used : ℕ) (a b : Result (List ℕ) Code)
    (f : IsLawfulCopy m t args used a) (g : IsLawfulCopy m t args used b) where
  pub copy_same : a ≡ b
  copy_same = elim (decided_count args) [
    | inl h ↦ f.large.1 h.0 ∙ sym (g.large.1 h.0)
    | inr h ↦ elim (decided_read m t (first args) (asked args)) [
      | inl shut ↦ f.closed.1 (h.0, shut.0) ∙ sym (g.closed.1 (h.0, shut.0))
      | inr can ↦ elim (cases_lt 67108864 (used + asked args)) [
        | inl full ↦ f.full.1 (h.0, can.0, full) ∙ sym (g.full.1 (h.0, can.0, full))
        | inr fits ↦ (let not_full : IsFull used (asked args) → ⊥ = λ over. omega (arith, over, fits) in
            let x = f.sent.1 (h.0, can.0, not_full) in
            let y = g.sent.1 (h.0, can.0, not_full) in
            x.1 ∙ ap Ok (bytes_read_same m t (first args) (asked args) x.0 y.0 (f.bytes x.0 x.1) (g.bytes y.0 y.1))
            ∙ sym y.1)
      ]
    ]
  ]

pub asking_same : (args : List ℕ) (a b : Result ℕ Code) → IsLawfulAsking args a → IsLawfulAsking args b → a ≡ b
asking_same args a b f g = elim (decided_count args) [
  | inl h ↦ f.large.1 h.0 ∙ sym (g.large.1 h.0)
  | inr h ↦ f.sent.1 h.0 ∙ sym (g.sent.1 h.0)
]

pub wish_same : (args : List ℕ) (a b : Result Unit Code) → IsLawfulWish args a → IsLawfulWish args b → a ≡ b
wish_same args (Ok x) b f g = sym (g.sent.1 (f.sent.0 refl))
wish_same args (Err x) (Ok y) f g = f.sent.1 (g.sent.0 refl)
wish_same args (Err x) (Err y) f g =
    let none = λ (h : IsAreaAsked args). ok_err tt x (sym (f.sent.1 h)) in
    f.refused.1 none ∙ sym (g.refused.1 (λ h. ok_err tt y (sym (g.sent.1 h))))

-- ---- a SHARE_OUT that is sent

-- what it can come to
offer_comes : (args : List ℕ) (o : Option Area) → (offer args o ≡ Ok tt)
    ⊎ ((offer args o ≡ Err enoent) ⊎ (offer args o ≡ Err eperm))
offer_comes args None = inr (inl refl)
offer_comes args (Some a) = by_test (λ (r : Result Unit Code). (r ≡ Ok tt) ⊎ ((r ≡ Err enoent) ⊎ (r ≡ Err eperm))) _ _
    _ (λ _. inl refl) (λ _. inr (inr refl))

module _ (m : Memory) (t : TaskNo) (args : List ℕ) (a d : Result Unit Code) (f : IsLawfulOffer m t args a)
    (g : IsLawfulOffer m t args d) where
  offer_as : (d ≡ Ok tt) ⊎ ((d ≡ Err enoent) ⊎ (d ≡ Err eperm)) → a ≡ d
  offer_as (inl e) = f.sent.1 (g.sent.0 e) ∙ sym e
  offer_as (inr (inl e)) = f.gone.1 (g.gone.0 e) ∙ sym e
  offer_as (inr (inr e)) = f.unlike.1 (g.unlike.0 e) ∙ sym e

pub offer_same : (m : Memory) (t : TaskNo) (args : List ℕ) (a b : Result Unit Code) → spaces.IsSound m
    → IsLawfulOffer m t args a → IsLawfulOffer m t args b → a ≡ b
offer_same m t args a b sound f g =
    let law = offer_is_lawful m t args sound in
    let comes = offer_comes args (area_at m t (first args)) in
    offer_as m t args a (out_before_send m t args) f law comes
    ∙ sym (offer_as m t args b (out_before_send m t args) g law comes)

-- ---- the arguments of a data call

pub cut_same : (args xs ys : List ℕ) → AreCutDown args xs → AreCutDown args ys → xs ≡ ys
cut_same args xs ys f g = elim (cases_lt 65536 (second args)) [
  | inr few ↦ f.few few ∙ sym (g.few few)
  | inl large ↦ list_same xs ys (λ i. by (f.five large) (g.five large) i (cases_lt i 5) (cases_eq i 1))
] where
  by : length xs ≡ 5 → length ys ≡ 5 → (i : ℕ) → (i < 5) ⊎ (5 ≤ i) → (i ≡ 1) ⊎ (i ≡ 1 → ⊥)
      → slice_get xs i ≡ slice_get ys i
  by x y i (inr far) one = slice_get_past xs i (omega (arith, x, far)) ∙ sym (slice_get_past ys i (omega (arith, y, far)))
  by x y i (inl few) (inl one) =
      slice_get-get_or xs i 0 (omega (arith, x, few)) ∙ ap (λ (j : ℕ). Some (slice_index xs j)) one
      ∙ ap Some (f.second ∙ sym g.second)
      ∙ ap (λ (j : ℕ). Some (slice_index ys j)) (sym one) ∙ sym (slice_get-get_or ys i 0 (omega (arith, y, few)))
  by x y i (inl few) (inr other) =
      slice_get-get_or xs i 0 (omega (arith, x, few)) ∙ ap Some (f.others i few other ∙ sym (g.others i few other))
      ∙ sym (slice_get-get_or ys i 0 (omega (arith, y, few)))

-- ---- a check

module _ (k : KernelState) (t : TaskNo) (msg : Msg) (sound : spaces.IsSound k.memory) (may : IsNoCall msg.method → ⊥)
    (a b : Option Code) (f : IsCheck k t msg a) (g : IsCheck k t msg b) where
  no_phone : (code : Code) → (z : Option Code) → z ≡ Some code → z ≡ None → ⊥
  no_phone code z r s = none-some code (sym s ∙ r)

  connected : msg.method ≡ connect_me_to → (x y : Option Code) → a ≡ x → b ≡ y → x ≡ y
  connected e None None p q = refl
  connected e None (Some y) p q = absurd (no_phone y b q ((g.connect e).0.1 ((f.connect e).0.0 p)))
  connected e (Some x) None p q = absurd (no_phone x a p ((f.connect e).0.1 ((g.connect e).0.0 q)))
  connected e (Some x) (Some y) p q =
      let u = (f.connect e).1.1 (λ h. no_phone x a p ((f.connect e).0.1 h)) in
      let v = (g.connect e).1.1 (λ h. no_phone y b q ((g.connect e).0.1 h)) in
      sym p ∙ u ∙ sym v ∙ q

  connected_same : msg.method ≡ connect_me_to → a ≡ b
  connected_same e = connected e a b refl refl

  other : (msg.method ≡ connect_to_me) ⊎ (first_user_method ≤ msg.method) → a ≡ b
  other h = f.others h ∙ sym (g.others h)

  pub check_same : a ≡ b
  check_same = elim (cases_lt msg.method first_user_method) [
    | inr user ↦ other (inr user)
    | inl system ↦ elim (cases_eq msg.method connect_to_me) [
      | inl e ↦ other (inl e)
      | inr n1 ↦ elim (cases_eq msg.method connect_me_to) [
        | inl e ↦ connected_same e
        | inr n2 ↦ elim (cases_eq msg.method data_write) [
          | inl e ↦ let x = f.write e sound in let y = g.write e sound in x.2
              ∙ ap cause_of (copy_same k.memory t msg.args (pool k) x.0 y.0 x.1 y.1) ∙ sym y.2
          | inr n3 ↦ elim (cases_eq msg.method data_read) [
            | inl e ↦ let x = f.read e in let y = g.read e in x.2 ∙ ap cause_of (asking_same msg.args x.0 y.0 x.1 y.1)
                ∙ sym y.2
            | inr n4 ↦ elim (cases_eq msg.method share_out) [
              | inl e ↦ let x = f.out e sound in let y = g.out e sound in x.2
                  ∙ ap cause_of (offer_same k.memory t msg.args x.0 y.0 sound x.1 y.1) ∙ sym y.2
              | inr n5 ↦ elim (cases_eq msg.method share_in) [
                | inl e ↦ let x = f.inward e in let y = g.inward e in x.2
                    ∙ ap cause_of (wish_same msg.args x.0 y.0 x.1 y.1) ∙ sym y.2
                | inr n6 ↦ elim (cases_eq msg.method phone_hungup) [
                  | inl e ↦ absurd (may (inl e))
                  | inr n0 ↦ absurd (may (inr (omega (arith, n0, n1, n2, n3, n4, n5, n6), system)))
                ]
              ]
            ]
          ]
        ]
      ]
    ]
  ]
