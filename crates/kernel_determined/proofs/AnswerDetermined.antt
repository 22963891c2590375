-- An answer is determined by what is said of it.
use Rattle.std.proofs.Common.{◌≡◌, ℕ, ◌+◌, true, ◌⊎◌, inl, inr, List, [], ◌∷◌, length, Option, Some, refl, sym, ap, subst, ◌∙◌, arith}
use Rattle.std.specs.Prelude.{Result, Ok}
use Rattle.std.proofs.lemmas.Bool.{cases_eq, cases_lt}
use Rattle.ipc_ids.specs.declared.numbers.Code.{Code}
use Rattle.ipc_ids.specs.declared.numbers.Label.{Label}
use Rattle.ipc_ids.specs.declared.numbers.StoreNo.{StoreNo}
use Rattle.ipc_ids.specs.declared.numbers.TaskNo.{TaskNo}
use Rattle.ipc_ids.specs.declared.message.Reply.{Reply}
use Rattle.ipc_ids.specs.declared.message.PhoneState.TheVariants.{Connected}
use Rattle.ipc_ids.specs.declared.message.Outcome.TheVariants as outcome
use Rattle.ipc_ids.specs.declared.entry.Entry.{Entry}
use Rattle.ipc_ids.specs.declared.entry.Entry.TheVariants as entry
use Rattle.ipc_ids.specs.Codes.{eok, enoent, elimit}
use Rattle.ipc_ids.specs.Methods.{connect_to_me, connect_me_to, data_write, data_read, share_out, share_in}
use Rattle.call_slab.specs.declared.call.Call.{Call}
use Rattle.address_space.specs.Memory.{Memory, Step, IsAdded}
use Rattle.address_space.specs.Sound as spaces
use Rattle.switchboard.specs.State.{KernelState, phone_at, is_alive}
use Rattle.switchboard.specs.Sound.{IsPlaced, IsSound}
use Rattle.switchboard.specs.Serving.{Served}
use Rattle.kernel_laws.specs.DataLaws.{code_after, first, second, third, AreFirst, IsFull, IsLawfulTaking}
use Rattle.kernel_laws.specs.HeldCalls.{IsHeld}
use Rattle.kernel_laws.specs.MemoryRequests.{made, written}
use Rattle.kernel_laws.specs.PoolLaws.{pool}
use Rattle.kernel_laws.proofs.LawfulData.{decided_read}
use Rattle.kernel_laws.proofs.MemoryRequests.{added}
use Rattle.kernel_determined.specs.Frames.{PhoneComesTo}
use Rattle.kernel_determined.specs.MemoryLaw.{IsWholeWrite}
use Rattle.kernel_determined.specs.SettleLaw.{IsWanted}
use Rattle.kernel_determined.specs.AnswerLaw.{IsWholePlacing, bytes_after, Reaches, ConnectsTo, ConnectsNothing, WritesBytes, TakesBytes, SharesArea, IsPlain, AnswersPlainly, Accepts, AnswersDeclining, AnswersNobody, AnswersAccepting, IsAnswer}
use Rattle.kernel_determined.proofs.Same.{list_same, done_same}
use Rattle.kernel_determined.proofs.HangupDetermined.{stay_same, come_same, refusal_same, quiet_same}
use Rattle.kernel_determined.proofs.WriteDetermined.{write_is_determined}
use Rattle.kernel_determined.proofs.ChecksDetermined.{bytes_read_same}
use Rattle.kernel_determined.proofs.SettleDetermined.{moves_same, ended_same, settled_same}
use Rattle.kernel_determined.proofs.ForwardDetermined.{parts_same}
use Rattle.kernel_determined.proofs.ShareDetermined.{share_is_determined}
use Rattle.std.proofs.lemmas.Option.{slice_get_past, none-some, same_Some}

-- ---- bytes

first_bytes_same : (xs ys zs : List ℕ) (n : ℕ) → AreFirst xs n zs → AreFirst ys n zs → xs ≡ ys
first_bytes_same xs ys zs n f g = list_same xs ys (λ i. elim (cases_lt i n) [
  | inl few ↦ f.each i few ∙ sym (g.each i few)
  | inr far ↦ let x = f.many in let y = g.many in slice_get_past xs i (omega (arith, x, far))
      ∙ sym (slice_get_past ys i (omega (arith, y, far)))
])

placing_same : (m : Memory) (t : TaskNo) (brought : List ℕ) (reply : Reply) (x y : Step (Option StoreNo))
    → IsWholePlacing m t brought reply x → IsWholePlacing m t brought reply y → x ≡ y
placing_same m t brought reply x y f g = elim (cases_lt (length brought) (second reply.args)) [
  | inl more ↦ (let u = f.more more in let v = g.more more in done_same x y (u.1 ∙ sym v.1) (u.0 ∙ sym v.0))
  | inr few ↦ (let u = f.placed few in let v = g.placed few in
      let same : u.0 ≡ v.0 = first_bytes_same u.0 v.0 brought (second reply.args) u.1 v.1 in
      write_is_determined m t (first reply.args) v.0 x y
      (subst (λ (new : List ℕ). IsWholeWrite m t (first reply.args) new x) same u.2) v.2)
]

-- what a DATA_READ takes with it
module _ (m : Memory) (t : TaskNo) (args : List ℕ) (reply : Reply) (used : ℕ) (a b : Result (List ℕ) Code)
    (f : IsLawfulTaking m t args reply used a) (g : IsLawfulTaking m t args reply used b) where
  abbrev at : ℕ
  at = first reply.args

  abbrev count : ℕ
  count = second reply.args

  taking_same : a ≡ b
  taking_same = elim (cases_lt (second args) count) [
    | inl more ↦ f.more.1 more ∙ sym (g.more.1 more)
    | inr few ↦ elim (decided_read m t at count) [
      | inl shut ↦ f.closed.1 (few, shut.0) ∙ sym (g.closed.1 (few, shut.0))
      | inr can ↦ elim (cases_lt 67108864 (used + count)) [
        | inl full ↦ f.full.1 (few, can.0, full) ∙ sym (g.full.1 (few, can.0, full))
        | inr fits ↦ (let not_full : IsFull used count → ⊥ = λ over. omega (arith, over, fits) in
            let x = f.taken.1 (few, can.0, not_full) in
            let y = g.taken.1 (few, can.0, not_full) in
            x.1 ∙ ap Ok (bytes_read_same m t at count x.0 y.0 (f.bytes x.0 x.1) (g.bytes y.0 y.1)) ∙ sym y.1)
      ]
    ]
  ]

-- ---- an answer that accepts

module _ (t : TaskNo) (n : ℕ) (reply : Reply) (c : Call) (u : TaskNo) (k : KernelState) (a b : Served) where
  reaches_same : (code : Code) (bytes : List ℕ) (memory : Memory) (note : List Entry)
      → Reaches t n reply c u code bytes memory note k a → Reaches t n reply c u code bytes memory note k b
      → ((v : TaskNo) (q : ℕ) → phone_at a.state v q ≡ phone_at b.state v q) → a ≡ b
  reaches_same code bytes memory note x y phones = parts_same k a b x.event y.event phones
      (moves_same k.calls a.state.calls b.state.calls n _ _ x.calls y.calls refl)
      (x.memory_after ∙ sym y.memory_after) (x.told ∙ sym y.told) (x.entries ∙ sym y.entries)

  connects_same : (to : TaskNo) → ConnectsTo to t n reply c u k a → ConnectsTo to t n reply c u k b → a ≡ b
  connects_same to x y =
      let same : x.phone ≡ y.phone = let e : Some x.phone ≡ Some y.phone = sym x.kept ∙ y.kept in cc in
      let leads = subst (λ (l : Label). PhoneComesTo l.task l.phone.0 (Connected to) k a.state) same x.leads in
      let reaches = subst (λ (l : Label). Reaches t n reply c u eok c.buffer k.memory
      (entry.PhoneIs l (Connected to) ∷ []) k a)
      same x.reaches in
      reaches_same eok c.buffer k.memory _ reaches y.reaches
      (come_same k a.state b.state y.phone.task y.phone.phone.0 (Connected to) leads y.leads)

  to_me_same : ConnectsTo u t n reply c u k a ⊎ ConnectsNothing t n reply c u k a
      → ConnectsTo u t n reply c u k b ⊎ ConnectsNothing t n reply c u k b → a ≡ b
  to_me_same (inl x) (inl y) = connects_same u x y
  to_me_same (inl x) (inr y) = absurd (none-some x.phone (sym y.none ∙ x.kept))
  to_me_same (inr x) (inl y) = absurd (none-some y.phone (sym x.none ∙ y.kept))
  to_me_same (inr x) (inr y) =
      reaches_same elimit c.buffer k.memory [] x.reaches y.reaches (stay_same k a.state b.state x.phones y.phones)

  writes_same : WritesBytes t n reply c u k a → WritesBytes t n reply c u k b → a ≡ b
  writes_same x y =
      let same : x.step ≡ y.step = placing_same k.memory t c.buffer reply x.step y.step x.placing y.placing in
      let reaches = subst (λ (s : Step (Option StoreNo)). Reaches t n reply c u (code_after s.told) c.buffer s.memory
      (written t (first reply.args) (second reply.args) s.told) k a) same x.reaches in
      reaches_same _ c.buffer y.step.memory _ reaches y.reaches (stay_same k a.state b.state x.phones y.phones)

  takes_same : TakesBytes t n reply c u k a → TakesBytes t n reply c u k b → a ≡ b
  takes_same x y =
      let same : x.told ≡ y.told = taking_same k.memory t c.request.args reply (pool k) x.told y.told x.taking
      y.taking in
      let reaches = subst (λ (r : Result (List ℕ) Code). Reaches t n reply c u (code_after r) (bytes_after r c.buffer)
      k.memory
      [] k a) same x.reaches in
      reaches_same _ _ k.memory [] reaches y.reaches (stay_same k a.state b.state x.phones y.phones)

  shares_same : (from : TaskNo) (base : ℕ) (to : TaskNo) (target : ℕ) → spaces.IsSound k.memory → IsAdded k.memory to
      → SharesArea from base to target t n reply c u k a → SharesArea from base to target t n reply c u k b → a ≡ b
  shares_same from base to target sound added x y =
      let pages : ℕ = second c.request.args in
      let rights : ℕ = third c.request.args in
      let same : x.step ≡ y.step =
      share_is_determined k.memory from base to target pages rights sound added x.step y.step x.share y.share in
      let reaches = subst (λ (s : Step StoreNo). Reaches t n reply c u (code_after s.told) c.buffer s.memory
      (made to target pages rights s.told) k a) same x.reaches in
      reaches_same _ c.buffer y.step.memory _ reaches y.reaches (stay_same k a.state b.state x.phones y.phones)

  plainly_same : AnswersPlainly t n reply c u k a → AnswersPlainly t n reply c u k b → a ≡ b
  plainly_same x y = reaches_same eok c.buffer k.memory [] x.reaches y.reaches
      (stay_same k a.state b.state x.phones y.phones)

  accepts_same : IsSound k → is_alive k t ≡ true → is_alive k u ≡ true → Accepts t n reply c u k a
      → Accepts t n reply c u k b → a ≡ b
  accepts_same sound alive lives x y = elim (cases_eq c.request.method connect_to_me) [
    | inl e ↦ to_me_same (x.to_me e) (y.to_me e)
    | inr n1 ↦ elim (cases_eq c.request.method connect_me_to) [
      | inl e ↦ connects_same t (x.me_to e) (y.me_to e)
      | inr n2 ↦ elim (cases_eq c.request.method data_write) [
        | inl e ↦ writes_same (x.write e) (y.write e)
        | inr n3 ↦ elim (cases_eq c.request.method data_read) [
          | inl e ↦ takes_same (x.read e) (y.read e)
          | inr n4 ↦ elim (cases_eq c.request.method share_out) [
            | inl e ↦ shares_same u (first c.request.args) t (first reply.args) sound.memory.spaces
                (added k t sound alive)
                (x.out e) (y.out e)
            | inr n5 ↦ elim (cases_eq c.request.method share_in) [
              | inl e ↦ shares_same t (first reply.args) u (first c.request.args) sound.memory.spaces
                  (added k u sound lives)
                  (x.inward e) (y.inward e)
              | inr n6 ↦ (let plain : IsPlain c.request.method =
                  record { to_me = n1; me_to = n2; write = n3; read = n4; out = n5; inward = n6 } in
                  plainly_same (x.others plain) (y.others plain))
            ]
          ]
        ]
      ]
    ]
  ]

-- ---- an answer

-- who holds a call is alive
pub holder_lives : (k : KernelState) → IsSound k → (t : TaskNo) (n : ℕ) (c : Call) → IsHeld t k n c
    → is_alive k t ≡ true
holder_lives k sound t n c held = subst (IsPlaced k.tasks c.caller) held.1 (sound.calls.each n c held.0).place

module _ (t : TaskNo) (n : ℕ) (reply : Reply) (k : KernelState) (a b : Served) (sound : IsSound k) where
  abbrev Answering : Call → Served → Type 0
  Answering c done = AnswersDeclining t n reply c k done
      ⊎ (AnswersNobody n reply c k done ⊎ AnswersAccepting t n reply c k done)

  unwanted : (c : Call) (done : Served) → AnswersAccepting t n reply c k done → IsWanted k c
  unwanted c done x = (x.to, x.caller, x.lives)

  accepting_same : (c : Call) → IsHeld t k n c → AnswersAccepting t n reply c k a
      → AnswersAccepting t n reply c k b → a ≡ b
  accepting_same c held x y =
      let same : x.to ≡ y.to = let e : Some x.to ≡ Some y.to = sym x.caller ∙ y.caller in cc in
      accepts_same t n reply c y.to k a b sound (holder_lives k sound t n c held) y.lives
      (subst (λ (u : TaskNo). Accepts t n reply c u k a) same x.accepted)
      y.accepted

  answering_same : (c : Call) → IsHeld t k n c → Answering c a → Answering c b → a ≡ b
  answering_same c held (inl x) (inl y) = quiet_same outcome.Done k a b x.quiet y.quiet
      (settled_same n c k a.state b.state a.entries b.entries reply (Some t) x.settled y.settled)
  answering_same c held (inl x) (inr (inl y)) = absurd (x.declines y.accepts)
  answering_same c held (inl x) (inr (inr y)) = absurd (x.declines y.accepts)
  answering_same c held (inr (inl x)) (inl y) = absurd (y.declines x.accepts)
  answering_same c held (inr (inl x)) (inr (inl y)) = quiet_same outcome.Done k a b x.quiet y.quiet
      (ended_same n c k a.state b.state a.entries b.entries x.ended y.ended)
  answering_same c held (inr (inl x)) (inr (inr y)) = absurd (x.unwanted (unwanted c b y))
  answering_same c held (inr (inr x)) (inl y) = absurd (y.declines x.accepts)
  answering_same c held (inr (inr x)) (inr (inl y)) = absurd (y.unwanted (unwanted c a x))
  answering_same c held (inr (inr x)) (inr (inr y)) = accepting_same c held x y

  pub answer_is_determined : IsAnswer t n reply k a → IsAnswer t n reply k b → a ≡ b
  answer_is_determined (inl x) (inl y) = refusal_same enoent k a b x.refusal y.refusal
  answer_is_determined (inl x) (inr y) = absurd (x.unheld y.call y.held)
  answer_is_determined (inr x) (inl y) = absurd (y.unheld x.call x.held)
  answer_is_determined (inr x) (inr y) =
      let one : x.call ≡ y.call = same_Some x.call y.call (sym x.held.0 ∙ y.held.0) in
      answering_same y.call y.held (subst (λ (c : Call). Answering c a) one x.answers) y.answers
