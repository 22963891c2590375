-- The law of exchanges at work on short lists: two that keep it, and some that break it.
use Rattle.std.proofs.Common.{ℕ, ◌≡◌, ◌++◌, ap, Bool, true, false, None, List, [], ◌∷◌, refl, inl, inr, arith}
use Rattle.std.specs.Prelude.{◌==◌}
use Rattle.ipc_ids.specs.declared.numbers.TaskNo.{TaskNo}
use Rattle.ipc_ids.specs.declared.numbers.FibrilNo.{FibrilNo}
use Rattle.ipc_ids.specs.declared.numbers.ExchangeNo.{ExchangeNo}
use Rattle.ipc_ids.specs.declared.message.Reply.{Reply}
use Rattle.ipc_ids.specs.declared.message.ExchangeMode.{ExchangeMode}
use Rattle.ipc_ids.specs.declared.message.ExchangeMode.TheVariants.{Atomic, Serialize, Parallel}
use Rattle.ipc_ids.specs.declared.message.Request.TheVariants as request
use Rattle.ipc_ids.specs.declared.message.Outcome.TheVariants as outcome
use Rattle.ipc_ids.specs.declared.entry.Entry.{Entry}
use Rattle.ipc_ids.specs.declared.entry.Entry.TheVariants as entry
use Rattle.ipc_ids.specs.Codes.{eok}
use Rattle.ipc_ids.specs.Facts.{Terms, Fact, Head, Answer, Gets, Begins, EndsExchange, Drops, Other, if_mine}
use Rattle.ipc_ids.specs.Exchanges.{ExchangesAreLawful, ExchangesWereLawful}
use Rattle.ipc_ids.proofs.LawfulExchanges.{exchanges_are_lawful}

abbrev client : TaskNo
client = record { 0 = 1 }

abbrev fibril : ℕ → FibrilNo
fibril n = record { 0 = n }

abbrev exchange : ℕ → ExchangeNo
exchange n = record { 0 = n }

-- a step of the client that asks for nothing, with what it tells of a fibril
abbrev step : Entry → List Entry
step own = entry.Head client request.Nothing ∷ entry.Outcome outcome.Done ∷ own ∷ []

-- the fibril begins the exchange of session 1
abbrev begins : ℕ → ℕ → ExchangeMode → ℕ → Entry
begins f e mode phone = entry.Begins client (fibril f) (exchange e) mode 1 phone

abbrev ends : ℕ → ℕ → Entry
ends f e = entry.ExchangeEnds client (fibril f) (exchange e)

abbrev drops : ℕ → ℕ → Entry
drops f e = entry.Drops client (fibril f) (exchange e)

-- a success that names phone 3
abbrev connected : Reply
connected = record { code = eok; args = 0 ∷ 0 ∷ 0 ∷ 0 ∷ 3 ∷ [] }

-- the fibril is given phone 3 for its begin, and then this
abbrev is_connected : ℕ → Entry → List Entry
is_connected f own =
    entry.Head client request.Receive
    ∷ entry.Outcome (outcome.Answered (record { 0 = 1 }) connected)
    ∷ entry.Gets client (fibril f) (record { 0 = 1 }) None connected
    ∷ own
    ∷ []

-- two exchanges of a serialized session, one after the other
abbrev one_by_one : List Entry
one_by_one =
    step (begins 1 1 Serialize 0) ++ step (ends 1 1) ++ step (begins 2 2 Serialize 0)

-- an exchange of a parallel session is begun over a phone of its own, ends, and is begun again
abbrev again : List Entry
again =
    is_connected 1 (begins 1 1 Parallel 3) ++ step (ends 1 1) ++ step (begins 2 1 Parallel 3)

-- how the exchanges are begun
abbrev serial : Terms
serial = record { mode = Serialize; session = 1; phone = 0 }

abbrev parallel : ℕ → Terms
parallel phone = record { mode = Parallel; session = 1; phone = phone }

-- what a step says of a task: of the client, or of another
abbrev in_step : Bool → Fact → List Fact → List Fact
in_step b own p = if_mine b own ∷ Other ∷ Head b ∷ p

abbrev one_by_one_facts : Bool → List Fact
one_by_one_facts b =
    in_step b (Begins 2 2 serial) (in_step b (EndsExchange 1) (in_step b (Begins 1 1 serial) []))

abbrev again_facts : Bool → List Fact
again_facts b =
    in_step b (Begins 2 1 (parallel 3))
    (in_step b (EndsExchange 1)
    (if_mine b (Begins 1 1 (parallel 3))
    ∷ if_mine b (Gets 1 1 None connected) ∷ Answer 1 connected ∷ Head b ∷ []))

one_by_one_was_lawful : (b : Bool) → ExchangesWereLawful (one_by_one_facts b)
one_by_one_was_lawful true = grind arith
one_by_one_was_lawful false = grind arith

one_by_one_keeps_the_law : ExchangesAreLawful one_by_one
one_by_one_keeps_the_law = exchanges_are_lawful one_by_one (λ t. one_by_one_was_lawful (1 == t))

again_was_lawful : (b : Bool) → ExchangesWereLawful (again_facts b)
again_was_lawful true = grind arith
again_was_lawful false = grind arith

again_keeps_the_law : ExchangesAreLawful again
again_keeps_the_law = exchanges_are_lawful again (λ t. again_was_lawful (1 == t))

-- a second exchange of a serialized session is begun before the first one has ended
does_not_wait :
    ExchangesAreLawful (step (begins 1 1 Serialize 0) ++ step (begins 2 2 Serialize 0)) → ⊥
does_not_wait law =
    let event : List Fact = Other ∷ Head true ∷ [] in
    (law 1).serialized [] event event 1 2 1 2 serial serial refl refl refl (λ s. grind arith)

-- a parallel exchange is begun without a phone of its own
without_a_phone : ExchangesAreLawful (step (begins 1 1 Parallel 3)) → ⊥
without_a_phone law =
    let event : List Fact = Other ∷ Head true ∷ [] in
    (law 1).connected [] event 1 1 (parallel 3) refl refl (λ f of s. grind arith)

-- it is begun over another phone than the fibril was given
over_another_phone : ExchangesAreLawful (is_connected 1 (begins 1 1 Parallel 0)) → ⊥
over_another_phone law =
    let event : List Fact = Gets 1 1 None connected ∷ Answer 1 connected ∷ Head true ∷ [] in
    let it = (law 1).connected [] event 1 1 (parallel 0) refl refl (λ f of s. grind arith) in
    absurd (cc it.2)

-- another fibril begins it than was given the phone
by_another_fibril : ExchangesAreLawful (is_connected 1 (begins 2 1 Parallel 3)) → ⊥
by_another_fibril law =
    let event : List Fact = Gets 1 1 None connected ∷ Answer 1 connected ∷ Head true ∷ [] in
    let it = (law 1).connected [] event 2 1 (parallel 3) refl refl (λ f of s. grind arith) in
    absurd (cc it.0)

-- what stands before the first begin of exchange 1
abbrev given : List Fact
given = Gets 1 1 None connected ∷ Answer 1 connected ∷ Head true ∷ []

-- what stands between the two begins of an exchange that has ended
abbrev over : List Fact
over = Other ∷ Head true ∷ EndsExchange 1 ∷ Other ∷ Head true ∷ []

-- an exchange is begun again before it has ended
again_before_its_end :
    ExchangesAreLawful (is_connected 1 (begins 1 1 Parallel 3) ++ step (begins 2 1 Parallel 3)) → ⊥
again_before_its_end law =
    let between : List Fact = Other ∷ Head true ∷ [] in
    let it = (law 1).begun_again [] between given 2 1 1 (parallel 3) (parallel 3) refl
    (λ f of s. grind arith) in
    grind (arith, it.2)

-- it is begun again over another phone
again_over_another_phone :
    ExchangesAreLawful
    (is_connected 1 (begins 1 1 Parallel 3) ++ step (ends 1 1) ++ step (begins 2 1 Parallel 0)) → ⊥
again_over_another_phone law =
    let it = (law 1).begun_again [] over given 2 1 1 (parallel 0) (parallel 3) refl
    (λ f of s. grind arith) in
    let phone : 0 ≡ 3 = ap (λ (y : Terms). y.phone) it.0 in
    absurd (cc phone)

-- it is begun again in another mode
again_in_another_mode :
    ExchangesAreLawful
    (is_connected 1 (begins 1 1 Parallel 3) ++ step (ends 1 1) ++ step (begins 2 1 Atomic 3)) → ⊥
again_in_another_mode law =
    let of : Terms = record { mode = Atomic; session = 1; phone = 3 } in
    let it = (law 1).begun_again [] over given 2 1 1 of (parallel 3) refl (λ f of s. grind arith) in
    let mode : Atomic ≡ Parallel = ap (λ (y : Terms). y.mode) it.0 in
    absurd (cc mode)

-- an exchange that is not parallel is begun again
again_a_serialized_one :
    ExchangesAreLawful
    (step (begins 1 1 Serialize 0) ++ step (ends 1 1) ++ step (begins 2 1 Serialize 0)) → ⊥
again_a_serialized_one law =
    let it = (law 1).begun_again [] over (Other ∷ Head true ∷ []) 2 1 1 serial serial refl
    (λ f of s. grind arith) in
    absurd (cc it.1)

-- it is begun again after it was dropped
again_after_it_was_dropped :
    ExchangesAreLawful
    (is_connected 1 (begins 1 1 Parallel 3) ++ step (ends 1 1)
    ++ step (drops 1 1) ++ step (begins 2 1 Parallel 3)) → ⊥
again_after_it_was_dropped law =
    let between : List Fact =
    Other ∷ Head true ∷ Drops 1 ∷ Other ∷ Head true ∷ EndsExchange 1 ∷ Other ∷ Head true ∷ [] in
    let it = (law 1).begun_again [] between given 2 1 1 (parallel 3) (parallel 3) refl
    (λ f of s. grind arith) in
    it.3 (inr (inr (inl refl)))
