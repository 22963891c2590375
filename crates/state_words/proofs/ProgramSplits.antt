-- A program is read again from its words, but for what is constant and how many outcomes it took.
use Rattle.std.proofs.Common.{Option, None, Some, ℕ, zero, suc, ◌≡◌, List, [], ◌∷◌, ◌++◌, length, take, drop, refl, ◌∙◌, ap}
use Rattle.std.specs.List.{flat_map}
use Rattle.ipc_ids.specs.declared.numbers.Label.{Label}
use Rattle.ipc_ids.specs.declared.op.Op.{Op}
use Rattle.task_ends.specs.declared.introduced.Introduced.{Introduced}
use Rattle.task_ends.specs.declared.introduced.Wait.{Wait}
use Rattle.task_ends.specs.Ends.{EndsState}
use Rattle.raw_program.specs.Raw.{RawState}
use Rattle.naming_service.specs.declared.received.ReceivedCall.{ReceivedCall}
use Rattle.naming_service.specs.declared.received.Work.{Work}
use Rattle.naming_service.specs.declared.received.Work.TheVariants.{Answer, Forward}
use Rattle.naming_service.specs.Naming.{NamingState}
use Rattle.block_server.specs.declared.received.Work as block
use Rattle.block_server.specs.declared.received.Work.TheVariants as todo
use Rattle.block_server.specs.Blocks.{BlockState}
use Rattle.state_words.specs.Words.{number_words, list_words, option_words}
use Rattle.state_words.specs.CallWords.{label_words}
use Rattle.state_words.proofs.Splits.{Splits, read_splits, number_splits, both, and_split, each_split, some_split, as_split}
use Rattle.state_words.proofs.CallSplits.{label_splits, msg_splits, bool_splits, numbers_splits}
use Rattle.state_words.specs.ProgramWords.{raw_words, entry_words, received_words, work_words, introduced_words, wait_words, ends_words, naming_words, block_work_words, block_words}
use Rattle.state_words.specs.ProgramsApart.{IsSameRaw, IsSameNaming, IsSameBlock}

-- ---- parts of the naming service

entry_splits : Splits entry_words
entry_splits = and_split number_splits number_splits

received_splits : Splits received_words
received_splits =
    as_split (and_split number_splits (and_split msg_splits label_splits))
    (λ (r : ReceivedCall). (r.number.0, (r.msg, r.label)))
    (λ p. record { number = record { 0 = p.0 }; msg = p.1.0; label = p.1.1 }) (λ _. refl)

wait_splits : Splits wait_words
wait_splits =
    as_split (and_split number_splits number_splits)
    (λ (w : Wait). (w.call.0, w.task)) (λ p. record { call = record { 0 = p.0 }; task = p.1 }) (λ _. refl)

introduced_splits : Splits introduced_words
introduced_splits =
    as_split (and_split label_splits (and_split bool_splits (and_split number_splits bool_splits)))
    (λ (x : Introduced). (x.label, (x.end.has, (x.end.value, x.ended))))
    (λ p. record { label = p.0; end = record { has = p.1.0; value = p.1.1.0 }; ended = p.1.1.1 }) (λ _. refl)

ends_splits : Splits ends_words
ends_splits =
    as_split (and_split (each_split introduced_splits) (each_split wait_splits))
    (λ (e : EndsState). (e.introduced, e.waits)) (λ p. record { introduced = p.0; waits = p.1 }) (λ _. refl)

-- ---- words that begin with the number of a variant

numbers_front : (xs s : List ℕ) → take (length xs) (flat_map number_words xs ++ s) ≡ xs
numbers_front [] s = refl
numbers_front (x ∷ xs) s = ap (λ z. x ∷ z) (numbers_front xs s)

numbers_behind : (xs s : List ℕ) → drop (length xs) (flat_map number_words xs ++ s) ≡ s
numbers_behind [] s = refl
numbers_behind (x ∷ xs) s = numbers_behind xs s

-- a list of numbers, and what stands behind it
read_numbers : List ℕ → List ℕ × List ℕ
read_numbers [] = ([], [])
read_numbers (n ∷ s) = (take n s, drop n s)

numbers_read : (xs s : List ℕ) → read_numbers (list_words number_words xs ++ s) ≡ (xs, s)
unfolding read_numbers
numbers_read xs s =
    ap (λ z. (z, drop (length xs) (flat_map number_words xs ++ s))) (numbers_front xs s)
    ∙ ap (λ z. (xs, z)) (numbers_behind xs s)

-- a variant with such a list at its end
ending_in : {A : Type 0} → (List ℕ → A) → List ℕ × List ℕ → Option (A × List ℕ)
ending_in make p = Some (make p.0, p.1)

read_work : List ℕ → Option (Work × List ℕ)
read_work (zero ∷ (call ∷ (code ∷ s))) =
    ending_in (λ args. Answer (record { 0 = call }) (record { code = record { 0 = code }; args = args })) (read_numbers s)
read_work (suc n ∷ (call ∷ (phone ∷ (method ∷ s)))) =
    ending_in (λ args. Forward (record { 0 = call }) phone (record { method = method; args = args })) (read_numbers s)
read_work _ = None

work_read : (w : Work) (s : List ℕ) → read_work (work_words w ++ s) ≡ Some (w, s)
unfolding read_work ending_in
work_read (Answer call reply) s =
    ap (ending_in (λ args. Answer call (record { code = reply.code; args = args }))) (numbers_read reply.args s)
work_read (Forward call phone msg) s =
    ap (ending_in (λ args. Forward call phone (record { method = msg.method; args = args }))) (numbers_read msg.args s)

work_splits : Splits work_words
work_splits = read_splits work_words read_work work_read

read_block_work : List ℕ → Option (block.Work × List ℕ)
read_block_work (zero ∷ (service ∷ s)) = Some (todo.Offer service, s)
read_block_work (suc zero ∷ (base ∷ s)) = Some (todo.Drop base, s)
read_block_work (suc (suc zero) ∷ (call ∷ (code ∷ s))) =
    ending_in (λ args. todo.Answer (record { 0 = call }) (record { code = record { 0 = code }; args = args })) (read_numbers s)
read_block_work (suc (suc (suc zero)) ∷ (call ∷ (at ∷ (b ∷ s)))) = Some (todo.Show (record { 0 = call }) at b, s)
read_block_work (suc (suc (suc (suc n))) ∷ (call ∷ (at ∷ (b ∷ s)))) = Some (todo.Fetch (record { 0 = call }) at b, s)
read_block_work _ = None

block_work_read : (w : block.Work) (s : List ℕ) → read_block_work (block_work_words w ++ s) ≡ Some (w, s)
unfolding read_block_work ending_in
block_work_read (todo.Offer service) s = refl
block_work_read (todo.Drop base) s = refl
block_work_read (todo.Answer call reply) s =
    ap (ending_in (λ args. todo.Answer call (record { code = reply.code; args = args }))) (numbers_read reply.args s)
block_work_read (todo.Show call at b) s = refl
block_work_read (todo.Fetch call at b) s = refl

block_work_splits : Splits block_work_words
block_work_splits = read_splits block_work_words read_block_work block_work_read

-- ---- programs

raw_parts : Splits (both number_words (list_words number_words))
raw_parts = and_split number_splits numbers_splits

pub raw_same : (a b : RawState) (s t : List ℕ) → raw_words a ++ s ≡ raw_words b ++ t → IsSameRaw a b × (s ≡ t)
raw_same a b s t e =
    let h = raw_parts.split (a.place, a.registers) (b.place, b.registers) s t e in
    (record { place = ap (λ (p : ℕ × List ℕ). p.0) h.0; registers = ap (λ (p : ℕ × List ℕ). p.1) h.0 }, h.1)

abbrev NamingParts : Type 0
NamingParts = List (ℕ × ℕ) × (List ReceivedCall × (EndsState × List Work))

naming_parts : Splits (both (list_words entry_words) (both (list_words received_words) (both ends_words (list_words work_words))))
naming_parts =
    and_split (each_split entry_splits)
    (and_split (each_split received_splits) (and_split ends_splits (each_split work_splits)))

pub naming_same : (a b : NamingState) (s t : List ℕ) → naming_words a ++ s ≡ naming_words b ++ t
    → IsSameNaming a b × (s ≡ t)
naming_same a b s t e =
    let h = naming_parts.split (a.registry, (a.pending, (a.ends, a.work))) (b.registry, (b.pending, (b.ends, b.work))) s t e in (
      record {
        registry = ap (λ (p : NamingParts). p.0) h.0;
        pending = ap (λ (p : NamingParts). p.1.0) h.0;
        ends = ap (λ (p : NamingParts). p.1.1.0) h.0;
        work = ap (λ (p : NamingParts). p.1.1.1) h.0;
      },
      h.1,
    )

abbrev BlockParts : Type 0
BlockParts = List (List ℕ) × (List (Option Label) × List block.Work)

block_parts : Splits (both (list_words (list_words number_words)) (both (list_words (option_words label_words)) (list_words block_work_words)))
block_parts =
    and_split (each_split numbers_splits) (and_split (each_split (some_split label_splits)) (each_split block_work_splits))

pub block_same : (a b : BlockState) (s t : List ℕ) → block_words a ++ s ≡ block_words b ++ t
    → IsSameBlock a b × (s ≡ t)
block_same a b s t e =
    let h = block_parts.split (a.blocks, (a.slots, a.work)) (b.blocks, (b.slots, b.work)) s t e in (
      record {
        blocks = ap (λ (p : BlockParts). p.0) h.0;
        slots = ap (λ (p : BlockParts). p.1.0) h.0;
        work = ap (λ (p : BlockParts). p.1.1) h.0;
      },
      h.1,
    )

-- ---- programs, but for how many outcomes they took: a raw one with the same operations

abbrev raw_quiet : RawState → RawState
raw_quiet p = record p { taken = 0 }

abbrev naming_quiet : NamingState → NamingState
naming_quiet p = record p { taken = 0 }

abbrev block_quiet : BlockState → BlockState
block_quiet p = record p { taken = 0 }

pub raw_split : (a b : RawState) (s t : List ℕ) → a.ops ≡ b.ops → raw_words a ++ s ≡ raw_words b ++ t
    → (raw_quiet a ≡ raw_quiet b) × (s ≡ t)
raw_split a b s t ops e =
    let h = raw_same a b s t e in
    let same = h.0 in (
      ap (λ (z : List Op). record { ops = z; place = a.place; registers = a.registers; taken = 0 }) ops
          ∙ ap (λ (z : ℕ). record { ops = b.ops; place = z; registers = a.registers; taken = 0 }) same.place
          ∙ ap (λ (z : List ℕ). record { ops = b.ops; place = b.place; registers = z; taken = 0 }) same.registers,
      h.1,
    )

pub naming_split : (a b : NamingState) (s t : List ℕ) → naming_words a ++ s ≡ naming_words b ++ t
    → (naming_quiet a ≡ naming_quiet b) × (s ≡ t)
naming_split a b s t e =
    let h = naming_parts.split (a.registry, (a.pending, (a.ends, a.work))) (b.registry, (b.pending, (b.ends, b.work))) s t e in
    (ap (λ (p : NamingParts). record { registry = p.0; pending = p.1.0; ends = p.1.1.0; work = p.1.1.1; taken = 0 }) h.0, h.1)

pub block_split : (a b : BlockState) (s t : List ℕ) → block_words a ++ s ≡ block_words b ++ t
    → (block_quiet a ≡ block_quiet b) × (s ≡ t)
block_split a b s t e =
    let h = block_parts.split (a.blocks, (a.slots, a.work)) (b.blocks, (b.slots, b.work)) s t e in
    (ap (λ (p : BlockParts). record { blocks = p.0; slots = p.1.0; work = p.1.1; taken = 0 }) h.0, h.1)
