-- The law of blocks at work on short lists of entries: one that keeps it, and some that break it. Task
-- 2 is the block server, and calls 3 to 6 of task 1 write and read its blocks.
use Rattle.std.proofs.Common.{◌≡◌, ℕ, List, [], ◌∷◌, ◌++◌, Some, refl, sym, ◌∙◌, ap, subst, arith}
use Rattle.std.specs.Prelude.{replicate, get_or, ◌==◌, Option, None, true}
use Rattle.std.proofs.lemmas.Bool.{eqb-true}
use Rattle.ipc_ids.specs.declared.numbers.TaskNo.{TaskNo}
use Rattle.ipc_ids.specs.declared.numbers.Code.{Code}
use Rattle.ipc_ids.specs.declared.message.Reply.{Reply}
use Rattle.ipc_ids.specs.declared.message.Request.{Request}
use Rattle.ipc_ids.specs.declared.message.Request.TheVariants as request
use Rattle.ipc_ids.specs.declared.message.Outcome.{Outcome}
use Rattle.ipc_ids.specs.declared.message.Outcome.TheVariants as outcome
use Rattle.ipc_ids.specs.declared.entry.Entry.{Entry}
use Rattle.ipc_ids.specs.declared.entry.Entry.TheVariants as entry
use Rattle.ipc_ids.specs.Codes.{eok, einval}
use Rattle.ipc_ids.specs.Doings.{Doing, Asks, Told, doings, Came}
use Rattle.block_server.specs.Blocks.{read_block, write_block, no_bytes}
use Rattle.block_server.specs.BlockLaw.{last_poke, last_peek, HasWrite, IsPoked, BlocksWereLawful, ReadsGiveTheLastWrite}
use Rattle.block_server.proofs.LawfulBlocks.{reads_give_what_was_written}

abbrev server : TaskNo
server = record { 0 = 2 }

abbrev ones : List ℕ
ones = replicate 64 1

abbrev twos : List ℕ
twos = replicate 64 2

-- the server asks this, and is told that
abbrev step : Request → Outcome → List Entry
step asked told = entry.Head server asked ∷ entry.Outcome told ∷ []

-- it receives call n, which is of this block
abbrev receives : (n method block : ℕ) → List Entry
receives n method block =
    step request.Receive
    (outcome.Received (record { 0 = n }) (record { method = method; args = block ∷ 0 ∷ 0 ∷ 0 ∷ 0 ∷ [] })
    (record { task = record { 0 = 1 }; phone = record { 0 = 0 } }))

abbrev bare : Code → Reply
bare code = record { code = code; args = replicate 5 0 }

abbrev answers : (n : ℕ) → Code → List Entry
answers n code = step (request.Answer n (bare code)) outcome.Done

-- it takes these bytes from the window, or puts them there
abbrev peeks : List ℕ → List Entry
peeks bytes = step (request.Peek 4096 64) (outcome.Bytes bytes)

abbrev pokes : List ℕ → List Entry
pokes bytes = step (request.Poke 4096 bytes) outcome.Done

-- a block is written with these bytes by call n, which is answered with this code
abbrev writes : (n block : ℕ) → List ℕ → Code → List Entry
writes n block bytes code = receives n write_block block ++ (peeks bytes ++ answers n code)

-- a block is read by call n, which is given these bytes
abbrev reads : (n block : ℕ) → List ℕ → List Entry
reads n block bytes = receives n read_block block ++ (pokes bytes ++ answers n eok)

-- block 1 is written, then block 0; then block 1 is read, and block 2, which nobody wrote
abbrev read_lately : List Entry
read_lately = writes 3 1 ones eok ++ (writes 4 0 twos eok ++ (reads 5 1 ones ++ reads 6 2 no_bytes))

keeps_the_law : ReadsGiveTheLastWrite 2 read_lately
keeps_the_law = reads_give_what_was_written (doings 2 read_lately) lawful where
  before_5 : List Doing
  before_5 = doings 2 (writes 3 1 ones eok ++ (writes 4 0 twos eok ++ (receives 5 read_block 1 ++ pokes ones)))

  before_6 : List Doing
  before_6 = doings 2 (writes 3 1 ones eok ++ (writes 4 0 twos eok ++ (reads 5 1 ones ++ (receives 6 read_block 2 ++ pokes no_bytes))))

  poked_5 : (b : ℕ) → eok ≡ eok → (1 == b) ≡ true → IsPoked b before_5
  poked_5 b ok is = subst (λ (a : ℕ). IsPoked a before_5) (eqb-true 1 b is) (record { bytes = ones; poked = refl; block = refl })

  poked_6 : (b : ℕ) → eok ≡ eok → (2 == b) ≡ true → IsPoked b before_6
  poked_6 b ok is = subst (λ (a : ℕ). IsPoked a before_6) (eqb-true 2 b is) (record { bytes = no_bytes; poked = refl; block = refl })

  lawful : BlocksWereLawful (doings 2 read_lately)
  lawful = grind (arith, poked_5, poked_6)

-- where block 1 is read by call 5, after call m has written it last, and is given other bytes than
-- came with that, the law is broken
breaks : (h : List Entry) (m : ℕ) (later between earlier : List Doing)
    → doings 2 h ≡ later ++ (Asks (request.Answer 5 (bare eok)) ∷ (between ++ (Asks (request.Answer m (bare eok)) ∷ earlier)))
    → Came read_block 5 1 (doings 2 h) → Came write_block m 1 (doings 2 h) → (HasWrite 1 (doings 2 h) between → ⊥)
    → (last_poke (between ++ (Asks (request.Answer m (bare eok)) ∷ earlier)) ≡ last_peek earlier → ⊥)
    → ReadsGiveTheLastWrite 2 h → ⊥
breaks h m later between earlier at read wrote none apart law =
    let it = law.written later between earlier 5 m 1 (bare eok) (bare eok) at refl refl read wrote none in
    apart (it.poked ∙ sym it.peeked)

abbrev first_byte : Option (List ℕ) → ℕ
first_byte None = 3
first_byte (Some bytes) = get_or bytes 0 0

-- what is told of a call that is answered
abbrev told : List Doing
told = Told outcome.Done ∷ []

-- the read gives the ones that stood there before the last write
abbrev reads_old_bytes : List Entry
reads_old_bytes = writes 3 1 ones eok ++ (writes 4 1 twos eok ++ reads 5 1 ones)

bytes_before_the_last_write : ReadsGiveTheLastWrite 2 reads_old_bytes → ⊥
bytes_before_the_last_write =
    breaks reads_old_bytes 4 told (doings 2 (receives 5 read_block 1 ++ pokes ones) ++ told)
    (doings 2 (writes 3 1 ones eok ++ (receives 4 write_block 1 ++ peeks twos)))
    refl (grind arith) (grind arith) (λ w. grind (arith, w.2)) (λ e. let h : 1 ≡ 2 = ap first_byte e in omega (arith, h))

-- the read of block 1 gives the bytes of block 0
abbrev reads_another_block : List Entry
reads_another_block = writes 3 0 twos eok ++ (writes 4 1 ones eok ++ reads 5 1 twos)

bytes_of_another_block : ReadsGiveTheLastWrite 2 reads_another_block → ⊥
bytes_of_another_block =
    breaks reads_another_block 4 told (doings 2 (receives 5 read_block 1 ++ pokes twos) ++ told)
    (doings 2 (writes 3 0 twos eok ++ (receives 4 write_block 1 ++ peeks ones)))
    refl (grind arith) (grind arith) (λ w. grind (arith, w.2)) (λ e. let h : 2 ≡ 1 = ap first_byte e in omega (arith, h))

-- the read gives twos, which came with a write that was refused
abbrev reads_refused_bytes : List Entry
reads_refused_bytes = writes 4 1 ones eok ++ (writes 3 1 twos einval ++ reads 5 1 twos)

bytes_of_a_refused_write : ReadsGiveTheLastWrite 2 reads_refused_bytes → ⊥
bytes_of_a_refused_write =
    breaks reads_refused_bytes 4 told (doings 2 (writes 3 1 twos einval ++ (receives 5 read_block 1 ++ pokes twos)) ++ told)
    (doings 2 (receives 4 write_block 1 ++ peeks ones))
    refl (grind arith) (grind arith) (λ w. grind (arith, w.2, w.3)) (λ e. let h : 2 ≡ 1 = ap first_byte e in omega (arith, h))

-- the read gives zeros, as if nobody had written the block
abbrev reads_zeros : List Entry
reads_zeros = writes 4 1 ones eok ++ reads 5 1 no_bytes

zeros_after_a_write : ReadsGiveTheLastWrite 2 reads_zeros → ⊥
zeros_after_a_write =
    breaks reads_zeros 4 told (doings 2 (receives 5 read_block 1 ++ pokes no_bytes) ++ told)
    (doings 2 (receives 4 write_block 1 ++ peeks ones))
    refl (grind arith) (grind arith) (λ w. grind (arith, w.2)) (λ e. let h : 0 ≡ 1 = ap first_byte e in omega (arith, h))

-- the read is answered, and then its bytes are poked
abbrev pokes_late : List Entry
pokes_late = writes 4 1 ones eok ++ (receives 5 read_block 1 ++ (answers 5 eok ++ pokes ones))

poke_after_the_answer : ReadsGiveTheLastWrite 2 pokes_late → ⊥
poke_after_the_answer =
    breaks pokes_late 4 (doings 2 (pokes ones) ++ told) (doings 2 (receives 5 read_block 1) ++ told)
    (doings 2 (receives 4 write_block 1 ++ peeks ones))
    refl (grind arith) (grind arith) (λ w. grind (arith, w.2)) (λ e. let h : 3 ≡ 1 = ap first_byte e in omega (arith, h))

-- the read gives ones, and nobody wrote the block
abbrev reads_ones_at_first : List Entry
reads_ones_at_first = reads 5 1 ones

ones_at_first : ReadsGiveTheLastWrite 2 reads_ones_at_first → ⊥
ones_at_first law =
    let h : 1 ≡ 0 = ap first_byte (law.unwritten told (doings 2 (receives 5 read_block 1 ++ pokes ones)) 5 1 (bare eok) refl refl (grind arith) (λ w. grind (arith, w.2))) in
    omega (arith, h)
