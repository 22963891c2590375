-- What a block server asks and what it makes of a call that it receives, a row for each, with all values apart.
use Rattle.std.specs.Prelude.{◌≡◌, ℕ, List, [], ◌∷◌, ◌++◌, Option, None, Some}
use Rattle.ipc_ids.specs.declared.numbers.Label.{Label}
use Rattle.ipc_ids.specs.declared.message.Request.TheVariants as ask
use Rattle.ipc_ids.specs.declared.message.Outcome.{Outcome}
use Rattle.ipc_ids.specs.declared.message.Outcome.TheVariants as got
use Rattle.block_server.specs.declared.received.Work.{Work}
use Rattle.block_server.specs.declared.received.Work.TheVariants.{Offer, Drop, Answer, Show, Fetch}
use Rattle.block_server.specs.Blocks.{BlockState, started, wanted, after}
use Rattle.program_examples.specs.Apart.{five, call_number, code, message, reply, label, block_of}

-- block 0 is of ones, block 1 of twos, and block 2 of threes
abbrev pub blocks : List (List ℕ)
blocks = block_of 1 ∷ block_of 2 ∷ block_of 3 ∷ []

-- slot 1 is that of phone 8 of task 7, slot 3 that of phone 12 of task 11; slot 5 is any, and the others are taken
abbrev pub slots : (first fifth : Option Label) → List (Option Label)
slots first fifth =
    Some (label 5 6) ∷ first ∷ Some (label 9 10) ∷ Some (label 11 12) ∷ Some (label 13 14) ∷ fifth
    ∷ Some (label 17 18) ∷ Some (label 19 20) ∷ Some (label 21 22) ∷ Some (label 23 24) ∷ Some (label 25 26)
    ∷ Some (label 27 28) ∷ Some (label 29 30) ∷ Some (label 31 32) ∷ Some (label 33 34) ∷ Some (label 35 36) ∷ []

-- slot 5 is free
abbrev pub before : BlockState
before = record { blocks = blocks; slots = slots (Some (label 7 8)) None; work = []; taken = 90 }

-- a receive of call 99 with this method and these arguments, over this phone of this task
abbrev pub received : ℕ → List ℕ → (task phone : ℕ) → Outcome
received method args t p = got.Received (call_number 99) (message method args) (label t p)

-- call 99 is to be answered with this code alone
abbrev pub answers : ℕ → Work
answers c = Answer (call_number 99) (reply c (five 0 0 0 0 0))

-- what that makes of the server; it is one outcome more
abbrev pub Makes : Outcome → BlockState → Type 0
Makes outcome state = after before outcome ≡ record state { taken = 91 }

-- this is to be done, and all else stays
abbrev pub Owes : Outcome → List Work → Type 0
Owes outcome work = Makes outcome (record before { work = work })

-- clients connect: 970 is 64 times 15 and 10, 456 is 64 times 7 and 8, and 973 is 64 times 15 and 13
pub record BlockConnections : Type 0 where
  pub new_client : Makes (received 2 (five 91 92 93 94 970) 71 72)
      (record before { slots = slots (Some (label 7 8)) (Some (label 15 10)); work = answers 0 ∷ [] })
  -- one that connects again over the same phone loses its old window
  pub known_client : Owes (received 2 (five 91 92 93 94 456) 71 72) (Drop 8192 ∷ answers 0 ∷ [])
  pub least_free_slot : after (record before { slots = slots None None }) (received 2 (five 91 92 93 94 973) 71 72)
      ≡ record before { slots = slots (Some (label 15 13)) None; work = answers 0 ∷ []; taken = 91 }
  pub no_slot : after (record before { slots = slots (Some (label 7 8)) (Some (label 15 16)) })
      (received 2 (five 91 92 93 94 973) 71 72)
      ≡ record before {
        slots = slots (Some (label 7 8)) (Some (label 15 16));
        work = answers 5 ∷ [];
        taken = 91;
      }

-- a client shares its window: one page, to be read and written, which is taken where the window of its slot begins
pub record BlockShares : Type 0 where
  pub taken : Owes (received 5 (five 91 1 3 94 95) 7 8)
      (Answer (call_number 99) (reply 0 (five 8192 0 0 0 0)) ∷ [])
  pub taken_by_another : Owes (received 5 (five 91 1 3 94 95) 11 12)
      (Answer (call_number 99) (reply 0 (five 16384 0 0 0 0)) ∷ [])
  pub of_two_pages : Owes (received 5 (five 91 2 3 94 95) 7 8) (answers 4 ∷ [])
  pub to_be_read : Owes (received 5 (five 91 1 1 94 95) 7 8) (answers 4 ∷ [])
  pub to_be_written : Owes (received 5 (five 91 1 2 94 95) 7 8) (answers 4 ∷ [])
  pub of_nobody : Owes (received 5 (five 91 1 3 94 95) 8 7) (answers 6 ∷ [])

-- a block is read or written at an offset of the caller's own window: ENOENT where there is no such block, then EINVAL
-- where a block would not stand in the window at such a place, EHANGUP for who has no window
pub record BlockTransfers : Type 0 where
  pub read : Owes (received 512 (five 2 192 93 94 95) 7 8) (Show (call_number 99) 8384 2 ∷ [])
  pub read_by_another : Owes (received 512 (five 2 192 93 94 95) 11 12) (Show (call_number 99) 16576 2 ∷ [])
  pub read_last : Owes (received 512 (five 1 4032 93 94 95) 7 8) (Show (call_number 99) 12224 1 ∷ [])
  pub read_beyond : Owes (received 512 (five 1 4096 93 94 95) 7 8) (answers 4 ∷ [])
  pub read_between : Owes (received 512 (five 1 65 93 94 95) 7 8) (answers 4 ∷ [])
  pub read_no_block : Owes (received 512 (five 3 64 93 94 95) 7 8) (answers 1 ∷ [])
  pub read_no_block_between : Owes (received 512 (five 3 65 93 94 95) 7 8) (answers 1 ∷ [])
  pub read_by_nobody : Owes (received 512 (five 2 192 93 94 95) 8 7) (answers 6 ∷ [])
  pub write : Owes (received 513 (five 2 192 93 94 95) 7 8) (Fetch (call_number 99) 8384 2 ∷ [])
  pub write_by_another : Owes (received 513 (five 2 192 93 94 95) 11 12) (Fetch (call_number 99) 16576 2 ∷ [])
  pub write_last : Owes (received 513 (five 1 4032 93 94 95) 7 8) (Fetch (call_number 99) 12224 1 ∷ [])
  pub write_beyond : Owes (received 513 (five 1 4096 93 94 95) 7 8) (answers 4 ∷ [])
  pub write_between : Owes (received 513 (five 1 65 93 94 95) 7 8) (answers 4 ∷ [])
  pub write_no_block : Owes (received 513 (five 3 64 93 94 95) 7 8) (answers 1 ∷ [])
  pub write_no_block_between : Owes (received 513 (five 3 65 93 94 95) 7 8) (answers 1 ∷ [])
  pub write_by_nobody : Owes (received 513 (five 2 192 93 94 95) 8 7) (answers 6 ∷ [])

-- a client goes: its slot is free and its window dropped; ENOENT for any other method of a client, EHANGUP for nobody's
pub record BlockHangups : Type 0 where
  pub client_goes : Makes (received 0 (five 91 92 93 94 95) 7 8)
      (record before { slots = slots None None; work = Drop 8192 ∷ answers 0 ∷ [] })
  pub nobody_goes : Owes (received 0 (five 91 92 93 94 95) 8 7) (answers 6 ∷ [])
  pub other_method : Owes (received 514 (five 91 92 93 94 95) 7 8) (answers 1 ∷ [])
  pub other_method_of_nobody : Owes (received 514 (five 91 92 93 94 95) 8 7) (answers 6 ∷ [])

-- with this to be done, and something behind it
abbrev pub owing : Work → BlockState
owing work = record before { work = work ∷ Drop 77 ∷ [] }

-- what each piece of work asks
pub record BlockRequests : Type 0 where
  pub offer : wanted (owing (Offer 66)) ≡ ask.Call 0 (message 1 (five 66 0 0 0 0))
  pub drop_window : wanted (owing (Drop 8192)) ≡ ask.AreaDrop 8192
  pub answer : wanted (owing (Answer (call_number 99) (reply 98 (five 91 92 93 94 95))))
      ≡ ask.Answer 99 (reply 98 (five 91 92 93 94 95))
  pub show : wanted (owing (Show (call_number 99) 8384 2)) ≡ ask.Poke 8384 (block_of 3)
  pub fetch : wanted (owing (Fetch (call_number 99) 8384 2)) ≡ ask.Peek 8384 64
  pub none : wanted before ≡ ask.Receive

-- the work is done, and this comes first now
abbrev pub then_owing : List (List ℕ) → List Work → BlockState
then_owing bytes first = record before { blocks = bytes; work = first ++ Drop 77 ∷ []; taken = 91 }

-- what an outcome makes of it: a poke or a peek is answered by what came of it
pub record BlockOutcomes : Type 0 where
  pub offered : after (owing (Offer 66)) (got.Accepted (call_number 61)) ≡ then_owing blocks []
  pub dropped : after (owing (Drop 8192)) (got.Refused (code 98)) ≡ then_owing blocks []
  pub answered : after (owing (Answer (call_number 99) (reply 98 (five 91 92 93 94 95)))) got.Done
      ≡ then_owing blocks []
  pub shown : after (owing (Show (call_number 99) 8384 2)) got.Done ≡ then_owing blocks (answers 0 ∷ [])
  pub show_refused : after (owing (Show (call_number 99) 8384 2)) (got.Refused (code 98))
      ≡ then_owing blocks (answers 98 ∷ [])
  pub fetched : after (owing (Fetch (call_number 99) 8384 1)) (got.Bytes (block_of 9))
      ≡ then_owing (block_of 1 ∷ block_of 9 ∷ block_of 3 ∷ []) (answers 0 ∷ [])
  pub fetch_refused : after (owing (Fetch (call_number 99) 8384 1)) (got.Refused (code 98))
      ≡ then_owing blocks (answers 98 ∷ [])
  pub nothing_came : after before got.Empty ≡ record before { taken = 91 }
  pub answer_came : after before (got.Answered (call_number 61) (reply 62 (five 71 72 73 74 75)))
      ≡ record before { taken = 91 }

-- at the start: blocks of zeros, no client, and an offer where the server has a number for it
pub record BlockStart : Type 0 where
  pub with_service : started 2 (Some 66)
      ≡ record {
        blocks = block_of 0 ∷ block_of 0 ∷ [];
        slots =
            None ∷ None ∷ None ∷ None ∷ None ∷ None ∷ None ∷ None ∷ None ∷ None ∷ None ∷ None ∷ None ∷ None ∷ None
            ∷ None ∷ [];
        work = Offer 66 ∷ [];
        taken = 0;
      }
  pub without : started 2 None ≡ record (started 2 (Some 66)) { work = [] }
