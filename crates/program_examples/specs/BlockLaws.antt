-- What a block server asks after a call has come, in the words of clients, windows and places; numbers are numbers.
-- Window k begins at 4,096 times k + 1 and has 4,096 bytes.
use Rattle.std.specs.Prelude.{◌≡◌, ℕ, ◌+◌, ◌*◌, ◌<◌, ◌≤◌, List, [], ◌∷◌, None, Some, length, slice_get, slice_set}
use Rattle.ipc_ids.specs.declared.numbers.CallNo.{CallNo}
use Rattle.ipc_ids.specs.declared.numbers.Label.{Label}
use Rattle.ipc_ids.specs.declared.message.Reply.{Reply}
use Rattle.ipc_ids.specs.declared.message.Request.{Request}
use Rattle.ipc_ids.specs.declared.message.Request.TheVariants as ask
use Rattle.ipc_ids.specs.declared.message.Outcome.{Outcome}
use Rattle.ipc_ids.specs.declared.message.Outcome.TheVariants as got
use Rattle.block_server.specs.declared.received.Work.{Work}
use Rattle.block_server.specs.declared.received.Work.TheVariants.{Offer, Drop, Answer, Show, Fetch}
use Rattle.block_server.specs.Blocks.{BlockState, wanted, after}
use Rattle.program_examples.specs.Apart.{five, code, message, reply}

-- window k is that of this client
abbrev pub Has : BlockState → ℕ → Label → Type 0
Has s k client = slice_get s.slots k ≡ Some (Some client)

-- no window is
abbrev pub HasNone : BlockState → Label → Type 0
HasNone s client = (k : ℕ) → Has s k client → ⊥

-- the server owes nothing, and no two windows are of one client
pub record IsAtRest (s : BlockState) : Type 0 where
  pub idle : s.work ≡ []
  pub apart : (j k : ℕ) (client : Label) → Has s j client → Has s k client → j ≡ k

-- a call with this method comes, which makes this of the server
pub record Comes (method : ℕ) (s now : BlockState) : Type 0 where
  pub rest : IsAtRest s
  pub call : CallNo
  pub client : Label
  pub first : ℕ
  pub second : ℕ
  pub third : ℕ
  pub fourth : ℕ
  pub fifth : ℕ
  pub made : now ≡ after s (got.Received call (message method (five first second third fourth fifth)) client)

-- it asks this, and no block and no window has changed
pub record Asks (request : Request) (s now : BlockState) : Type 0 where
  pub asked : wanted now ≡ request
  pub blocks : now.blocks ≡ s.blocks
  pub slots : now.slots ≡ s.slots

-- it answers with a code alone
abbrev pub Refuses : CallNo → ℕ → BlockState → BlockState → Type 0
Refuses call code s now = Asks (ask.Answer call.0 (reply code (five 0 0 0 0 0))) s now

-- ---- blocks that are read and written

-- a block stands at this offset of a window: at a multiple of 64, and whole
pub record IsPlace (offset : ℕ) : Type 0 where
  pub number : ℕ
  pub there : offset ≡ 64 * number
  pub whole : offset + 64 ≤ 4096

-- so many bytes from an address on are within window k
pub record IsWithin (k address count : ℕ) : Type 0 where
  pub from : 4096 * (k + 1) ≤ address
  pub to : address + count ≤ 4096 * (k + 1) + 4096

-- who has no window is told EHANGUP; a block that is not there is told with ENOENT, then a place that is none with
-- EINVAL
pub record RefusesTransfers (method : ℕ) : Type 0 where
  pub nobody : (s now : BlockState) (c : Comes method s now) → HasNone s c.client → Refuses c.call 6 s now
  pub no_block : (s now : BlockState) (c : Comes method s now) (k : ℕ) → Has s k c.client →
      length s.blocks ≤ c.first → Refuses c.call 1 s now
  pub no_place : (s now : BlockState) (c : Comes method s now) (k : ℕ) → Has s k c.client →
      c.first < length s.blocks → (IsPlace c.second → ⊥) → Refuses c.call 4 s now

-- else a read writes the bytes of the block to the caller's own window, at its offset
abbrev pub ReadsGoToTheOwnWindow : Type 0
ReadsGoToTheOwnWindow =
    (s now : BlockState) (c : Comes 512 s now) (k : ℕ) (bytes : List ℕ) → Has s k c.client →
    slice_get s.blocks c.first ≡ Some bytes → IsPlace c.second →
    Asks (ask.Poke (4096 * (k + 1) + c.second) bytes) s now

-- and a write reads 64 bytes there
abbrev pub WritesComeFromTheOwnWindow : Type 0
WritesComeFromTheOwnWindow =
    (s now : BlockState) (c : Comes 513 s now) (k : ℕ) → Has s k c.client →
    c.first < length s.blocks → IsPlace c.second →
    Asks (ask.Peek (4096 * (k + 1) + c.second) 64) s now

-- no byte of either lies outside of that window
abbrev pub PlacesAreWithin : Type 0
PlacesAreWithin = (k offset : ℕ) → IsPlace offset → IsWithin k (4096 * (k + 1) + offset) 64

-- ---- windows that are shared

-- a share of one page, to be read and written, is taken where the caller's window begins; any other is told EINVAL, and
-- who has no window EHANGUP
pub record SharesAreTaken : Type 0 where
  pub nobody : (s now : BlockState) (c : Comes 5 s now) → HasNone s c.client → Refuses c.call 6 s now
  pub taken : (s now : BlockState) (c : Comes 5 s now) (k : ℕ) → Has s k c.client → c.second ≡ 1 → c.third ≡ 3 →
      Asks (ask.Answer c.call.0 (reply 0 (five (4096 * (k + 1)) 0 0 0 0))) s now
  pub other : (s now : BlockState) (c : Comes 5 s now) (k : ℕ) → Has s k c.client →
      (c.second ≡ 1 → c.third ≡ 3 → ⊥) → Refuses c.call 4 s now

-- ---- clients that connect

-- a client that connects is known by the phone of the fifth argument: 64 times its task, and its number
pub record IsClient (client : Label) (given : ℕ) : Type 0 where
  pub number : given ≡ 64 * client.task.0 + client.phone.0
  pub small : client.phone.0 < 64

-- window k is free, and none before it
pub record IsFirstFree (s : BlockState) (k : ℕ) : Type 0 where
  pub free : slice_get s.slots k ≡ Some None
  pub before : (j : ℕ) → j < k → slice_get s.slots j ≡ Some None → ⊥

-- no window is free
abbrev pub HasNoFree : BlockState → Type 0
HasNoFree s = (k : ℕ) → slice_get s.slots k ≡ Some None → ⊥

-- the client has window k now, and all others stay
pub record Enters (client : Label) (k : ℕ) (s now : BlockState) : Type 0 where
  pub has : Has now k client
  pub others : (j : ℕ) → (j ≡ k → ⊥) → slice_get now.slots j ≡ slice_get s.slots j
  pub blocks : now.blocks ≡ s.blocks

-- one that connects again loses its old window, and then is answered; a new one gets the first that is free; where none
-- is, it is told ELIMIT
pub record ClientsConnect : Type 0 where
  pub again : (s now : BlockState) (c : Comes 2 s now) (client : Label) (k : ℕ) → IsClient client c.fifth →
      Has s k client → Asks (ask.AreaDrop (4096 * (k + 1))) s now
  pub answered : (s now : BlockState) (c : Comes 2 s now) (client : Label) (k : ℕ) (o : Outcome) →
      IsClient client c.fifth → Has s k client → Refuses c.call 0 s (after now o)
  pub enters : (s now : BlockState) (c : Comes 2 s now) (client : Label) (k : ℕ) → IsClient client c.fifth →
      HasNone s client → IsFirstFree s k → Enters client k s now
  pub welcomed : (s now : BlockState) (c : Comes 2 s now) (client : Label) (k : ℕ) → IsClient client c.fifth →
      HasNone s client → IsFirstFree s k → wanted now ≡ ask.Answer c.call.0 (reply 0 (five 0 0 0 0 0))
  pub full : (s now : BlockState) (c : Comes 2 s now) (client : Label) → IsClient client c.fifth →
      HasNone s client → HasNoFree s → Refuses c.call 5 s now

-- ---- what a server owes

-- a transfer that is owed is answered next, with what came of it, and all that is owed behind it stays; a read changes
-- no block, a write the one that it names, and a write that is refused none
pub record TransfersAreAnswered : Type 0 where
  pub shown : (s : BlockState) (call : CallNo) (address block : ℕ) (rest : List Work) →
      s.work ≡ Show call address block ∷ rest →
      after s got.Done
      ≡ record s { work = Answer call (reply 0 (five 0 0 0 0 0)) ∷ rest; taken = s.taken + 1 }
  pub not_shown : (s : BlockState) (call : CallNo) (address block n : ℕ) (rest : List Work) →
      s.work ≡ Show call address block ∷ rest →
      after s (got.Refused (code n))
      ≡ record s { work = Answer call (reply n (five 0 0 0 0 0)) ∷ rest; taken = s.taken + 1 }
  pub fetched : (s : BlockState) (call : CallNo) (address block : ℕ) (rest : List Work) (bytes : List ℕ) →
      s.work ≡ Fetch call address block ∷ rest →
      after s (got.Bytes bytes)
      ≡ record s {
        blocks = slice_set s.blocks block bytes;
        work = Answer call (reply 0 (five 0 0 0 0 0)) ∷ rest;
        taken = s.taken + 1;
      }
  pub not_fetched : (s : BlockState) (call : CallNo) (address block n : ℕ) (rest : List Work) →
      s.work ≡ Fetch call address block ∷ rest →
      after s (got.Refused (code n))
      ≡ record s { work = Answer call (reply n (five 0 0 0 0 0)) ∷ rest; taken = s.taken + 1 }

-- any other work that is owed is done, whatever comes of it, and what is owed behind it stays
pub record OwedWorkStays : Type 0 where
  pub offered : (s : BlockState) (service : ℕ) (rest : List Work) (o : Outcome) → s.work ≡ Offer service ∷ rest →
      after s o ≡ record s { work = rest; taken = s.taken + 1 }
  pub dropped : (s : BlockState) (base : ℕ) (rest : List Work) (o : Outcome) → s.work ≡ Drop base ∷ rest →
      after s o ≡ record s { work = rest; taken = s.taken + 1 }
  pub answered : (s : BlockState) (call : CallNo) (said : Reply) (rest : List Work) (o : Outcome) →
      s.work ≡ Answer call said ∷ rest → after s o ≡ record s { work = rest; taken = s.taken + 1 }
