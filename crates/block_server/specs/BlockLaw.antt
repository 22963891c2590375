-- The law of blocks, over what one block server did, the newest first; and the form of it that is
-- proved of a list one doing after the other.
use Rattle.std.specs.Prelude.{ℕ, ◌≡◌, ◌==◌, ◌&&◌, ◌++◌, Bool, true, false, if◌then◌else◌, is_some, Option, Some, None, List, [], ◌∷◌, ⊤}
use Rattle.ipc_ids.specs.declared.message.Reply.{Reply}
use Rattle.ipc_ids.specs.declared.message.Request.TheVariants as request
use Rattle.ipc_ids.specs.declared.message.Outcome.{Outcome}
use Rattle.ipc_ids.specs.declared.message.Outcome.TheVariants as outcome
use Rattle.ipc_ids.specs.declared.entry.Entry.{Entry}
use Rattle.ipc_ids.specs.Codes.{eok}
use Rattle.ipc_ids.specs.Doings.{Doing, Asks, Told, doings, Came, IsAmong, receipt, asks_for}
use Rattle.block_server.specs.Blocks.{read_block, write_block, no_bytes}

-- the bytes of the last poke
abbrev pub last_poke : List Doing → Option (List ℕ)
last_poke [] = None
last_poke (Asks (request.Poke at bytes) ∷ p) = Some bytes
last_poke (x ∷ p) = last_poke p

-- the newest doing is a peek
abbrev pub is_peek : List Doing → Bool
is_peek [] = false
is_peek (Asks (request.Peek at count) ∷ p) = true
is_peek (x ∷ p) = false

abbrev pub bytes_of : Outcome → Option (List ℕ)
bytes_of (outcome.Bytes bytes) = Some bytes
bytes_of _ = None

-- the bytes that were the outcome of the last peek
abbrev pub last_peek : List Doing → Option (List ℕ)
last_peek [] = None
last_peek (Told o ∷ p) = if is_peek p then bytes_of o else last_peek p
last_peek (Asks asked ∷ p) = last_peek p

-- a call by which block b is written, one of those that came in p, is answered with success here
abbrev pub HasWrite : ℕ → List Doing → List Doing → Type 0
HasWrite b p here =
    (n : ℕ) × (reply : Reply) × IsAmong (Asks (request.Answer n reply)) here
    × (reply.code ≡ eok) × Came write_block n b p

-- the last poke here had the bytes that the last peek there gave
pub record Gives (here there : List Doing) : Type 0 where
  pub bytes : List ℕ
  pub poked : last_poke here ≡ Some bytes
  pub peeked : last_peek there ≡ Some bytes

-- the law for one server
pub record ReadsGiveWhatWasWritten (p : List Doing) : Type 0 where
  -- where a read of block b is answered, the last write of it before was answered here: the last
  -- poke had the bytes that the last peek before that answer gave
  pub written : (later between earlier : List Doing) (n m b : ℕ) (read write : Reply) →
      p ≡ later ++ (Asks (request.Answer n read) ∷ (between ++ (Asks (request.Answer m write) ∷ earlier))) →
      read.code ≡ eok → write.code ≡ eok → Came read_block n b p → Came write_block m b p →
      (HasWrite b p between → ⊥) →
      Gives (between ++ (Asks (request.Answer m write) ∷ earlier)) earlier
  -- where there was none, it had 64 zeros
  pub unwritten : (later earlier : List Doing) (n b : ℕ) (read : Reply) →
      p ≡ later ++ (Asks (request.Answer n read) ∷ earlier) →
      read.code ≡ eok → Came read_block n b p → (HasWrite b p earlier → ⊥) →
      last_poke earlier ≡ Some no_bytes

-- the law of blocks, for server d
abbrev pub ReadsGiveTheLastWrite : ℕ → List Entry → Type 0
ReadsGiveTheLastWrite d h = ReadsGiveWhatWasWritten (doings d h)

-- the answer to a call that came with this tells of a write of block b
abbrev pub is_write : ℕ → Reply → Bool → Bool
is_write b reply came = (reply.code.0 == 0) && came

-- the bytes of block b as the last write of it left them
abbrev pub written : ℕ → List Doing → Option (List ℕ)
written b [] = Some no_bytes
written b (Asks (request.Answer n reply) ∷ p) =
    if is_write b reply (asks_for write_block b (receipt n p)) then last_peek p else written b p
written b (x ∷ p) = written b p

-- the last poke had the bytes of block b
pub record IsPoked (b : ℕ) (p : List Doing) : Type 0 where
  pub bytes : List ℕ
  pub poked : last_poke p ≡ Some bytes
  pub block : written b p ≡ Some bytes

-- after these doings this one is lawful: a call comes once; an answer is one to a call that came,
-- and where that is a read, the last poke had the bytes of the block
abbrev pub IsLawfulDoing : List Doing → Doing → Type 0
IsLawfulDoing p (Told (outcome.Received n msg label)) = receipt n.0 p ≡ None
IsLawfulDoing p (Asks (request.Answer n reply)) =
    (is_some (receipt n p) ≡ true)
    × ((b : ℕ) → reply.code ≡ eok → asks_for read_block b (receipt n p) ≡ true → IsPoked b p)
IsLawfulDoing p _ = ⊤

-- each doing was lawful as it came
abbrev pub BlocksWereLawful : List Doing → Type 0
BlocksWereLawful [] = ⊤
BlocksWereLawful (x ∷ p) = BlocksWereLawful p × IsLawfulDoing p x
