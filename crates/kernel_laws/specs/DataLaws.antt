-- Which bytes the data methods move, and which areas are shared, in the words of areas, addresses and bytes.
-- The arguments of a call are a1 to a5, those of its answer b1 to b5.
use Rattle.std.specs.Prelude.{◌≡◌, ℕ, ◌+◌, ◌<◌, ◌≤◌, ◌↔◌, nat_lt, if◌then◌else◌, List, length, slice_get, slice_index, Result, Ok, Err}
use Rattle.ipc_ids.specs.declared.numbers.Code.{Code}
use Rattle.ipc_ids.specs.declared.numbers.TaskNo.{TaskNo}
use Rattle.ipc_ids.specs.declared.message.Reply.{Reply}
use Rattle.ipc_ids.specs.Codes.{eok, enoent, eperm, elimit, enomem}
use Rattle.ipc_ids.specs.Methods.{data_read}
use Rattle.call_slab.specs.declared.call.Call.{Call}
use Rattle.address_space.specs.Areas.{Area}
use Rattle.address_space.specs.Memory.{Memory}
use Rattle.kernel_laws.specs.MemoryLaws.{NoArea, HasAt, IsReadable, AreAmong, IsLawfulRead}

-- a1 to a3 of a call, or b1 to b3 of an answer
abbrev pub first : List ℕ → ℕ
first args = slice_index args 0

abbrev pub second : List ℕ → ℕ
second args = slice_index args 1

abbrev pub third : List ℕ → ℕ
third args = slice_index args 2

-- a data call asks for more than 65,536 bytes, and not to be cut down, which a3 says by a 1
pub record IsTooLarge (args : List ℕ) : Type 0 where
  pub large : 65536 < second args
  pub whole : third args ≡ 1 → ⊥

-- how many bytes a data call asks for that is not too large: a2, or 65,536 where it is cut down
abbrev pub asked : List ℕ → ℕ
asked args = if nat_lt 65536 (second args) then 65536 else second args

-- there are such bytes, and no area of the task that may be read has them
pub record IsUnreadable (m : Memory) (t : TaskNo) (at count : ℕ) : Type 0 where
  pub some : 1 ≤ count
  pub none : NoArea (IsReadable m t at count)

-- so many bytes more would not fit beside those of the other calls
abbrev pub IsFull : ℕ → ℕ → Type 0
IsFull used count = 67108864 < used + count

-- bytes are told
abbrev pub AreTold : Result (List ℕ) Code → Type 0
AreTold told = (bytes : List ℕ) × (told ≡ Ok bytes)

-- what is copied of the caller's memory as a DATA_WRITE is sent, or why it is not sent: the first cause
pub record IsLawfulCopy (m : Memory) (caller : TaskNo) (args : List ℕ) (used : ℕ) (told : Result (List ℕ) Code) : Type 0 where
  pub large : told ≡ Err elimit ↔ IsTooLarge args
  pub closed : told ≡ Err eperm ↔ (IsTooLarge args → ⊥) × IsUnreadable m caller (first args) (asked args)
  pub full : told ≡ Err enomem ↔
      (IsTooLarge args → ⊥) × (IsUnreadable m caller (first args) (asked args) → ⊥) × IsFull used (asked args)
  pub sent : AreTold told ↔
      (IsTooLarge args → ⊥) × (IsUnreadable m caller (first args) (asked args) → ⊥) × (IsFull used (asked args) → ⊥)
  -- they are as many as it asks for, from a1 on
  pub bytes : (bytes : List ℕ) → told ≡ Ok bytes → IsLawfulRead m caller (first args) (asked args) (Ok bytes)

-- these are so many bytes, the first of those
pub record AreFirst (new : List ℕ) (count : ℕ) (bytes : List ℕ) : Type 0 where
  pub many : length new ≡ count
  pub each : (i : ℕ) → i < count → slice_get new i ≡ slice_get bytes i

-- whether a DATA_READ is sent, and how many bytes it asks for then
pub record IsLawfulAsking (args : List ℕ) (told : Result ℕ Code) : Type 0 where
  pub large : told ≡ Err elimit ↔ IsTooLarge args
  pub sent : told ≡ Ok (asked args) ↔ (IsTooLarge args → ⊥)

-- the arguments of a data call as it is sent: they are as they were, or, where it asks for too many bytes, five of
-- which a2 is what it may ask for, and the others are as they were
pub record AreCutDown (args sent : List ℕ) : Type 0 where
  pub few : second args ≤ 65536 → sent ≡ args
  pub five : 65536 < second args → length sent ≡ 5
  pub second : slice_index sent 1 ≡ asked args
  pub others : (i : ℕ) → i < 5 → (i ≡ 1 → ⊥) → slice_index sent i ≡ slice_index args i

-- what an accepting answer to a DATA_READ takes of the answerer's memory, or why it does not: the first cause
pub record IsLawfulTaking (m : Memory) (answerer : TaskNo) (args : List ℕ) (reply : Reply) (used : ℕ) (told : Result (List ℕ) Code) : Type 0 where
  pub more : told ≡ Err elimit ↔ (second args < second reply.args)
  pub closed : told ≡ Err eperm ↔
      (second reply.args ≤ second args) × IsUnreadable m answerer (first reply.args) (second reply.args)
  pub full : told ≡ Err enomem ↔
      (second reply.args ≤ second args) × (IsUnreadable m answerer (first reply.args) (second reply.args) → ⊥) × IsFull used (second reply.args)
  pub taken : AreTold told ↔
      (second reply.args ≤ second args) × (IsUnreadable m answerer (first reply.args) (second reply.args) → ⊥) × (IsFull used (second reply.args) → ⊥)
  -- they are b2 bytes, from b1 on
  pub bytes : (bytes : List ℕ) → told ≡ Ok bytes →
      IsLawfulRead m answerer (first reply.args) (second reply.args) (Ok bytes)

-- an area of the caller begins at a1, has a2 pages, and has each of the rights a3, which are 1 to 3
pub record IsOffered (m : Memory) (caller : TaskNo) (args : List ℕ) (a : Area) : Type 0 where
  pub has : HasAt m caller (first args) a
  pub pages : a.pages ≡ second args
  pub lowest : 1 ≤ third args
  pub highest : third args ≤ 3
  pub rights : AreAmong (third args) a.rights

-- whether a SHARE_OUT is sent, and why not
pub record IsLawfulOffer (m : Memory) (caller : TaskNo) (args : List ℕ) (told : Result Unit Code) : Type 0 where
  pub gone : told ≡ Err enoent ↔ NoArea (HasAt m caller (first args))
  pub unlike : told ≡ Err eperm ↔
      ((a : Area) × HasAt m caller (first args) a) × NoArea (IsOffered m caller args)
  pub sent : told ≡ Ok tt ↔ (a : Area) × IsOffered m caller args a

-- a SHARE_IN asks for a2 pages, 1 to 16, and for the rights a3, 1 to 3
pub record IsAreaAsked (args : List ℕ) : Type 0 where
  pub some : 1 ≤ second args
  pub few : second args ≤ 16
  pub lowest : 1 ≤ third args
  pub highest : third args ≤ 3

-- whether it is sent
pub record IsLawfulWish (args : List ℕ) (told : Result Unit Code) : Type 0 where
  pub refused : told ≡ Err eperm ↔ (IsAreaAsked args → ⊥)
  pub sent : told ≡ Ok tt ↔ IsAreaAsked args

-- the code of something that was tried: EOK where it was done
abbrev pub code_after : {A : Type 0} → Result A Code → Code
code_after (Ok x) = eok
code_after (Err code) = code

-- the call is a DATA_READ that was accepted
pub record IsBrought (c : Call) : Type 0 where
  pub asks : c.request.method ≡ data_read
  pub accepted : c.reply.code ≡ eok
