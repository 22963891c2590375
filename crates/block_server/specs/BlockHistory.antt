-- What a block server did so far, the newest first, fits its state.
use Rattle.std.specs.Prelude.{ℕ, ◌≡◌, ◌<◌, true, false, is_some, length, Option, Some, None, List, [], ◌∷◌, slice_get}
use Rattle.ipc_ids.specs.declared.message.Reply.{Reply}
use Rattle.ipc_ids.specs.declared.message.Request.TheVariants as request
use Rattle.ipc_ids.specs.declared.message.Outcome.{Outcome}
use Rattle.ipc_ids.specs.Program.{fits, is_done_or_refused}
use Rattle.ipc_ids.specs.Codes.{eok}
use Rattle.ipc_ids.specs.Doings.{Doing, Asks, Told, receipt, asks_for, is_kept, MayBeTold}
use Rattle.block_server.specs.declared.received.Work.{Work}
use Rattle.block_server.specs.declared.received.Work.TheVariants.{Offer, Drop, Answer, Show, Fetch}
use Rattle.block_server.specs.Blocks.{BlockState, read_block, write_block, started, wanted, after}
use Rattle.block_server.specs.BlockLaw.{ReadsGiveWhatWasWritten, BlocksWereLawful, written, IsPoked}

-- each block has the bytes that the last write of it left
abbrev pub AreWritten : List Doing → List (List ℕ) → Type 0
AreWritten p blocks =
    (b : ℕ) (bytes : List ℕ) → slice_get blocks b ≡ Some bytes → written b p ≡ Some bytes

-- an answer that is to come is one to a call that came; where that is a read, the last poke had the
-- bytes of the block; and once it is given, each block has the bytes that the last write left
pub record AnswerFits (p : List Doing) (n : ℕ) (reply : Reply) (bs : List (List ℕ)) : Type 0 where
  pub came : is_some (receipt n p) ≡ true
  pub read : (b : ℕ) → reply.code ≡ eok → asks_for read_block b (receipt n p) ≡ true → IsPoked b p
  pub blocks : AreWritten (Asks (request.Answer n reply) ∷ p) bs

-- a block is to go to a window, or to come from one
pub record TransferFits (p : List Doing) (method n b : ℕ) (bs : List (List ℕ)) : Type 0 where
  pub asked : asks_for method b (receipt n p) ≡ true
  pub block : b < length bs
  pub blocks : AreWritten p bs

-- what is to be done fits: never more than two pieces of work
abbrev pub WorkFits : List Doing → List (List ℕ) → List Work → Type 0
WorkFits p blocks [] = AreWritten p blocks
WorkFits p blocks (Offer service ∷ []) = AreWritten p blocks
WorkFits p blocks (Answer n reply ∷ []) = AnswerFits p n.0 reply blocks
WorkFits p blocks (Drop base ∷ Answer n reply ∷ []) = AnswerFits p n.0 reply blocks
WorkFits p blocks (Show n at b ∷ []) = TransferFits p read_block n.0 b blocks
WorkFits p blocks (Fetch n at b ∷ []) = TransferFits p write_block n.0 b blocks
WorkFits p blocks _ = ⊥

-- the doings fit the state
pub record BlocksFit (p : List Doing) (s : BlockState) : Type 0 where
  pub lawful : BlocksWereLawful p
  -- no call that came was passed on
  pub kept : (n : ℕ) → is_kept n p ≡ false → receipt n p ≡ None
  pub work : WorkFits p s.blocks s.work

-- so they do at the start
abbrev pub StartFits : Type 0
StartFits = (blocks : ℕ) (service : Option ℕ) → BlocksFit [] (started blocks service)

-- after each step, whatever outcome that fits comes; what is told may be told
abbrev pub StepFits : Type 0
StepFits = (p : List Doing) (s : BlockState) (o : Outcome) → BlocksFit p s →
    fits (wanted s) o ≡ true → MayBeTold p (wanted s) o →
    BlocksFit (Told o ∷ Asks (wanted s) ∷ p) (after s o)

-- and after a hangup by the schedule
abbrev pub HangupFits : Type 0
HangupFits = (p : List Doing) (s : BlockState) (phone : ℕ) (o : Outcome) → BlocksFit p s →
    is_done_or_refused o ≡ true → BlocksFit (Told o ∷ Asks (request.Hangup phone) ∷ p) s

-- doings that fit a state keep the law
abbrev pub FittingIsLawful : Type 0
FittingIsLawful = (p : List Doing) (s : BlockState) → BlocksFit p s → ReadsGiveWhatWasWritten p
