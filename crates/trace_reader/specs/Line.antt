-- The line of an entry, cut into pieces.
use Rattle.std.specs.Prelude.{⊤, ℕ, ◌≡◌, ◌<◌, ◌≤◌, ◌^◌, length, List, [], ◌∷◌, ◌++◌, Option, None, Some, codes, decimal, slice_index}
use Rattle.ipc_ids.specs.declared.numbers.TaskNo.{TaskNo}
use Rattle.ipc_ids.specs.declared.numbers.FibrilNo.{FibrilNo}
use Rattle.ipc_ids.specs.declared.numbers.Label.{Label}
use Rattle.ipc_ids.specs.declared.numbers.Code.{Code}
use Rattle.ipc_ids.specs.declared.message.Msg.{Msg}
use Rattle.ipc_ids.specs.declared.message.Reply.{Reply}
use Rattle.ipc_ids.specs.declared.message.Why.{Why}
use Rattle.ipc_ids.specs.declared.message.Why.TheVariants as why
use Rattle.ipc_ids.specs.declared.message.PhoneState.{PhoneState}
use Rattle.ipc_ids.specs.declared.message.PhoneState.TheVariants as phone
use Rattle.ipc_ids.specs.declared.message.Request.{Request}
use Rattle.ipc_ids.specs.declared.message.Request.TheVariants as ask
use Rattle.ipc_ids.specs.declared.message.Outcome.{Outcome}
use Rattle.ipc_ids.specs.declared.message.Outcome.TheVariants as got
use Rattle.ipc_ids.specs.declared.entry.Entry.{Entry}
use Rattle.ipc_ids.specs.declared.entry.Entry.TheVariants as entry
use Rattle.trace_print.specs.Text.{task_text, label_text, code_text, bytes_text, fibril_text, mode_text, exchange_mode_text}

-- five numbers of 64 bits
pub record AreArgs (a : List ℕ) : Type 0 where
  pub five : length a ≡ 5
  pub small : (i : ℕ) → slice_index a i < 2 ^ 64

-- each number is one of a byte
abbrev pub AreBytes : List ℕ → Type 0
AreBytes [] = ⊤
AreBytes (b ∷ bytes) = (b < 256) × AreBytes bytes

-- a word of a line, or five of them
pub data Piece : Type 0 where
  Word : List ℕ → Piece
  Number : ℕ → Piece
  Small : ℕ → Piece
  Task : TaskNo → Piece
  Phone : Label → Piece
  Fibril : TaskNo → FibrilNo → Piece
  Answer : Code → Piece
  Refusal : Code → Piece
  Args : List ℕ → Piece
  Bytes : List ℕ → Piece

-- the words of a piece, before others
abbrev pub before_words : Piece → List (List ℕ) → List (List ℕ)
before_words (Word w) ws = w ∷ ws
before_words (Number n) ws = decimal n ∷ ws
before_words (Small n) ws = decimal n ∷ ws
before_words (Task t) ws = task_text t ∷ ws
before_words (Phone l) ws = label_text l ∷ ws
before_words (Fibril t f) ws = fibril_text t f ∷ ws
before_words (Answer c) ws = code_text c ∷ ws
before_words (Refusal c) ws = code_text c ∷ ws
before_words (Args a) ws =
    decimal (slice_index a 0)
    ∷ decimal (slice_index a 1)
    ∷ decimal (slice_index a 2)
    ∷ decimal (slice_index a 3)
    ∷ decimal (slice_index a 4)
    ∷ ws
before_words (Bytes bytes) ws = bytes_text bytes ∷ ws

-- the words of pieces
abbrev pub words : List Piece → List (List ℕ)
words [] = []
words (p ∷ ps) = before_words p (words ps)

-- numbers are as their types have them, arguments are five, bytes 64 at most, and EOK is no refusal
abbrev pub HasAnd : Piece → Type 0 → Type 0
HasAnd (Word w) More = More
HasAnd (Number n) More = (n < 2 ^ 64) × More
HasAnd (Small n) More = (n < 2 ^ 32) × More
HasAnd (Task t) More = (t.0 < 2 ^ 64) × More
HasAnd (Phone l) More = ((l.task.0 < 2 ^ 64) × (l.phone.0 < 2 ^ 32)) × More
HasAnd (Fibril t f) More = ((t.0 < 2 ^ 64) × (f.0 < 2 ^ 64)) × More
HasAnd (Answer c) More = (c.0 < 2 ^ 64) × More
HasAnd (Refusal c) More = ((c.0 < 2 ^ 64) × (c.0 ≡ 0 → ⊥)) × More
HasAnd (Args a) More = AreArgs a × More
HasAnd (Bytes bytes) More = ((length bytes ≤ 64) × AreBytes bytes) × More

-- each piece is in range
abbrev pub AreInRange : List Piece → Type 0
AreInRange [] = ⊤
AreInRange (p ∷ ps) = HasAnd p (AreInRange ps)

-- words with one space between two
abbrev pub join : List (List ℕ) → List ℕ
join [] = []
join (w ∷ []) = w
join (w ∷ v ∷ ws) = w ++ 32 ∷ join (v ∷ ws)

-- a message, before other pieces
abbrev pub msg_pieces : Msg → List Piece → List Piece
msg_pieces msg more = Number msg.method ∷ Args msg.args ∷ more

-- a reply, before other pieces
abbrev pub reply_pieces : Reply → List Piece → List Piece
reply_pieces reply more = Answer reply.code ∷ Args reply.args ∷ more

-- where an accepted call goes
abbrev pub way_pieces : Option TaskNo → List Piece
way_pieces None = Word (codes "back") ∷ []
way_pieces (Some t) = Word (codes "to") ∷ Task t ∷ []

-- who answers
abbrev pub answerer_pieces : Option TaskNo → List Piece
answerer_pieces None = Word (codes "kernel") ∷ []
answerer_pieces (Some t) = Task t ∷ []

-- the change of a forwarded message, if there is one
abbrev pub change_pieces : Option Msg → List Piece
change_pieces None = []
change_pieces (Some msg) = msg_pieces msg []

-- the slot that a call was sent from, before other pieces
abbrev pub slot_pieces : Option ℕ → List Piece → List Piece
slot_pieces None more = Word (codes "begin") ∷ more
slot_pieces (Some slot) more = Word (codes "slot") ∷ Small slot ∷ more

-- where a phone leads
abbrev pub state_pieces : PhoneState → List Piece
state_pieces phone.Free = Word (codes "free") ∷ []
state_pieces phone.Connecting = Word (codes "connecting") ∷ []
state_pieces (phone.Connected t) = Word (codes "connected") ∷ Task t ∷ []
state_pieces phone.HungUp = Word (codes "hungup") ∷ []
state_pieces phone.Slammed = Word (codes "slammed") ∷ []

-- what a fibril waits for
abbrev pub why_pieces : Why → List Piece
why_pieces (why.Answer n) = Word (codes "answer") ∷ Number n.0 ∷ []
why_pieces (why.Mutex s) = Word (codes "mutex") ∷ Small s ∷ []
why_pieces why.Phone = Word (codes "phone") ∷ []
why_pieces why.Message = Word (codes "message") ∷ []

-- what a task asks for
abbrev pub request_pieces : Request → List Piece
request_pieces (ask.Call phone msg) = Word (codes "call") ∷ Number phone ∷ msg_pieces msg []
request_pieces ask.Receive = Word (codes "receive") ∷ []
request_pieces (ask.Answer call reply) = Word (codes "answer") ∷ Number call ∷ reply_pieces reply []
request_pieces (ask.Forward call phone mode change) =
    Word (codes "forward") ∷ Number call ∷ Number phone ∷ Word (mode_text mode) ∷ change_pieces change
request_pieces (ask.Hangup phone) = Word (codes "hangup") ∷ Number phone ∷ []
request_pieces (ask.AreaMake base pages rights) = Word (codes "area") ∷ Number base ∷ Number pages ∷ Number rights ∷ []
request_pieces (ask.AreaDrop base) = Word (codes "unarea") ∷ Number base ∷ []
request_pieces (ask.Poke at bytes) = Word (codes "poke") ∷ Number at ∷ Bytes bytes ∷ []
request_pieces (ask.Peek at count) = Word (codes "peek") ∷ Number at ∷ Number count ∷ []
request_pieces ask.Nothing = Word (codes "nothing") ∷ []

-- what a task is told
abbrev pub outcome_pieces : Outcome → List Piece
outcome_pieces got.Done = Word (codes "EOK") ∷ []
outcome_pieces (got.Refused code) = Refusal code ∷ []
outcome_pieces (got.Accepted n) = Word (codes "call") ∷ Number n.0 ∷ []
outcome_pieces (got.Received n msg label) =
    Word (codes "received") ∷ Number n.0 ∷ msg_pieces msg (Word (codes "from") ∷ Phone label ∷ [])
outcome_pieces (got.Answered n reply) = Word (codes "answer") ∷ Number n.0 ∷ reply_pieces reply []
outcome_pieces got.Empty = Word (codes "EMPTY") ∷ []
outcome_pieces (got.Bytes bytes) = Word (codes "bytes") ∷ Bytes bytes ∷ []

-- behind two spaces
abbrev pub effect_pieces : Entry → List Piece
effect_pieces (entry.Outcome o) = Word (codes "=") ∷ outcome_pieces o
effect_pieces (entry.Accepted n from method to) =
    Word (codes "call") ∷ Number n.0 ∷ Word (codes "accepted") ∷ Phone from ∷ Word (codes "method") ∷ Number method ∷ way_pieces to
effect_pieces (entry.Received n by) = Word (codes "call") ∷ Number n.0 ∷ Word (codes "received") ∷ Task by ∷ []
effect_pieces (entry.Forwarded n by to label) =
    Word (codes "call") ∷ Number n.0 ∷ Word (codes "forwarded") ∷ Task by ∷ Word (codes "to") ∷ Task to ∷ Word (codes "label") ∷ Phone label ∷ []
effect_pieces (entry.Answered n reply by) =
    Word (codes "call") ∷ Number n.0 ∷ Word (codes "answered") ∷ reply_pieces reply (Word (codes "by") ∷ answerer_pieces by)
effect_pieces (entry.Vanished n) = Word (codes "call") ∷ Number n.0 ∷ Word (codes "vanished") ∷ []
effect_pieces (entry.Delivered n to) = Word (codes "call") ∷ Number n.0 ∷ Word (codes "delivered") ∷ Task to ∷ []
effect_pieces (entry.Dropped n at) = Word (codes "call") ∷ Number n.0 ∷ Word (codes "dropped") ∷ Task at ∷ []
effect_pieces (entry.Forgotten n) = Word (codes "call") ∷ Number n.0 ∷ Word (codes "forgotten") ∷ []
effect_pieces (entry.PhoneIs label state) = Word (codes "phone") ∷ Phone label ∷ state_pieces state
effect_pieces (entry.AreaMade t base pages rights store) =
    Word (codes "area") ∷ Task t ∷ Number base ∷ Number pages ∷ Number rights ∷ Word (codes "store") ∷ Number store.0 ∷ []
effect_pieces (entry.AreaGone t base) = Word (codes "unarea") ∷ Task t ∷ Number base ∷ []
effect_pieces (entry.Wrote t at count store) =
    Word (codes "write") ∷ Task t ∷ Number at ∷ Number count ∷ Word (codes "store") ∷ Number store.0 ∷ []
effect_pieces (entry.Sent t f n slot) = Fibril t f ∷ Word (codes "sent") ∷ Number n.0 ∷ slot_pieces slot []
effect_pieces (entry.Gets t f n slot reply) =
    Fibril t f ∷ Word (codes "gets") ∷ Number n.0 ∷ slot_pieces slot (reply_pieces reply [])
effect_pieces (entry.Blocks t f reason) = Fibril t f ∷ Word (codes "blocks") ∷ why_pieces reason
effect_pieces (entry.Starts t f label) = Fibril t f ∷ Word (codes "starts") ∷ Phone label ∷ []
effect_pieces (entry.Ends t f) = Fibril t f ∷ Word (codes "ends") ∷ []
effect_pieces (entry.Begins t f x mode session phone) =
    Fibril t f ∷ Word (codes "begins") ∷ Word (codes "exchange") ∷ Number x.0 ∷ Word (exchange_mode_text mode) ∷ Word (codes "session") ∷ Small session ∷ Word (codes "phone") ∷ Number phone ∷ []
effect_pieces (entry.ExchangeEnds t f x) = Fibril t f ∷ Word (codes "ends") ∷ Word (codes "exchange") ∷ Number x.0 ∷ []
effect_pieces (entry.Drops t f x) = Fibril t f ∷ Word (codes "drops") ∷ Word (codes "exchange") ∷ Number x.0 ∷ []
effect_pieces (entry.RefusedOp t f code) = Fibril t f ∷ Word (codes "refused") ∷ Answer code ∷ []
effect_pieces _ = []

-- the line of an entry in pieces
abbrev pub pieces_of : Entry → List Piece
pieces_of (entry.Head t asked) = Task t ∷ request_pieces asked
pieces_of (entry.Kill t) = Word (codes "kill") ∷ Task t ∷ []
pieces_of (entry.Gone t) = Task t ∷ Word (codes "ended") ∷ []
pieces_of (entry.Spawn t) = Word (codes "spawn") ∷ Task t ∷ []
pieces_of effect = Word [] ∷ Word [] ∷ effect_pieces effect

-- the words of the line of an entry
abbrev pub words_of : Entry → List (List ℕ)
words_of e = words (pieces_of e)

-- a value that the types of an entry have
abbrev pub IsBuilt : Entry → Type 0
IsBuilt e = AreInRange (pieces_of e)
