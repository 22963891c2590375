-- The text of a trace: of numbers and bytes, of what a task asks and is told, and of each entry.
use Rattle.std.specs.Prelude.{ℕ, ◌/◌, ◌%◌, List, [], ◌∷◌, ◌++◌, Option, None, Some, unwrap_or, codes, decimal, slice_index}
use Rattle.ipc_ids.specs.declared.numbers.TaskNo.{TaskNo}
use Rattle.ipc_ids.specs.declared.numbers.CallNo.{CallNo}
use Rattle.ipc_ids.specs.declared.numbers.StoreNo.{StoreNo}
use Rattle.ipc_ids.specs.declared.numbers.FibrilNo.{FibrilNo}
use Rattle.ipc_ids.specs.declared.numbers.ExchangeNo.{ExchangeNo}
use Rattle.ipc_ids.specs.declared.numbers.Label.{Label}
use Rattle.ipc_ids.specs.declared.numbers.Code.{Code}
use Rattle.ipc_ids.specs.declared.message.Msg.{Msg}
use Rattle.ipc_ids.specs.declared.message.Reply.{Reply}
use Rattle.ipc_ids.specs.declared.message.Mode.{Mode}
use Rattle.ipc_ids.specs.declared.message.Mode.TheVariants.{Plain, Route}
use Rattle.ipc_ids.specs.declared.message.ExchangeMode.{ExchangeMode}
use Rattle.ipc_ids.specs.declared.message.ExchangeMode.TheVariants.{Atomic, Serialize, Parallel}
use Rattle.ipc_ids.specs.declared.message.Why.{Why}
use Rattle.ipc_ids.specs.declared.message.Why.TheVariants as why
use Rattle.ipc_ids.specs.declared.message.PhoneState.{PhoneState}
use Rattle.ipc_ids.specs.declared.message.PhoneState.TheVariants as phone
use Rattle.ipc_ids.specs.declared.message.Request.{Request}
use Rattle.ipc_ids.specs.declared.message.Request.TheVariants as ask
use Rattle.ipc_ids.specs.declared.message.Outcome.{Outcome}
use Rattle.ipc_ids.specs.declared.message.Outcome.TheVariants as got
use Rattle.ipc_ids.specs.declared.entry.Entry.{Entry}
use Rattle.ipc_ids.specs.declared.entry.Entry.TheVariants as entry
use Rattle.ipc_ids.specs.Tables.{code_names, name_of}

abbrev pub task_text : TaskNo → List ℕ
task_text task = codes "t" ++ decimal task.0

-- a phone of a task
abbrev pub label_text : Label → List ℕ
label_text label = task_text label.task ++ codes "." ++ decimal label.phone.0

-- its name, or its number where it has none
abbrev pub code_text : Code → List ℕ
code_text code = unwrap_or (name_of code_names code.0) (decimal code.0)

abbrev pub spaced_text : ℕ → List ℕ
spaced_text n = codes " " ++ decimal n

-- five numbers, each after a space
abbrev pub args_text : List ℕ → List ℕ
args_text args =
    spaced_text (slice_index args 0)
    ++ spaced_text (slice_index args 1)
    ++ spaced_text (slice_index args 2)
    ++ spaced_text (slice_index args 3)
    ++ spaced_text (slice_index args 4)

abbrev pub msg_text : Msg → List ℕ
msg_text msg = decimal msg.method ++ args_text msg.args

abbrev pub reply_text : Reply → List ℕ
reply_text reply = code_text reply.code ++ args_text reply.args

-- the hexadecimal digit of a number below 16
abbrev pub digit_text : ℕ → ℕ
digit_text n = slice_index (codes "0123456789abcdef") n

-- two digits for each byte
abbrev pub digits_text : List ℕ → List ℕ
digits_text [] = []
digits_text (b ∷ bytes) = digit_text (b / 16) ∷ digit_text (b % 16) ∷ digits_text bytes

-- the digits of the bytes, or - for none
abbrev pub bytes_text : List ℕ → List ℕ
bytes_text [] = codes "-"
bytes_text (b ∷ bytes) = digits_text (b ∷ bytes)

abbrev pub mode_text : Mode → List ℕ
mode_text Plain = codes "plain"
mode_text Route = codes "route"

-- what the next receiver sees in place of the message, where there is a change
abbrev pub change_text : Option Msg → List ℕ
change_text None = []
change_text (Some msg) = codes " " ++ msg_text msg

-- what a task asks
abbrev pub request_text : Request → List ℕ
request_text (ask.Call phone msg) = codes "call " ++ decimal phone ++ codes " " ++ msg_text msg
request_text ask.Receive = codes "receive"
request_text (ask.Answer call reply) = codes "answer " ++ decimal call ++ codes " " ++ reply_text reply
request_text (ask.Forward call phone mode change) =
    codes "forward " ++ decimal call ++ codes " " ++ decimal phone ++ codes " " ++ mode_text mode ++ change_text change
request_text (ask.Hangup phone) = codes "hangup " ++ decimal phone
request_text (ask.AreaMake base pages rights) =
    codes "area " ++ decimal base ++ codes " " ++ decimal pages ++ codes " " ++ decimal rights
request_text (ask.AreaDrop base) = codes "unarea " ++ decimal base
request_text (ask.Poke at bytes) = codes "poke " ++ decimal at ++ codes " " ++ bytes_text bytes
request_text (ask.Peek at count) = codes "peek " ++ decimal at ++ codes " " ++ decimal count
request_text ask.Nothing = codes "nothing"

-- what it is told
abbrev pub outcome_text : Outcome → List ℕ
outcome_text got.Done = codes "EOK"
outcome_text (got.Refused code) = code_text code
outcome_text (got.Accepted call) = codes "call " ++ decimal call.0
outcome_text (got.Received call msg label) =
    codes "received " ++ decimal call.0 ++ codes " " ++ msg_text msg ++ codes " from " ++ label_text label
outcome_text (got.Answered call reply) = codes "answer " ++ decimal call.0 ++ codes " " ++ reply_text reply
outcome_text got.Empty = codes "EMPTY"
outcome_text (got.Bytes bytes) = codes "bytes " ++ bytes_text bytes

-- the call that an effect is on
unfoldable pub call_text : CallNo → List ℕ
call_text call = codes "call " ++ decimal call.0

-- the task that a call goes to; a call that is answered at once comes back
unfoldable pub way_text : Option TaskNo → List ℕ
way_text None = codes " back"
way_text (Some task) = codes " to " ++ task_text task

-- who answers
unfoldable pub answerer_text : Option TaskNo → List ℕ
answerer_text None = codes " by kernel"
answerer_text (Some task) = codes " by " ++ task_text task

-- where a phone leads
abbrev pub phone_state_text : PhoneState → List ℕ
phone_state_text phone.Free = codes "free"
phone_state_text phone.Connecting = codes "connecting"
phone_state_text (phone.Connected task) = codes "connected " ++ task_text task
phone_state_text phone.HungUp = codes "hungup"
phone_state_text phone.Slammed = codes "slammed"

-- the store of bytes that an area stands over
unfoldable pub store_text : StoreNo → List ℕ
store_text store = codes " store " ++ decimal store.0

-- a fibril: its task, a stroke, and its number
unfoldable pub fibril_text : TaskNo → FibrilNo → List ℕ
fibril_text task fibril = task_text task ++ codes "/" ++ decimal fibril.0

-- the slot that a call was sent from; the word begin where it was sent from none
unfoldable pub slot_text : Option ℕ → List ℕ
slot_text None = codes " begin"
slot_text (Some slot) = codes " slot " ++ decimal slot

-- what a fibril waits for
abbrev pub why_text : Why → List ℕ
why_text (why.Answer call) = codes "answer " ++ decimal call.0
why_text (why.Mutex session) = codes "mutex " ++ decimal session
why_text why.Phone = codes "phone"
why_text why.Message = codes "message"

-- the exchange that a fibril begins, ends or drops
unfoldable pub exchange_text : ExchangeNo → List ℕ
exchange_text exchange = codes " exchange " ++ decimal exchange.0

abbrev pub exchange_mode_text : ExchangeMode → List ℕ
exchange_mode_text Atomic = codes "atomic"
exchange_mode_text Serialize = codes "serialize"
exchange_mode_text Parallel = codes "parallel"

-- how an exchange is begun
unfoldable pub terms_text : ExchangeMode → ℕ → ℕ → List ℕ
terms_text mode session phone =
    codes " " ++ exchange_mode_text mode ++ codes " session " ++ decimal session ++ codes " phone " ++ decimal phone

-- what a program tells of an exchange
abbrev pub exchange_effect_text : Entry → List ℕ
exchange_effect_text (entry.Begins task fibril exchange mode session phone) =
    fibril_text task fibril ++ codes " begins" ++ exchange_text exchange ++ terms_text mode session phone
exchange_effect_text (entry.ExchangeEnds task fibril exchange) =
    fibril_text task fibril ++ codes " ends" ++ exchange_text exchange
exchange_effect_text (entry.Drops task fibril exchange) =
    fibril_text task fibril ++ codes " drops" ++ exchange_text exchange
exchange_effect_text _ = []

-- what a program tells of a fibril
abbrev pub fibril_effect_text : Entry → List ℕ
fibril_effect_text (entry.Sent task fibril call slot) =
    fibril_text task fibril ++ codes " sent " ++ decimal call.0 ++ slot_text slot
fibril_effect_text (entry.Gets task fibril call slot reply) =
    fibril_text task fibril ++ codes " gets " ++ decimal call.0 ++ slot_text slot ++ codes " " ++ reply_text reply
fibril_effect_text (entry.Blocks task fibril why) = fibril_text task fibril ++ codes " blocks " ++ why_text why
fibril_effect_text (entry.Starts task fibril label) = fibril_text task fibril ++ codes " starts " ++ label_text label
fibril_effect_text (entry.Ends task fibril) = fibril_text task fibril ++ codes " ends"
fibril_effect_text (entry.RefusedOp task fibril code) = fibril_text task fibril ++ codes " refused " ++ code_text code
fibril_effect_text on_exchange = exchange_effect_text on_exchange

-- what happened to a phone, or to the memory of a task
abbrev pub task_effect_text : Entry → List ℕ
task_effect_text (entry.PhoneIs label state) = codes "phone " ++ label_text label ++ codes " " ++ phone_state_text state
task_effect_text (entry.AreaMade task base pages rights store) =
    codes "area " ++ task_text task ++ spaced_text base ++ spaced_text pages ++ spaced_text rights ++ store_text store
task_effect_text (entry.AreaGone task base) = codes "unarea " ++ task_text task ++ spaced_text base
task_effect_text (entry.Wrote task at count store) =
    codes "write " ++ task_text task ++ spaced_text at ++ spaced_text count ++ store_text store
task_effect_text of_fibril = fibril_effect_text of_fibril

-- what happened to a call, or else to a task
abbrev pub effect_text : Entry → List ℕ
effect_text (entry.Accepted call from method to) =
    call_text call ++ codes " accepted " ++ label_text from ++ codes " method " ++ decimal method ++ way_text to
effect_text (entry.Received call by) = call_text call ++ codes " received " ++ task_text by
effect_text (entry.Forwarded call by to label) =
    call_text call ++ codes " forwarded " ++ task_text by ++ way_text (Some to) ++ codes " label " ++ label_text label
effect_text (entry.Answered call reply by) = call_text call ++ codes " answered " ++ reply_text reply ++ answerer_text by
effect_text (entry.Vanished call) = call_text call ++ codes " vanished"
effect_text (entry.Delivered call to) = call_text call ++ codes " delivered " ++ task_text to
effect_text (entry.Dropped call at) = call_text call ++ codes " dropped " ++ task_text at
effect_text (entry.Forgotten call) = call_text call ++ codes " forgotten"
effect_text of_task = task_effect_text of_task

-- the line of an entry, with its line feed; that of an outcome or of an effect is indented
abbrev pub text_of_entry : Entry → List ℕ
text_of_entry (entry.Head task request) = task_text task ++ codes " " ++ request_text request ++ codes "\n"
text_of_entry (entry.Kill task) = codes "kill " ++ task_text task ++ codes "\n"
text_of_entry (entry.Gone task) = task_text task ++ codes " ended\n"
text_of_entry (entry.Spawn task) = codes "spawn " ++ task_text task ++ codes "\n"
text_of_entry (entry.Outcome outcome) = codes "  = " ++ outcome_text outcome ++ codes "\n"
text_of_entry effect = codes "  " ++ effect_text effect ++ codes "\n"

-- the text of entries is that of each in turn
abbrev pub text_of : List Entry → List ℕ
text_of [] = []
text_of (e ∷ entries) = text_of_entry e ++ text_of entries
