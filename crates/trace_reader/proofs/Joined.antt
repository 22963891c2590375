-- The text of an entry is its words.
use Rattle.std.proofs.Common.{refl, sym, ◌∙◌, append_assoc, true, ℕ, ◌≡◌, List, [], ◌++◌, Option, None, Some}
use Rattle.std.specs.Prelude.{codes, decimal, slice_index}
use Rattle.ipc_ids.specs.declared.numbers.TaskNo.{TaskNo}
use Rattle.ipc_ids.specs.declared.numbers.CallNo.{CallNo}
use Rattle.ipc_ids.specs.declared.numbers.StoreNo.{StoreNo}
use Rattle.ipc_ids.specs.declared.numbers.ExchangeNo.{ExchangeNo}
use Rattle.ipc_ids.specs.declared.message.Msg.{Msg}
use Rattle.ipc_ids.specs.declared.message.Reply.{Reply}
use Rattle.ipc_ids.specs.declared.message.Mode.TheVariants.{Plain, Route}
use Rattle.ipc_ids.specs.declared.message.ExchangeMode.TheVariants.{Atomic}
use Rattle.ipc_ids.specs.declared.message.Why.{Why}
use Rattle.ipc_ids.specs.declared.message.Why.TheVariants as why
use Rattle.ipc_ids.specs.declared.message.PhoneState.{PhoneState}
use Rattle.ipc_ids.specs.declared.message.PhoneState.TheVariants as phone
use Rattle.ipc_ids.specs.declared.message.Request.{Request}
use Rattle.ipc_ids.specs.declared.message.Request.TheVariants as ask
use Rattle.ipc_ids.specs.declared.message.Outcome.{Outcome}
use Rattle.ipc_ids.specs.declared.message.Outcome.TheVariants as got
use Rattle.ipc_ids.specs.declared.entry.Entry.{Entry}
use Rattle.ipc_ids.specs.declared.entry.Entry.TheVariants as entry
use Rattle.trace_print.specs.Text.{text_of_entry, call_text, way_text, answerer_text, store_text, slot_text, exchange_text, terms_text, task_text, label_text, code_text, bytes_text, fibril_text, mode_text, exchange_mode_text, spaced_text}
use Rattle.trace_reader.proofs.Trees.{Tree, leaf, ◌+◌, text, flat, joined, both}
use Rattle.trace_reader.proofs.Parts.{AllLack}
use Rattle.trace_reader.proofs.Pieces.{are_clean, all_lack}
use Rattle.trace_reader.specs.Line.{join, words_of, pieces_of, IsBuilt}

-- the text of the entry is its words, with spaces between them, and a line feed
abbrev pub IsJoined : Entry → Type 0
IsJoined e = text_of_entry e ≡ join (words_of e) ++ codes "\n"

abbrev num : ℕ → Tree
num n = leaf (decimal n)

abbrev args : List ℕ → Tree
args a =
    leaf (spaced_text (slice_index a 0))
    + leaf (spaced_text (slice_index a 1))
    + leaf (spaced_text (slice_index a 2))
    + leaf (spaced_text (slice_index a 3))
    + leaf (spaced_text (slice_index a 4))

abbrev message : Msg → Tree
message m = num m.method + args m.args

abbrev answer : Reply → Tree
answer r = leaf (code_text r.code) + args r.args

abbrev call : CallNo → Tree
call n = leaf (codes "call ") + num n.0

abbrev store : StoreNo → Tree
store s = leaf (codes " store ") + num s.0

abbrev exchange : ExchangeNo → Tree
exchange x = leaf (codes " exchange ") + num x.0

abbrev way : Option TaskNo → Tree
way None = leaf (codes " back")
way (Some t) = leaf (codes " to ") + leaf (task_text t)

abbrev answerer : Option TaskNo → Tree
answerer None = leaf (codes " by kernel")
answerer (Some t) = leaf (codes " by ") + leaf (task_text t)

abbrev change : Option Msg → Tree
change None = leaf []
change (Some m) = leaf (codes " ") + message m

abbrev slot : Option ℕ → Tree
slot None = leaf (codes " begin")
slot (Some k) = leaf (codes " slot ") + num k

abbrev state : PhoneState → Tree
state phone.Free = leaf (codes "free")
state phone.Connecting = leaf (codes "connecting")
state (phone.Connected t) = leaf (codes "connected ") + leaf (task_text t)
state phone.HungUp = leaf (codes "hungup")
state phone.Slammed = leaf (codes "slammed")

abbrev reason : Why → Tree
reason (why.Answer n) = leaf (codes "answer ") + num n.0
reason (why.Mutex s) = leaf (codes "mutex ") + num s
reason why.Phone = leaf (codes "phone")
reason why.Message = leaf (codes "message")

abbrev request : Request → Tree
request (ask.Call p m) = leaf (codes "call ") + num p + leaf (codes " ") + message m
request ask.Receive = leaf (codes "receive")
request (ask.Answer n r) = leaf (codes "answer ") + num n + leaf (codes " ") + answer r
request (ask.Forward n p mode to) =
    leaf (codes "forward ") + num n + leaf (codes " ") + num p + leaf (codes " ") + leaf (mode_text mode) + change to
request (ask.Hangup p) = leaf (codes "hangup ") + num p
request (ask.AreaMake base pages rights) =
    leaf (codes "area ") + num base + leaf (codes " ") + num pages + leaf (codes " ") + num rights
request (ask.AreaDrop base) = leaf (codes "unarea ") + num base
request (ask.Poke at bytes) = leaf (codes "poke ") + num at + leaf (codes " ") + leaf (bytes_text bytes)
request (ask.Peek at count) = leaf (codes "peek ") + num at + leaf (codes " ") + num count
request ask.Nothing = leaf (codes "nothing")

abbrev outcome : Outcome → Tree
outcome got.Done = leaf (codes "EOK")
outcome (got.Refused c) = leaf (code_text c)
outcome (got.Accepted n) = leaf (codes "call ") + num n.0
outcome (got.Received n m l) =
    leaf (codes "received ") + num n.0 + leaf (codes " ") + message m + leaf (codes " from ") + leaf (label_text l)
outcome (got.Answered n r) = leaf (codes "answer ") + num n.0 + leaf (codes " ") + answer r
outcome got.Empty = leaf (codes "EMPTY")
outcome (got.Bytes bytes) = leaf (codes "bytes ") + leaf (bytes_text bytes)

abbrev effect : Entry → Tree
effect (entry.Accepted n l m to) =
    call n + leaf (codes " accepted ") + leaf (label_text l) + leaf (codes " method ") + num m + way to
effect (entry.Received n t) = call n + leaf (codes " received ") + leaf (task_text t)
effect (entry.Forwarded n t to l) =
    call n + leaf (codes " forwarded ") + leaf (task_text t) + way (Some to) + leaf (codes " label ") + leaf (label_text l)
effect (entry.Answered n r by) = call n + leaf (codes " answered ") + answer r + answerer by
effect (entry.Vanished n) = call n + leaf (codes " vanished")
effect (entry.Delivered n t) = call n + leaf (codes " delivered ") + leaf (task_text t)
effect (entry.Dropped n t) = call n + leaf (codes " dropped ") + leaf (task_text t)
effect (entry.Forgotten n) = call n + leaf (codes " forgotten")
effect (entry.PhoneIs l s) = leaf (codes "phone ") + leaf (label_text l) + leaf (codes " ") + state s
effect (entry.AreaMade t base pages rights s) =
    leaf (codes "area ") + leaf (task_text t) + leaf (spaced_text base) + leaf (spaced_text pages) + leaf (spaced_text rights) + store s
effect (entry.AreaGone t base) = leaf (codes "unarea ") + leaf (task_text t) + leaf (spaced_text base)
effect (entry.Wrote t at count s) =
    leaf (codes "write ") + leaf (task_text t) + leaf (spaced_text at) + leaf (spaced_text count) + store s
effect (entry.Sent t f n k) = leaf (fibril_text t f) + leaf (codes " sent ") + num n.0 + slot k
effect (entry.Gets t f n k r) =
    leaf (fibril_text t f) + leaf (codes " gets ") + num n.0 + slot k + leaf (codes " ") + answer r
effect (entry.Blocks t f r) = leaf (fibril_text t f) + leaf (codes " blocks ") + reason r
effect (entry.Starts t f l) = leaf (fibril_text t f) + leaf (codes " starts ") + leaf (label_text l)
effect (entry.Ends t f) = leaf (fibril_text t f) + leaf (codes " ends")
effect (entry.Begins t f x mode s p) =
    leaf (fibril_text t f) + leaf (codes " begins") + exchange x
    + (leaf (codes " ") + leaf (exchange_mode_text mode) + leaf (codes " session ") + num s + leaf (codes " phone ") + num p)
effect (entry.ExchangeEnds t f x) = leaf (fibril_text t f) + leaf (codes " ends") + exchange x
effect (entry.Drops t f x) = leaf (fibril_text t f) + leaf (codes " drops") + exchange x
effect (entry.RefusedOp t f c) = leaf (fibril_text t f) + leaf (codes " refused ") + leaf (code_text c)
effect _ = leaf []

abbrev tree_of : Entry → Tree
tree_of (entry.Head t r) = leaf (task_text t) + leaf (codes " ") + request r
tree_of (entry.Kill t) = leaf (codes "kill ") + leaf (task_text t)
tree_of (entry.Gone t) = leaf (task_text t) + leaf (codes " ended")
tree_of (entry.Spawn t) = leaf (codes "spawn ") + leaf (task_text t)
tree_of (entry.Outcome o) = leaf (codes "  = ") + outcome o
tree_of e = leaf (codes "  ") + effect e

-- the tree has the text of the entry and the bytes of its words, none of which has a space or a feed
abbrev IsTree : Entry → Type 0
IsTree e = (text_of_entry e ≡ text (tree_of e) ++ codes "\n") × (flat (tree_of e) (codes "\n") ≡ joined (words_of e) (codes "\n")) × (are_clean (pieces_of e) ≡ true)

-- all is computed, once an entry has its kind; a clause with `None` parts the kinds of what it names
tree_is : (e : Entry) → IsTree e
unfolding call_text way_text answerer_text store_text slot_text exchange_text terms_text
tree_is (entry.Gone t) = (sym (append_assoc (task_text t) (codes " ended") (codes "\n")), refl, refl)
tree_is (entry.Head t (ask.Forward n p Plain None)) = (refl, refl, refl)
tree_is (entry.Head t (ask.Forward n p Route None)) = (refl, refl, refl)
tree_is (entry.Outcome got.Done) = (refl, refl, refl)
tree_is (entry.Accepted n l m None) = (refl, refl, refl)
tree_is (entry.Answered n r None) = (refl, refl, refl)
tree_is (entry.Sent t f n None) = (refl, refl, refl)
tree_is (entry.Gets t f n None r) = (refl, refl, refl)
tree_is (entry.Begins t f x Atomic s p) = (refl, refl, refl)
tree_is (entry.Blocks t f why.Phone) = (refl, refl, refl)
tree_is (entry.PhoneIs l phone.Free) = (refl, refl, refl)
tree_is _ = (refl, refl, refl)

pub is_joined : (e : Entry) → IsJoined e
is_joined e = (tree_is e).0 ∙ both (tree_of e) (words_of e) (codes "\n") (tree_is e).1

-- the words of an entry in range have no space and no line feed
pub words_lack : (e : Entry) → IsBuilt e → AllLack 32 (words_of e) × AllLack 10 (words_of e)
words_lack e b = all_lack (pieces_of e) (tree_is e).2 b
