-- The text of an entry of each kind, and of each code.
use Rattle.std.proofs.Common.{◌≡◌, ℕ, [], ◌∷◌, Some, None, codes, refl}
use Rattle.std.specs.Fmt.{digits}
use Rattle.ipc_ids.specs.declared.numbers.TaskNo.{TaskNo}
use Rattle.ipc_ids.specs.declared.numbers.CallNo.{CallNo}
use Rattle.ipc_ids.specs.declared.numbers.StoreNo.{StoreNo}
use Rattle.ipc_ids.specs.declared.numbers.FibrilNo.{FibrilNo}
use Rattle.ipc_ids.specs.declared.numbers.ExchangeNo.{ExchangeNo}
use Rattle.ipc_ids.specs.declared.numbers.Label.{Label}
use Rattle.ipc_ids.specs.declared.numbers.Code.{Code}
use Rattle.ipc_ids.specs.declared.message.Msg.{Msg}
use Rattle.ipc_ids.specs.declared.message.Reply.{Reply}
use Rattle.ipc_ids.specs.declared.message.Mode.TheVariants.{Plain, Route}
use Rattle.ipc_ids.specs.declared.message.ExchangeMode.TheVariants.{Atomic, Serialize, Parallel}
use Rattle.ipc_ids.specs.declared.message.Why.TheVariants as why
use Rattle.ipc_ids.specs.declared.message.PhoneState.TheVariants.{Free, Connecting, Connected, HungUp, Slammed}
use Rattle.ipc_ids.specs.declared.message.Request.TheVariants as ask
use Rattle.ipc_ids.specs.declared.message.Outcome.TheVariants as got
use Rattle.ipc_ids.specs.declared.entry.Entry.TheVariants as entry
use Rattle.trace_print.specs.Text.{text_of_entry, code_text, call_text, way_text, answerer_text, store_text, fibril_text, slot_text, exchange_text, terms_text}

abbrev task : ℕ → TaskNo
task n = record { 0 = n }

abbrev call : ℕ → CallNo
call n = record { 0 = n }

abbrev store : ℕ → StoreNo
store n = record { 0 = n }

abbrev fibril : ℕ → FibrilNo
fibril n = record { 0 = n }

abbrev exchange : ℕ → ExchangeNo
exchange n = record { 0 = n }

abbrev code : ℕ → Code
code n = record { 0 = n }

abbrev phone : ℕ → ℕ → Label
phone t p = record { task = task t; phone = record { 0 = p } }

abbrev msg : (method a b c d e : ℕ) → Msg
msg method a b c d e = record { method = method; args = a ∷ b ∷ c ∷ d ∷ e ∷ [] }

abbrev reply : Code → (a b c d e : ℕ) → Reply
reply code a b c d e = record { code = code; args = a ∷ b ∷ c ∷ d ∷ e ∷ [] }

code_0 : code_text (code 0) ≡ codes "EOK"
code_0 = refl

code_1 : code_text (code 1) ≡ codes "ENOENT"
code_1 = refl

code_2 : code_text (code 2) ≡ codes "EPERM"
code_2 = refl

code_3 : code_text (code 3) ≡ codes "EEXIST"
code_3 = refl

code_4 : code_text (code 4) ≡ codes "EINVAL"
code_4 = refl

code_5 : code_text (code 5) ≡ codes "ELIMIT"
code_5 = refl

code_6 : code_text (code 6) ≡ codes "EHANGUP"
code_6 = refl

code_7 : code_text (code 7) ≡ codes "EFORWARD"
code_7 = refl

code_8 : code_text (code 8) ≡ codes "EBUSY"
code_8 = refl

code_9 : code_text (code 9) ≡ codes "ENOMEM"
code_9 = refl

code_10 : code_text (code 10) ≡ codes "10"
unfolding digits
code_10 = refl

head_call : text_of_entry (entry.Head (task 2) (ask.Call 3 (msg 512 7 0 0 0 9))) ≡ codes "t2 call 3 512 7 0 0 0 9\n"
unfolding digits call_text way_text answerer_text store_text fibril_text slot_text exchange_text terms_text
head_call = refl

head_receive : text_of_entry (entry.Head (task 2) ask.Receive) ≡ codes "t2 receive\n"
unfolding digits call_text way_text answerer_text store_text fibril_text slot_text exchange_text terms_text
head_receive = refl

head_answer : text_of_entry (entry.Head (task 2) (ask.Answer 4 (reply (code 1) 1 2 3 4 5))) ≡ codes "t2 answer 4 ENOENT 1 2 3 4 5\n"
unfolding digits call_text way_text answerer_text store_text fibril_text slot_text exchange_text terms_text
head_answer = refl

head_answer_by_number : text_of_entry (entry.Head (task 2) (ask.Answer 4 (reply (code 10) 1 2 3 4 5))) ≡ codes "t2 answer 4 10 1 2 3 4 5\n"
unfolding digits call_text way_text answerer_text store_text fibril_text slot_text exchange_text terms_text
head_answer_by_number = refl

head_forward : text_of_entry (entry.Head (task 2) (ask.Forward 4 3 Plain None)) ≡ codes "t2 forward 4 3 plain\n"
unfolding digits call_text way_text answerer_text store_text fibril_text slot_text exchange_text terms_text
head_forward = refl

head_forward_with : text_of_entry (entry.Head (task 2) (ask.Forward 4 3 Route (Some (msg 600 1 2 3 4 5)))) ≡ codes "t2 forward 4 3 route 600 1 2 3 4 5\n"
unfolding digits call_text way_text answerer_text store_text fibril_text slot_text exchange_text terms_text
head_forward_with = refl

head_hangup : text_of_entry (entry.Head (task 2) (ask.Hangup 3)) ≡ codes "t2 hangup 3\n"
unfolding digits call_text way_text answerer_text store_text fibril_text slot_text exchange_text terms_text
head_hangup = refl

head_area : text_of_entry (entry.Head (task 2) (ask.AreaMake 4096 2 3)) ≡ codes "t2 area 4096 2 3\n"
unfolding digits call_text way_text answerer_text store_text fibril_text slot_text exchange_text terms_text
head_area = refl

head_unarea : text_of_entry (entry.Head (task 2) (ask.AreaDrop 4096)) ≡ codes "t2 unarea 4096\n"
unfolding digits call_text way_text answerer_text store_text fibril_text slot_text exchange_text terms_text
head_unarea = refl

head_poke : text_of_entry (entry.Head (task 2) (ask.Poke 4096 (10 ∷ 255 ∷ []))) ≡ codes "t2 poke 4096 0aff\n"
unfolding digits call_text way_text answerer_text store_text fibril_text slot_text exchange_text terms_text
head_poke = refl

head_peek : text_of_entry (entry.Head (task 2) (ask.Peek 4096 2)) ≡ codes "t2 peek 4096 2\n"
unfolding digits call_text way_text answerer_text store_text fibril_text slot_text exchange_text terms_text
head_peek = refl

head_nothing : text_of_entry (entry.Head (task 2) ask.Nothing) ≡ codes "t2 nothing\n"
unfolding digits call_text way_text answerer_text store_text fibril_text slot_text exchange_text terms_text
head_nothing = refl

kill_line : text_of_entry (entry.Kill (task 2)) ≡ codes "kill t2\n"
unfolding digits call_text way_text answerer_text store_text fibril_text slot_text exchange_text terms_text
kill_line = refl

gone_line : text_of_entry (entry.Gone (task 2)) ≡ codes "t2 ended\n"
unfolding digits call_text way_text answerer_text store_text fibril_text slot_text exchange_text terms_text
gone_line = refl

spawn_line : text_of_entry (entry.Spawn (task 2)) ≡ codes "spawn t2\n"
unfolding digits call_text way_text answerer_text store_text fibril_text slot_text exchange_text terms_text
spawn_line = refl

accepted_line : text_of_entry (entry.Accepted (call 5) (phone 2 3) 512 (Some (task 64))) ≡ codes "  call 5 accepted t2.3 method 512 to t64\n"
unfolding digits call_text way_text answerer_text store_text fibril_text slot_text exchange_text terms_text
accepted_line = refl

accepted_back : text_of_entry (entry.Accepted (call 5) (phone 2 3) 512 None) ≡ codes "  call 5 accepted t2.3 method 512 back\n"
unfolding digits call_text way_text answerer_text store_text fibril_text slot_text exchange_text terms_text
accepted_back = refl

received_line : text_of_entry (entry.Received (call 5) (task 2)) ≡ codes "  call 5 received t2\n"
unfolding digits call_text way_text answerer_text store_text fibril_text slot_text exchange_text terms_text
received_line = refl

forwarded_line : text_of_entry (entry.Forwarded (call 5) (task 2) (task 3) (phone 1 63)) ≡ codes "  call 5 forwarded t2 to t3 label t1.63\n"
unfolding digits call_text way_text answerer_text store_text fibril_text slot_text exchange_text terms_text
forwarded_line = refl

answered_line : text_of_entry (entry.Answered (call 5) (reply (code 6) 1 2 3 4 5) (Some (task 2))) ≡ codes "  call 5 answered EHANGUP 1 2 3 4 5 by t2\n"
unfolding digits call_text way_text answerer_text store_text fibril_text slot_text exchange_text terms_text
answered_line = refl

answered_by_kernel : text_of_entry (entry.Answered (call 5) (reply (code 7) 0 0 0 0 0) None) ≡ codes "  call 5 answered EFORWARD 0 0 0 0 0 by kernel\n"
unfolding digits call_text way_text answerer_text store_text fibril_text slot_text exchange_text terms_text
answered_by_kernel = refl

vanished_line : text_of_entry (entry.Vanished (call 5)) ≡ codes "  call 5 vanished\n"
unfolding digits call_text way_text answerer_text store_text fibril_text slot_text exchange_text terms_text
vanished_line = refl

delivered_line : text_of_entry (entry.Delivered (call 5) (task 2)) ≡ codes "  call 5 delivered t2\n"
unfolding digits call_text way_text answerer_text store_text fibril_text slot_text exchange_text terms_text
delivered_line = refl

dropped_line : text_of_entry (entry.Dropped (call 5) (task 2)) ≡ codes "  call 5 dropped t2\n"
unfolding digits call_text way_text answerer_text store_text fibril_text slot_text exchange_text terms_text
dropped_line = refl

forgotten_line : text_of_entry (entry.Forgotten (call 5)) ≡ codes "  call 5 forgotten\n"
unfolding digits call_text way_text answerer_text store_text fibril_text slot_text exchange_text terms_text
forgotten_line = refl

phone_free : text_of_entry (entry.PhoneIs (phone 2 3) Free) ≡ codes "  phone t2.3 free\n"
unfolding digits call_text way_text answerer_text store_text fibril_text slot_text exchange_text terms_text
phone_free = refl

phone_connecting : text_of_entry (entry.PhoneIs (phone 2 3) Connecting) ≡ codes "  phone t2.3 connecting\n"
unfolding digits call_text way_text answerer_text store_text fibril_text slot_text exchange_text terms_text
phone_connecting = refl

phone_connected : text_of_entry (entry.PhoneIs (phone 2 3) (Connected (task 1))) ≡ codes "  phone t2.3 connected t1\n"
unfolding digits call_text way_text answerer_text store_text fibril_text slot_text exchange_text terms_text
phone_connected = refl

phone_hungup : text_of_entry (entry.PhoneIs (phone 2 3) HungUp) ≡ codes "  phone t2.3 hungup\n"
unfolding digits call_text way_text answerer_text store_text fibril_text slot_text exchange_text terms_text
phone_hungup = refl

phone_slammed : text_of_entry (entry.PhoneIs (phone 2 3) Slammed) ≡ codes "  phone t2.3 slammed\n"
unfolding digits call_text way_text answerer_text store_text fibril_text slot_text exchange_text terms_text
phone_slammed = refl

area_line : text_of_entry (entry.AreaMade (task 2) 4096 2 3 (store 7)) ≡ codes "  area t2 4096 2 3 store 7\n"
unfolding digits call_text way_text answerer_text store_text fibril_text slot_text exchange_text terms_text
area_line = refl

unarea_line : text_of_entry (entry.AreaGone (task 2) 4096) ≡ codes "  unarea t2 4096\n"
unfolding digits call_text way_text answerer_text store_text fibril_text slot_text exchange_text terms_text
unarea_line = refl

write_line : text_of_entry (entry.Wrote (task 2) 4098 12 (store 7)) ≡ codes "  write t2 4098 12 store 7\n"
unfolding digits call_text way_text answerer_text store_text fibril_text slot_text exchange_text terms_text
write_line = refl

told_done : text_of_entry (entry.Outcome got.Done) ≡ codes "  = EOK\n"
unfolding digits call_text way_text answerer_text store_text fibril_text slot_text exchange_text terms_text
told_done = refl

told_refused : text_of_entry (entry.Outcome (got.Refused (code 5))) ≡ codes "  = ELIMIT\n"
unfolding digits call_text way_text answerer_text store_text fibril_text slot_text exchange_text terms_text
told_refused = refl

told_call : text_of_entry (entry.Outcome (got.Accepted (call 5))) ≡ codes "  = call 5\n"
unfolding digits call_text way_text answerer_text store_text fibril_text slot_text exchange_text terms_text
told_call = refl

told_received : text_of_entry (entry.Outcome (got.Received (call 5) (msg 512 1 2 3 4 5) (phone 2 3))) ≡ codes "  = received 5 512 1 2 3 4 5 from t2.3\n"
unfolding digits call_text way_text answerer_text store_text fibril_text slot_text exchange_text terms_text
told_received = refl

told_answer : text_of_entry (entry.Outcome (got.Answered (call 5) (reply (code 2) 1 2 3 4 5))) ≡ codes "  = answer 5 EPERM 1 2 3 4 5\n"
unfolding digits call_text way_text answerer_text store_text fibril_text slot_text exchange_text terms_text
told_answer = refl

told_empty : text_of_entry (entry.Outcome got.Empty) ≡ codes "  = EMPTY\n"
unfolding digits call_text way_text answerer_text store_text fibril_text slot_text exchange_text terms_text
told_empty = refl

told_bytes : text_of_entry (entry.Outcome (got.Bytes (10 ∷ 255 ∷ []))) ≡ codes "  = bytes 0aff\n"
unfolding digits call_text way_text answerer_text store_text fibril_text slot_text exchange_text terms_text
told_bytes = refl

told_no_bytes : text_of_entry (entry.Outcome (got.Bytes [])) ≡ codes "  = bytes -\n"
unfolding digits call_text way_text answerer_text store_text fibril_text slot_text exchange_text terms_text
told_no_bytes = refl

sent_slot : text_of_entry (entry.Sent (task 2) (fibril 1) (call 5) (Some 7)) ≡ codes "  t2/1 sent 5 slot 7\n"
unfolding digits call_text way_text answerer_text store_text fibril_text slot_text exchange_text terms_text
sent_slot = refl

sent_begin : text_of_entry (entry.Sent (task 2) (fibril 1) (call 5) None) ≡ codes "  t2/1 sent 5 begin\n"
unfolding digits call_text way_text answerer_text store_text fibril_text slot_text exchange_text terms_text
sent_begin = refl

gets_slot : text_of_entry (entry.Gets (task 2) (fibril 1) (call 5) (Some 7) (reply (code 0) 1 2 3 4 5)) ≡ codes "  t2/1 gets 5 slot 7 EOK 1 2 3 4 5\n"
unfolding digits call_text way_text answerer_text store_text fibril_text slot_text exchange_text terms_text
gets_slot = refl

gets_begin : text_of_entry (entry.Gets (task 2) (fibril 1) (call 5) None (reply (code 8) 1 2 3 4 5)) ≡ codes "  t2/1 gets 5 begin EBUSY 1 2 3 4 5\n"
unfolding digits call_text way_text answerer_text store_text fibril_text slot_text exchange_text terms_text
gets_begin = refl

blocks_answer : text_of_entry (entry.Blocks (task 2) (fibril 1) (why.Answer (call 5))) ≡ codes "  t2/1 blocks answer 5\n"
unfolding digits call_text way_text answerer_text store_text fibril_text slot_text exchange_text terms_text
blocks_answer = refl

blocks_mutex : text_of_entry (entry.Blocks (task 2) (fibril 1) (why.Mutex 15)) ≡ codes "  t2/1 blocks mutex 15\n"
unfolding digits call_text way_text answerer_text store_text fibril_text slot_text exchange_text terms_text
blocks_mutex = refl

blocks_phone : text_of_entry (entry.Blocks (task 2) (fibril 1) why.Phone) ≡ codes "  t2/1 blocks phone\n"
unfolding digits call_text way_text answerer_text store_text fibril_text slot_text exchange_text terms_text
blocks_phone = refl

blocks_message : text_of_entry (entry.Blocks (task 2) (fibril 1) why.Message) ≡ codes "  t2/1 blocks message\n"
unfolding digits call_text way_text answerer_text store_text fibril_text slot_text exchange_text terms_text
blocks_message = refl

starts_line : text_of_entry (entry.Starts (task 2) (fibril 1) (phone 3 4)) ≡ codes "  t2/1 starts t3.4\n"
unfolding digits call_text way_text answerer_text store_text fibril_text slot_text exchange_text terms_text
starts_line = refl

ends_line : text_of_entry (entry.Ends (task 2) (fibril 1)) ≡ codes "  t2/1 ends\n"
unfolding digits call_text way_text answerer_text store_text fibril_text slot_text exchange_text terms_text
ends_line = refl

begins_atomic : text_of_entry (entry.Begins (task 2) (fibril 1) (exchange 9) Atomic 15 3) ≡ codes "  t2/1 begins exchange 9 atomic session 15 phone 3\n"
unfolding digits call_text way_text answerer_text store_text fibril_text slot_text exchange_text terms_text
begins_atomic = refl

begins_serialize : text_of_entry (entry.Begins (task 2) (fibril 1) (exchange 9) Serialize 15 3) ≡ codes "  t2/1 begins exchange 9 serialize session 15 phone 3\n"
unfolding digits call_text way_text answerer_text store_text fibril_text slot_text exchange_text terms_text
begins_serialize = refl

begins_parallel : text_of_entry (entry.Begins (task 2) (fibril 1) (exchange 9) Parallel 15 3) ≡ codes "  t2/1 begins exchange 9 parallel session 15 phone 3\n"
unfolding digits call_text way_text answerer_text store_text fibril_text slot_text exchange_text terms_text
begins_parallel = refl

exchange_ends : text_of_entry (entry.ExchangeEnds (task 2) (fibril 1) (exchange 9)) ≡ codes "  t2/1 ends exchange 9\n"
unfolding digits call_text way_text answerer_text store_text fibril_text slot_text exchange_text terms_text
exchange_ends = refl

exchange_drops : text_of_entry (entry.Drops (task 2) (fibril 1) (exchange 9)) ≡ codes "  t2/1 drops exchange 9\n"
unfolding digits call_text way_text answerer_text store_text fibril_text slot_text exchange_text terms_text
exchange_drops = refl

refused_line : text_of_entry (entry.RefusedOp (task 2) (fibril 1) (code 3)) ≡ codes "  t2/1 refused EEXIST\n"
unfolding digits call_text way_text answerer_text store_text fibril_text slot_text exchange_text terms_text
refused_line = refl
