-- The law of causes at work on short lists: one that keeps it, and the lists of wrong machines, each of which breaks
-- it. Phone 0 of the client leads to the server.
use Rattle.std.proofs.Common.{ℕ, zero, suc, ◌≡◌, ◌<◌, arith, ◌++◌, Option, None, Some, List, [], ◌∷◌, refl, ap, sym, ◌∙◌, inl, inr}
use Rattle.std.specs.Prelude.{slice_index}
use Rattle.ipc_ids.specs.declared.numbers.TaskNo.{TaskNo}
use Rattle.ipc_ids.specs.declared.numbers.CallNo.{CallNo}
use Rattle.ipc_ids.specs.declared.numbers.Code.{Code}
use Rattle.ipc_ids.specs.declared.numbers.Label.{Label}
use Rattle.ipc_ids.specs.declared.message.Msg.{Msg}
use Rattle.ipc_ids.specs.declared.message.Mode.TheVariants.{Plain}
use Rattle.ipc_ids.specs.declared.message.Reply.{Reply}
use Rattle.ipc_ids.specs.declared.message.PhoneState.TheVariants.{Free, Connecting, Connected, HungUp, Slammed}
use Rattle.ipc_ids.specs.declared.message.Request.TheVariants as request
use Rattle.ipc_ids.specs.declared.message.Outcome.TheVariants as outcome
use Rattle.ipc_ids.specs.declared.entry.Entry.{Entry}
use Rattle.ipc_ids.specs.declared.entry.Entry.TheVariants as entry
use Rattle.ipc_ids.specs.Codes.{eok, enoent, eperm, ehangup, elimit}
use Rattle.ipc_ids.specs.Methods.{connect_me_to, data_write, data_read, share_out, first_user_method}
use Rattle.ipc_ids.specs.Life.{Incoming, Dispatched}
use Rattle.ipc_ids.specs.Holdings.{Making, on_top}
use Rattle.call_slab.specs.declared.call.Call.{Call}
use Rattle.call_slab.specs.declared.call.Place.TheVariants as place
use Rattle.answerbox.specs.Calls.{CallTable, call_at}
use Rattle.route_laws.specs.Leads.{Beginning, phone_in}
use Rattle.route_laws.proofs.PhoneExamples.{apart}
use Rattle.run_determined.specs.PhoneCauses.{AllHaveCause, PhonesChangeForCause, ChangesForCause, IsHungUpAtOnce, IsDoneAsTold, GoesItsWay, GoesBackWithCode, TellsItsCall, DropsUnawaited, HasItsCause, IsConnectedFor}
use Rattle.run_determined.specs.ToldPhones.{TellKeptPhones}
use Rattle.run_determined.proofs.CauseSteps.{caused}
use Rattle.std.proofs.lemmas.Option.{none-some}

abbrev client : TaskNo
client = record { 0 = 1 }

abbrev server : TaskNo
server = record { 0 = 2 }

abbrev other : TaskNo
other = record { 0 = 3 }

abbrev call_no : ℕ → CallNo
call_no n = record { 0 = n }

abbrev phone : TaskNo → ℕ → Label
phone t p = record { task = t; phone = record { 0 = p } }

abbrev began : Beginning
began = record { wires = record { phone = phone client 0; to = server } ∷ []; names = None }

abbrev msg : ℕ → Msg
msg method = record { method = method; args = 0 ∷ 0 ∷ 0 ∷ 0 ∷ 0 ∷ [] }

abbrev with_code : Code → Reply
with_code code = record { code = code; args = 0 ∷ 0 ∷ 0 ∷ 0 ∷ 0 ∷ [] }

-- the client asks for a connection by call n, and keeps this phone for it
abbrev asks : ℕ → ℕ → List Entry
asks n p =
    entry.Head client (request.Call 0 (msg connect_me_to))
    ∷ entry.Accepted (call_no n) (phone client 0) connect_me_to (Some server)
    ∷ entry.PhoneIs (phone client p) Connecting
    ∷ entry.Outcome (outcome.Accepted (call_no n))
    ∷ []

-- the server receives call n
abbrev receives : ℕ → List Entry
receives n =
    entry.Head server request.Receive
    ∷ entry.Received (call_no n) server
    ∷ entry.Outcome (outcome.Received (call_no n) (msg connect_me_to) (phone client 0))
    ∷ []

-- the server accepts call n, and this phone of the client leads to the server
abbrev connects : ℕ → ℕ → List Entry
connects n p =
    entry.Head server (request.Answer n (with_code eok))
    ∷ entry.Answered (call_no n) (with_code eok) (Some server)
    ∷ entry.PhoneIs (phone client p) (Connected server)
    ∷ entry.Outcome outcome.Done
    ∷ []

-- the client hangs up phone 1
abbrev hangs_up : ℕ → List Entry
hangs_up n =
    entry.Head client (request.Hangup 1)
    ∷ entry.Accepted (call_no n) (phone client 1) 0 (Some server)
    ∷ entry.PhoneIs (phone client 1) HungUp
    ∷ entry.Outcome outcome.Done
    ∷ []

-- the server is killed
abbrev ends : List Entry
ends = entry.Kill server ∷ entry.PhoneIs (phone client 0) Slammed ∷ []

-- the client calls over its slammed phone, and the call goes back
abbrev goes_back : ℕ → Code → List Entry
goes_back n code =
    entry.Head client (request.Call 0 (msg first_user_method))
    ∷ entry.Accepted (call_no n) (phone client 0) first_user_method None
    ∷ entry.Answered (call_no n) (with_code code) None
    ∷ entry.Outcome (outcome.Accepted (call_no n))
    ∷ []

-- parts of what is told

abbrev method_in : Option Making → ℕ
method_in None = 0
method_in (Some made) = made.method

abbrev phone_in_label : Option Label → ℕ
phone_in_label None = 0
phone_in_label (Some l) = l.phone.0

abbrev method_of : Option Entry → ℕ
method_of (Some (entry.Head t (request.Call p m))) = m.method
method_of _ = 0

abbrev how_made : Making
how_made =
    record {
      caller = 1;
      method = connect_me_to;
      asked = Some (entry.Head client (request.Call 0 (msg connect_me_to)));
    }

-- the events of a whole run, and that each change in them has its cause

abbrev after_asking : List Entry
after_asking = on_top (asks 1 1) []

abbrev after_receipt : List Entry
after_receipt = on_top (receives 1) after_asking

abbrev after_connection : List Entry
after_connection = on_top (connects 1 1) after_receipt

abbrev after_hangup : List Entry
after_hangup = on_top (hangs_up 2) after_connection

abbrev after_end : List Entry
after_end = on_top ends after_hangup

-- of the client's phones below 1 none is free: phone 0 leads
none_free_below : (p : ℕ) → p < 1
    → phone_in began.wires 1 p
    (entry.Accepted (call_no 1) (phone client 0) connect_me_to (Some server)
    ∷ entry.Head client (request.Call 0 (msg connect_me_to)) ∷ []) ≡ Free → ⊥
none_free_below zero few free = cc free
none_free_below (suc p) few free = absurd (omega (arith, few))

-- the first entry has its cause, by each of the laws in turn, and so have the others
because : {q : List Entry} {e : Entry} {B : Type 0} → ChangesForCause began q e → IsHungUpAtOnce q e
    → IsDoneAsTold q e → GoesItsWay began q e → GoesBackWithCode began q e → TellsItsCall q e → DropsUnawaited q e
    → B → HasItsCause began q e × B
because {q} {e} changes hung_up done way code told dropped others =
    (caused began q e changes hung_up done way code told dropped, others)

asked : AllHaveCause began [] (asks 1 1)
asked =
    because tt tt tt tt tt tt tt
    (because tt tt tt refl tt tt tt
    (because ((refl, refl), none_free_below) (λ e. absurd (apart 2 0 e refl)) tt tt tt tt tt
    (because tt tt tt tt tt (refl, refl, λ e. apart 2 0 e refl) tt tt)))

received : AllHaveCause began after_asking (receives 1)
received = because tt tt tt tt tt tt tt (because tt tt tt tt tt tt tt (because tt tt tt tt tt tt tt tt))

connected : AllHaveCause began after_receipt (connects 1 1)
connected =
    because tt tt tt tt tt tt tt
    (because tt tt tt tt tt tt tt
    (because ((refl, refl, refl, refl, call), tt) tt tt tt tt tt tt
    (because tt tt tt tt tt tt tt tt))) where
      call : IsConnectedFor (phone client 1) server server 1 after_receipt
      call = record { made = how_made; how = refl; held = refl; phone = inl (refl, refl, refl) }

hung_up : AllHaveCause began after_connection (hangs_up 2)
hung_up =
    because tt tt tt tt tt tt tt
    (because tt tt tt refl tt tt tt
    (because ((refl, refl, refl, (refl, refl)), tt) (λ e. refl) tt tt tt tt tt
    (because tt tt refl tt tt tt tt tt)))

ended : AllHaveCause began after_hangup (ends)
ended = because tt tt tt tt tt tt tt (because (refl, tt) tt tt tt tt tt tt tt)

gone_back : AllHaveCause began after_end (goes_back 3 enoent)
gone_back =
    because tt tt tt tt tt tt tt
    (because tt tt tt tt tt tt tt
    (because tt (λ e. absurd (apart 512 0 e refl)) tt tt refl tt tt
    (because tt tt tt tt tt (refl, refl, λ e. apart 512 0 e refl) tt tt)))

joined : (es fs q : List Entry) → AllHaveCause began q es → AllHaveCause began (on_top es q) fs
    → AllHaveCause began q (es ++ fs)
joined [] fs q first later = later
joined (e ∷ es) fs q first later = (first.0, joined es fs (e ∷ q) first.1 later)

-- what comes behind each event

abbrev from_end : List Entry
from_end = ends ++ goes_back 3 enoent

abbrev from_hangup : List Entry
from_hangup = hangs_up 2 ++ from_end

abbrev from_connection : List Entry
from_connection = connects 1 1 ++ from_hangup

abbrev from_receipt : List Entry
from_receipt = receives 1 ++ from_connection

whole_keeps_the_law : PhonesChangeForCause began (asks 1 1 ++ from_receipt)
whole_keeps_the_law =
    joined (asks 1 1) from_receipt [] asked
    (joined (receives 1) from_connection after_asking received
    (joined (connects 1 1) from_hangup after_receipt connected
    (joined (hangs_up 2) from_end after_connection hung_up
    (joined ends (goes_back 3 enoent) after_hangup ended gone_back))))

-- ---- lists of wrong machines

-- a phone is connected by the answer to a call that the task has not received
connected_before_it_is_received : PhonesChangeForCause began (asks 1 1 ++ connects 1 1) → ⊥
connected_before_it_is_received l =
    never 1 2 l.1.1.1.1.1.1.0.changes.0.4.made.caller l.1.1.1.1.1.1.0.changes.0.4.held where
      never : (a b c : ℕ) → Incoming a b ≡ Dispatched c b → ⊥
      never a b c e = cc

-- of two calls that are held the first is answered, and the phone of the other is connected
connected_for_another_call : PhonesChangeForCause began
    (asks 1 1 ++ (asks 2 2 ++ (receives 1 ++ (receives 2 ++ connects 1 2)))) → ⊥
connected_for_another_call l =
    let c = l.1.1.1.1.1.1.1.1.1.1.1.1.1.1.1.1.0.changes.0.4 in
    elim c.phone [
      | inl h ↦ apart 1 2 (ap phone_in_label h.1) refl
      | inr h ↦ apart 2 1 (ap method_in c.how ∙ h.0) refl
    ]

-- it is connected in an answer to another call than the one that the head names
answered_another_call : PhonesChangeForCause began
    (asks 1 1 ++ (receives 1 ++
    (entry.Head server (request.Answer 2 (with_code eok)) ∷ entry.Answered (call_no 1) (with_code eok)
    (Some server) ∷ entry.PhoneIs (phone client 1) (Connected server) ∷ []))) → ⊥
answered_another_call l = apart 2 1 l.1.1.1.1.1.1.1.1.1.0.changes.0.1 refl

-- it is connected though the answer declines
connected_though_declined : PhonesChangeForCause began
    (asks 1 1 ++ (receives 1 ++
    (entry.Head server (request.Answer 1 (with_code elimit)) ∷ entry.Answered (call_no 1) (with_code elimit)
    (Some server) ∷ entry.PhoneIs (phone client 1) (Connected server) ∷ []))) → ⊥
connected_though_declined l = apart 5 0 (ap (λ (code : Code). code.0) l.1.1.1.1.1.1.1.1.1.0.changes.0.2) refl

-- a hangup without the entry of its phone
hung_up_without_its_entry : PhonesChangeForCause began
    (entry.Head client (request.Hangup 0) ∷ entry.Accepted (call_no 1) (phone client 0) 0
    (Some server) ∷ entry.Outcome outcome.Done ∷ []) → ⊥
hung_up_without_its_entry l =
    let e : entry.Outcome outcome.Done ≡ entry.PhoneIs (phone client 0) HungUp = l.1.1.0.hung_up refl in cc

-- the hangup names one phone, and another is hung up
hung_up_another_phone : PhonesChangeForCause began
    (entry.Head client (request.Hangup 1) ∷ entry.Accepted (call_no 1) (phone client 0) 0
    (Some server) ∷ entry.PhoneIs (phone client 0) HungUp ∷ []) → ⊥
hung_up_another_phone l = apart 1 0 l.1.1.0.changes.0.3.1 refl

-- a call over a phone that leads is accepted, and goes back
goes_back_though_it_leads : PhonesChangeForCause began (goes_back 1 ehangup) → ⊥
goes_back_though_it_leads l = elim l.1.0.way [
  | inl h ↦ apart 512 2 h refl
  | inr (inl h) ↦ apart 512 3 h refl
  | inr (inr (inl h)) ↦ apart 512 4 h refl
  | inr (inr (inr (inl h))) ↦ apart 512 5 h refl
  | inr (inr (inr (inr h))) ↦ apart 512 6 h refl
]

-- it goes back with the code of another state: the phone was slammed
goes_back_with_another_code : PhonesChangeForCause began (ends ++ goes_back 1 ehangup) → ⊥
goes_back_with_another_code l = apart 6 1 (ap (λ (code : Code). code.0) l.1.1.1.1.0.code) refl

-- phones that lead nowhere change without cause: a kill of another task hangs up a free phone, and frees a slammed one
free_phone_hung_up : PhonesChangeForCause began (entry.Kill other ∷ entry.PhoneIs (phone client 1) HungUp ∷ []) → ⊥
free_phone_hung_up l = l.1.0.changes.0

slammed_phone_freed : PhonesChangeForCause began
    (ends ++ (entry.Kill other ∷ entry.PhoneIs (phone client 0) Free ∷ [])) → ⊥
slammed_phone_freed l = l.1.1.1.0.changes.0

-- a receive of a call with a user's method keeps a phone
kept_for_a_plain_call : PhonesChangeForCause began
    (entry.Head client (request.Call 0 (msg first_user_method)) ∷ entry.Accepted (call_no 1)
    (phone client 0) first_user_method (Some server)
    ∷ entry.Head server request.Receive ∷ entry.Received (call_no 1) server ∷ entry.PhoneIs
    (phone server 0) Connecting ∷ []) → ⊥
kept_for_a_plain_call l = apart 512 1 l.1.1.1.1.0.changes.0.1 refl

-- a phone that waits is let go while its call waits on
let_go_while_it_waits : PhonesChangeForCause began
    (asks 1 1 ++
    (receives 1 ++
    (entry.Head other request.Receive ∷ entry.Delivered (call_no 2) other ∷ entry.PhoneIs (phone client 1) Free ∷
    []))) → ⊥
let_go_while_it_waits l = none-some (phone client 1) l.1.1.1.1.1.1.1.1.1.0.changes.0

-- a receive drops the answer of a call that was no hangup
dropped_though_awaited : PhonesChangeForCause began
    (asks 1 1 ++
    (receives 1 ++
    (connects 1 1 ++ (entry.Head client request.Receive ∷ entry.Dropped (call_no 1) client ∷ [])))) → ⊥
dropped_though_awaited l = elim l.1.1.1.1.1.1.1.1.1.1.1.1.0.dropped [
  | inl h ↦ apart 2 0 h refl
  | inr h ↦ never h
] where
  never : ◌≡◌ {A = Option Entry} (Some (entry.Head client request.Receive)) (Some (entry.Kill client)) → ⊥
  never e = cc

-- a task is told of a call as accepted that another event made
told_of_an_older_call : PhonesChangeForCause began
    (asks 1 1 ++
    (entry.Head client (request.Call 0 (msg first_user_method)) ∷ entry.Outcome (outcome.Accepted (call_no 1)) ∷ []))
    → ⊥
told_of_an_older_call l = never l.1.1.1.1.1.0.told.0 where
  never : ◌≡◌ {A = Option Entry} (Some (entry.Head client (request.Call 0 (msg connect_me_to))))
      (Some (entry.Head client (request.Call 0 (msg first_user_method)))) → ⊥
  never e = apart 2 512 (ap method_of e) refl

-- ---- phones: which is kept, to whom it leads, and when it is let go or slammed

-- a phone is kept though one with a lower number is free
kept_above_a_free_one : PhonesChangeForCause began (asks 1 2) → ⊥
kept_above_a_free_one l = l.1.1.0.changes.1 1 (omega arith) refl

-- the caller's phone is connected to the caller
connected_to_its_caller : PhonesChangeForCause began
    (asks 1 1 ++ (receives 1 ++
    (entry.Head server (request.Answer 1 (with_code eok)) ∷ entry.Answered (call_no 1) (with_code eok)
    (Some server) ∷ entry.PhoneIs (phone client 1) (Connected client) ∷ []))) → ⊥
connected_to_its_caller l =
    let c = l.1.1.1.1.1.1.1.1.1.0.changes.0.4 in
    elim c.phone [
      | inl h ↦ apart 1 2 (ap (λ (t : TaskNo). t.0) h.2) refl
      | inr h ↦ apart 2 1 (ap method_in c.how ∙ h.0) refl
    ]

-- the message of the call that is held tells no phone
tells_another_phone : (calls : CallTable) (c : Call) → call_at calls 1 ≡ Some c → c.place ≡ place.Dispatched server
    → c.request.method ≡ connect_me_to → slice_index c.msg.args 4 ≡ 0 → TellKeptPhones after_receipt calls → ⊥
tells_another_phone calls c is at asks none law =
    apart 65 0 (sym (law 1 c server (phone client 1) is at asks refl) ∙ none) refl

-- a phone that leads to a task is freed
leading_phone_freed : PhonesChangeForCause began (entry.Kill other ∷ entry.PhoneIs (phone client 0) Free ∷ []) → ⊥
leading_phone_freed l = l.1.0.changes.0

-- it is slammed in the kill of another task than the one to which it leads
slammed_for_another : PhonesChangeForCause began (entry.Kill other ∷ entry.PhoneIs (phone client 0) Slammed ∷ []) → ⊥
slammed_for_another l = apart 3 2 (ap (λ (t : TaskNo). t.0) l.1.0.changes.0) refl

-- the phone that the caller keeps is let go as the call is passed on
let_go_as_it_is_passed_on : PhonesChangeForCause began
    (asks 1 1 ++
    (receives 1 ++
    (entry.Head server (request.Forward 1 0 Plain None) ∷ entry.Forwarded (call_no 1) server other (phone client 0)
    ∷ entry.PhoneIs (phone client 1) Free ∷ []))) → ⊥
let_go_as_it_is_passed_on l = none-some (phone client 1) l.1.1.1.1.1.1.1.1.1.0.changes.0

-- phone 0 of a task that is made leads somewhere, though there is no naming service
leads_without_a_service : PhonesChangeForCause began
    (entry.Spawn other ∷ entry.PhoneIs (phone other 0) (Connected client) ∷ []) → ⊥
leads_without_a_service l = none-some client l.1.0.changes.0.2

-- a hangup of a slammed phone is told as done, and the phone stays as it is
slammed_phone_not_hung_up : PhonesChangeForCause began
    (ends ++ (entry.Head client (request.Hangup 0) ∷ entry.Outcome outcome.Done ∷ [])) → ⊥
slammed_phone_not_hung_up l =
    let e : entry.Head client (request.Hangup 0) ≡ entry.PhoneIs (phone client 0) HungUp = l.1.1.1.0.done in cc

-- ---- calls: where they go, and with which code they go back

-- a call goes to another task than the one to which its phone leads
goes_to_another_task : PhonesChangeForCause began
    (entry.Head client (request.Call 0 (msg first_user_method)) ∷ entry.Accepted (call_no 1) (phone client 0)
    first_user_method (Some other) ∷ []) → ⊥
goes_to_another_task l = apart 3 2 (ap (λ (t : TaskNo). t.0) l.1.0.way) refl

-- a call over a free phone is accepted
goes_over_a_free_phone : PhonesChangeForCause began
    (entry.Head client (request.Call 1 (msg first_user_method)) ∷ entry.Accepted (call_no 1) (phone client 1)
    first_user_method None ∷ []) → ⊥
goes_over_a_free_phone l = l.1.0.way

-- a call with a method that is tested goes back with this code, over a phone that leads to the server
abbrev fails_with : ℕ → Code → List Entry
fails_with method code =
    entry.Head client (request.Call 0 (msg method))
    ∷ entry.Accepted (call_no 1) (phone client 0) method None
    ∷ entry.Answered (call_no 1) (with_code code) None
    ∷ []

abbrev number_of : Code → ℕ
number_of code = code.0

-- a DATA_READ of too many bytes fails with EPERM
read_fails_with_eperm : PhonesChangeForCause began (fails_with data_read eperm) → ⊥
read_fails_with_eperm l = elim l.1.1.0.code [
  | inl h ↦ apart 4 2 h.0 refl
  | inr (inl h) ↦ apart 4 3 h.0 refl
  | inr (inr (inl h)) ↦ apart 2 5 (ap number_of h.1) refl
  | inr (inr (inr (inl h))) ↦ apart 4 5 h.0 refl
  | inr (inr (inr (inr h))) ↦ apart 4 6 h.0 refl
]

-- a SHARE_OUT of an area that is not there fails with ELIMIT
share_fails_with_elimit : PhonesChangeForCause began (fails_with share_out elimit) → ⊥
share_fails_with_elimit l = elim l.1.1.0.code [
  | inl h ↦ apart 5 2 h.0 refl
  | inr (inl h) ↦ apart 5 3 h.0 refl
  | inr (inr (inl h)) ↦ apart 5 4 h.0 refl
  | inr (inr (inr (inl h))) ↦ elim h.1 [
    | inl e ↦ apart 5 1 (ap number_of e) refl
    | inr e ↦ apart 5 2 (ap number_of e) refl
  ]
  | inr (inr (inr (inr h))) ↦ apart 5 6 h.0 refl
]

-- a DATA_WRITE without room for its bytes fails with ENOENT
write_fails_with_enoent : PhonesChangeForCause began (fails_with data_write enoent) → ⊥
write_fails_with_enoent l = elim l.1.1.0.code [
  | inl h ↦ apart 3 2 h.0 refl
  | inr (inl h) ↦ elim h.1 [
    | inl e ↦ apart 1 5 (ap number_of e) refl
    | inr (inl e) ↦ apart 1 2 (ap number_of e) refl
    | inr (inr e) ↦ apart 1 9 (ap number_of e) refl
  ]
  | inr (inr (inl h)) ↦ apart 3 4 h.0 refl
  | inr (inr (inr (inl h))) ↦ apart 3 5 h.0 refl
  | inr (inr (inr (inr h))) ↦ apart 3 6 h.0 refl
]
