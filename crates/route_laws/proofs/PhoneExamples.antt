-- The law of phones at work on short lists: same_Some that keeps it, and same_Some for each way to break it. Phone 0 of the client
-- leads to the server.
use Rattle.std.proofs.Common.{ℕ, ◌≡◌, Bool, true, false, ◌++◌, Option, None, Some, List, [], ◌∷◌, refl, ap, sym, ◌∙◌, inl, inr}
use Rattle.std.specs.Prelude.{◌==◌, if◌then◌else◌}
use Rattle.std.proofs.lemmas.Bool.{eq-eqb, false≢true}
use Rattle.std.proofs.lemmas.Option.{same_Some}
use Rattle.ipc_ids.specs.declared.numbers.TaskNo.{TaskNo}
use Rattle.ipc_ids.specs.declared.numbers.CallNo.{CallNo}
use Rattle.ipc_ids.specs.declared.numbers.Label.{Label}
use Rattle.ipc_ids.specs.declared.message.Msg.{Msg}
use Rattle.ipc_ids.specs.declared.message.Reply.{Reply}
use Rattle.ipc_ids.specs.declared.message.Mode.{Mode}
use Rattle.ipc_ids.specs.declared.message.Mode.TheVariants.{Plain, Route}
use Rattle.ipc_ids.specs.declared.message.PhoneState.TheVariants.{Free, Connecting, Connected, HungUp, Slammed}
use Rattle.ipc_ids.specs.declared.message.Request.TheVariants as request
use Rattle.ipc_ids.specs.declared.message.Outcome.TheVariants as outcome
use Rattle.ipc_ids.specs.declared.entry.Entry.{Entry}
use Rattle.ipc_ids.specs.declared.entry.Entry.TheVariants as entry
use Rattle.ipc_ids.specs.Codes.{eok}
use Rattle.ipc_ids.specs.Methods.{connect_me_to, first_user_method}
use Rattle.ipc_ids.specs.Holdings.{on_top, newest_first}
use Rattle.route_laws.specs.Leads.{Beginning, is_phone, phone_in, target, leads}
use Rattle.route_laws.specs.PhoneLaw.{AreCutOff, CallsGoWherePhonesLead, WereRouted}
use Rattle.route_laws.proofs.PhoneSteps.{head_routed}
use Rattle.route_laws.proofs.PhoneEvents.{routed_keep_the_law}

abbrev client : TaskNo
client = record { 0 = 1 }

abbrev server : TaskNo
server = record { 0 = 2 }

abbrev other : TaskNo
other = record { 0 = 3 }

abbrev call_no : ℕ → CallNo
call_no n = record { 0 = n }

abbrev phone : TaskNo → ℕ → Label
phone t p = record { task = t; phone = record { 0 = p } }

-- phone 0 of the client leads to the server, phone 0 of the server to the other task, which is the naming service
abbrev began : Beginning
began = record {
  wires = record { phone = phone client 0; to = server } ∷ record { phone = phone server 0; to = other } ∷ [];
  names = Some other;
}

abbrev msg : ℕ → Msg
msg method = record { method = method; args = 0 ∷ 0 ∷ 0 ∷ 0 ∷ 0 ∷ [] }

abbrev accepts : Reply
accepts = record { code = eok; args = 0 ∷ 0 ∷ 0 ∷ 0 ∷ 0 ∷ [] }

-- the client calls over this phone, and the call goes to this task
abbrev calls : (n p : ℕ) → TaskNo → List Entry
calls n p to =
    entry.Head client (request.Call p (msg first_user_method))
    ∷ entry.Accepted (call_no n) (phone client p) first_user_method (Some to)
    ∷ entry.Outcome (outcome.Accepted (call_no n))
    ∷ []

-- the server receives call 1, and is told this label
abbrev receives : Label → List Entry
receives label =
    entry.Head server request.Receive
    ∷ entry.Received (call_no 1) server
    ∷ entry.Outcome (outcome.Received (call_no 1) (msg first_user_method) label)
    ∷ []

-- the server passes on call 1 over its phone 0, to this task and with this label
abbrev passes_on : Mode → TaskNo → Label → List Entry
passes_on mode to label =
    entry.Head server (request.Forward 1 0 mode None)
    ∷ entry.Forwarded (call_no 1) server to label
    ∷ entry.Outcome outcome.Done
    ∷ []

-- the client asks for a connection by call 2, and keeps its phone 1 for it
abbrev asks : List Entry
asks =
    entry.Head client (request.Call 0 (msg connect_me_to))
    ∷ entry.Accepted (call_no 2) (phone client 0) connect_me_to (Some server)
    ∷ entry.PhoneIs (phone client 1) Connecting
    ∷ entry.Outcome (outcome.Accepted (call_no 2))
    ∷ []

-- the server accepts, and a phone of the client leads to this task
abbrev connects : ℕ → TaskNo → List Entry
connects p to =
    entry.Head server (request.Answer 2 accepts)
    ∷ entry.Answered (call_no 2) accepts (Some server)
    ∷ entry.PhoneIs (phone client p) (Connected to)
    ∷ entry.Outcome outcome.Done
    ∷ []

-- the server is killed, and both phones that lead to it are slammed, and its own is hung up
abbrev ends : List Entry
ends =
    entry.Kill server
    ∷ entry.Accepted (call_no 4) (phone server 0) 0 (Some other)
    ∷ entry.PhoneIs (phone server 0) HungUp
    ∷ entry.PhoneIs (phone client 0) Slammed
    ∷ entry.PhoneIs (phone client 1) Slammed
    ∷ []

abbrev whole : List Entry
whole =
    calls 1 0 server
    ++ (receives (phone client 0) ++ (passes_on Route other (phone server 0) ++ (asks ++ (connects 1 server ++ (calls 3 1 server ++ ends)))))

phone_1_leads_there : leads began.wires 1 1 (newest_first (asks ++ connects 1 server)) ≡ Some server
phone_1_leads_there = refl

phone_0_is_slammed : phone_in began.wires 1 0 (newest_first whole) ≡ Slammed
phone_0_is_slammed = refl

-- a phone that is told to lead to same_Some task

abbrev number_of : Option TaskNo → ℕ
number_of None = 0
number_of (Some t) = t.0

abbrev task_in : Option Label → ℕ
task_in None = 0
task_in (Some l) = l.task.0

-- after the end of the server none of the three phones leads anywhere
none_leads : (a c d : Bool) (u : TaskNo) → target (if c then Slammed else (if a then Slammed else (if d then HungUp else (if c then Connected server else (if c then Connecting else (if d then Connected other else (if a then Connected server else Free))))))) ≡ Some u → ⊥
none_leads a true d u led = cc
none_leads true false d u led = cc
none_leads false false true u led = cc
none_leads false false false u led = cc

-- the events of the whole list, the newest entry first, each on top of those before it

abbrev after_call : List Entry
after_call = newest_first (calls 1 0 server)

abbrev after_receive : List Entry
after_receive = on_top (receives (phone client 0)) after_call

abbrev after_forward : List Entry
after_forward = on_top (passes_on Route other (phone server 0)) after_receive

abbrev after_asking : List Entry
after_asking = on_top asks after_forward

abbrev after_connection : List Entry
after_connection = on_top (connects 1 server) after_asking

abbrev before_end : List Entry
before_end = on_top (calls 3 1 server) after_connection

called : (q : List Entry) (n p : ℕ) → AreCutOff began q → leads began.wires 1 p q ≡ Some server → WereRouted began q → WereRouted began (on_top (calls n p server) q)
called q n p cut led were =
    let head = head_routed began q (entry.Head client (request.Call p (msg first_user_method))) tt cut in
    (((were, head), record { goes = led; passed = tt; seen = tt; came = tt; went = tt; cut = tt }), record { goes = tt; passed = tt; seen = tt; came = tt; went = tt; cut = tt })

received : WereRouted began after_call → WereRouted began after_receive
received were =
    let head = head_routed began after_call (entry.Head server request.Receive) tt (λ t p u led. (refl, refl)) in
    (((were, head), record { goes = tt; passed = tt; seen = tt; came = tt; went = tt; cut = tt }), record { goes = tt; passed = tt; seen = refl; came = tt; went = tt; cut = tt })

passed_on : WereRouted began after_receive → WereRouted began after_forward
passed_on were =
    let head = head_routed began after_receive (entry.Head server (request.Forward 1 0 Route None)) tt (λ t p u led. (refl, refl)) in
    (((were, head), record { goes = tt; passed = (refl, refl, refl, refl); seen = tt; came = tt; went = tt; cut = tt }), record { goes = tt; passed = tt; seen = tt; came = tt; went = tt; cut = tt })

asked : WereRouted began after_forward → WereRouted began after_asking
asked were =
    let head = head_routed began after_forward (entry.Head client (request.Call 0 (msg connect_me_to))) tt (λ t p u led. (refl, refl)) in
    ((((were, head), record { goes = refl; passed = tt; seen = tt; came = tt; went = tt; cut = tt }), record { goes = tt; passed = tt; seen = tt; came = tt; went = λ u led. absurd (cc led); cut = tt }), record { goes = tt; passed = tt; seen = tt; came = tt; went = tt; cut = tt })

connected : WereRouted began after_asking → WereRouted began after_connection
connected were =
    let head = head_routed began after_asking (entry.Head server (request.Answer 2 accepts)) tt (λ t p u led. (refl, refl)) in
    ((((were, head), record { goes = tt; passed = tt; seen = tt; came = tt; went = tt; cut = tt }), record { goes = tt; passed = tt; seen = tt; came = (refl, refl, inl (refl, refl, refl)); went = λ u led. absurd (cc led); cut = tt }), record { goes = tt; passed = tt; seen = tt; came = tt; went = tt; cut = tt })

ended : WereRouted began before_end → WereRouted began (on_top ends before_end)
ended were =
    let head = head_routed began before_end (entry.Kill server) tt (λ t p u led. (refl, refl)) in (
      ((((were, head), record { goes = refl; passed = tt; seen = tt; came = tt; went = tt; cut = tt }), record { goes = tt; passed = tt; seen = tt; came = tt; went = λ u led. refl; cut = tt }), record { goes = tt; passed = tt; seen = tt; came = tt; went = λ u led. same_Some server u led; cut = tt }),
      record { goes = tt; passed = tt; seen = tt; came = tt; went = λ u led. same_Some server u led; cut = tt },
    )

whole_keeps_the_law : CallsGoWherePhonesLead began whole
whole_keeps_the_law =
    routed_keep_the_law began whole
    (ended (called after_connection 3 1 (λ t p u led. (refl, refl)) refl (connected (asked (passed_on (received (called [] 1 0 (λ t p u led. (refl, refl)) refl tt)))))))
    (λ t p u led. absurd (none_leads (is_phone t p (phone client 0)) (is_phone t p (phone client 1)) (is_phone t p (phone server 0)) u led))

-- lists that break it

pub apart : (m n : ℕ) → m ≡ n → (m == n) ≡ false → ⊥
apart m n e ne = false≢true (sym ne ∙ eq-eqb m n e)

-- a call goes back to its caller
call_goes_back : CallsGoWherePhonesLead began (calls 1 0 client) → ⊥
call_goes_back l = apart 2 1 (ap number_of l.1.0.goes) refl

-- a call goes over a phone that leads nowhere
call_over_a_free_phone : CallsGoWherePhonesLead began (calls 1 1 server) → ⊥
call_over_a_free_phone l = apart 0 2 (ap number_of l.1.0.goes) refl

-- a call is passed on to its caller; with Route its label is still that of the caller; with Plain it is a new same_Some
passed_back : CallsGoWherePhonesLead began (passes_on Route client (phone server 0)) → ⊥
passed_back l = apart 3 1 (ap number_of l.1.0.passed.2) refl

route_shows_the_caller : CallsGoWherePhonesLead began (calls 1 0 server ++ passes_on Route other (phone client 0)) → ⊥
route_shows_the_caller l = apart 2 1 (ap task_in l.1.1.1.1.0.passed.3) refl

plain_shows_the_holder : CallsGoWherePhonesLead began (calls 1 0 server ++ passes_on Plain other (phone server 0)) → ⊥
plain_shows_the_holder l = apart 1 2 (ap task_in l.1.1.1.1.0.passed.3) refl

-- a call is received with another label
received_from_another : CallsGoWherePhonesLead began (calls 1 0 server ++ receives (phone server 0)) → ⊥
received_from_another l = apart 1 2 (ap task_in l.1.1.1.1.1.0.seen) refl

-- a phone is connected to a task that did not answer
connected_to_another : CallsGoWherePhonesLead began (asks ++ connects 1 other) → ⊥
connected_to_another l = elim l.1.1.1.1.1.1.0.came.2 [
  | inl h ↦ apart 3 2 (ap (λ (t : TaskNo). t.0) h.2) refl
  | inr h ↦ apart 2 1 h.0 refl
]

-- a phone is connected that does not wait for it
another_phone_is_connected : CallsGoWherePhonesLead began (asks ++ connects 2 server) → ⊥
another_phone_is_connected l = let waits : Free ≡ Connecting = l.1.1.1.1.1.1.0.came.0 in cc

-- a phone of a task that is made leads to another task than the naming service
made_to_lead_elsewhere : CallsGoWherePhonesLead began (entry.Spawn (record { 0 = 4 }) ∷ entry.PhoneIs (phone (record { 0 = 4 }) 0) (Connected server) ∷ []) → ⊥
made_to_lead_elsewhere l = apart 3 2 (ap number_of l.1.0.came.2) refl

-- a phone is slammed as another task is killed
slammed_without_cause : CallsGoWherePhonesLead began (entry.Kill other ∷ entry.PhoneIs (phone client 0) Slammed ∷ []) → ⊥
slammed_without_cause l = apart 3 2 (ap (λ (t : TaskNo). t.0) (l.1.0.went server refl)) refl

-- a phone that leads to a task is kept for a connection
taken_while_it_leads : CallsGoWherePhonesLead began (entry.Head client (request.Call 0 (msg connect_me_to)) ∷ entry.PhoneIs (phone client 0) Connecting ∷ []) → ⊥
taken_while_it_leads l = l.1.0.went server refl

-- a phone leads on to a task that was killed
leads_to_the_dead : CallsGoWherePhonesLead began (entry.Kill server ∷ entry.PhoneIs (phone server 0) HungUp ∷ []) → ⊥
leads_to_the_dead l = false≢true (sym (l.1.1 1 0 server refl).1)
