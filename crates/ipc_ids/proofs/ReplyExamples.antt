-- The law of replies at work on short lists: two that keep it, and some that break it.
use Rattle.std.proofs.Common.{ℕ, ◌≡◌, ◌++◌, Bool, true, false, Some, None, List, [], ◌∷◌, refl, sym, ◌∙◌, ap, subst, inl, inr, arith}
use Rattle.std.specs.Prelude.{replicate, ◌==◌}
use Rattle.std.proofs.lemmas.Bool.{eq-eqb, ne_eqb}
use Rattle.ipc_ids.specs.declared.numbers.TaskNo.{TaskNo}
use Rattle.ipc_ids.specs.declared.numbers.FibrilNo.{FibrilNo}
use Rattle.ipc_ids.specs.declared.numbers.CallNo.{CallNo}
use Rattle.ipc_ids.specs.declared.numbers.Label.{Label}
use Rattle.ipc_ids.specs.declared.message.Msg.{Msg}
use Rattle.ipc_ids.specs.declared.message.Reply.{Reply}
use Rattle.ipc_ids.specs.declared.message.Request.TheVariants as request
use Rattle.ipc_ids.specs.declared.message.Outcome.TheVariants as outcome
use Rattle.ipc_ids.specs.declared.entry.Entry.{Entry}
use Rattle.ipc_ids.specs.declared.entry.Entry.TheVariants as entry
use Rattle.ipc_ids.specs.Codes.{eok, enoent}
use Rattle.ipc_ids.specs.Methods.{first_user_method}
use Rattle.ipc_ids.specs.Facts.{Fact, Head, Accepts, Answer, Sent, Gets, Ends, Other, if_mine, facts}
use Rattle.ipc_ids.specs.Replies.{Stands, IsInOneEvent, StandsInOwnEvent, RepliesReachTheirFibril, is_mine, answer, IsPassedOn, RepliesWereLawful}
use Rattle.ipc_ids.proofs.LawfulReplies.{own_is_mine, replies_reach_their_fibril}

abbrev client : TaskNo
client = record { 0 = 1 }

abbrev server : TaskNo
server = record { 0 = 2 }

abbrev first : FibrilNo
first = record { 0 = 1 }

abbrev second : FibrilNo
second = record { 0 = 2 }

abbrev one : CallNo
one = record { 0 = 1 }

abbrev clients_phone : Label
clients_phone = record { task = client; phone = record { 0 = 0 } }

abbrev msg : Msg
msg = record { method = first_user_method; args = replicate 5 0 }

abbrev done : Reply
done = record { code = eok; args = replicate 5 0 }

abbrev not_there : Reply
not_there = record { code = enoent; args = replicate 5 0 }

-- the client calls the server
abbrev call : List Entry
call =
    entry.Head client (request.Call 0 msg)
    ∷ entry.Accepted one clients_phone first_user_method (Some server)
    ∷ entry.Outcome (outcome.Accepted one)
    ∷ []

-- the first fibril of the client does, from its slot 0
abbrev sent_call : List Entry
sent_call = call ++ (entry.Sent client first one (Some 0) ∷ [])

-- this task receives the answer
abbrev answered : TaskNo → List Entry
answered t =
    entry.Head t request.Receive
    ∷ entry.Delivered one t
    ∷ entry.Outcome (outcome.Answered one done)
    ∷ []

-- this fibril of the client gets a reply to the call, for this slot
abbrev gets : FibrilNo → ℕ → Reply → List Entry
gets f slot reply = entry.Gets client f one (Some slot) reply ∷ []

-- the reply reaches the fibril
abbrev whole_call : List Entry
whole_call = sent_call ++ (answered client ++ gets first 0 done)

-- the fibril ends before the answer comes, and nobody gets it
abbrev end_of_fibril : List Entry
end_of_fibril =
    sent_call
    ++ (entry.Head client request.Nothing
    ∷ entry.Outcome outcome.Done
    ∷ entry.Ends client first
    ∷ answered client)

no_answer : (p : List Fact) → answer p ≡ None → IsPassedOn p
no_answer p none n reply d mine a s e = grind arith

not_mine : (p : List Fact) → is_mine p ≡ false → IsPassedOn p
not_mine p other n reply d mine a s e = grind arith

-- what the call says of a task: of the client, or of another
abbrev call_facts : Bool → List Fact
call_facts b = if_mine b (Sent 1 1 (Some 0)) ∷ Other ∷ Accepts 1 ∷ Head b ∷ []

abbrev whole_facts : Bool → List Fact
whole_facts b = if_mine b (Gets 1 1 (Some 0) done) ∷ Answer 1 done ∷ Other ∷ Head b ∷ call_facts b

abbrev after_end : Bool → List Fact
after_end b = if_mine b (Ends 1) ∷ Other ∷ Head b ∷ call_facts b

abbrev end_facts : Bool → List Fact
end_facts b = Answer 1 done ∷ Other ∷ Head b ∷ after_end b

call_is_lawful : (b : Bool) → RepliesWereLawful (call_facts b)
call_is_lawful true = ((((tt, no_answer [] refl), tt), tt), (refl, refl, refl))
call_is_lawful false = ((((tt, no_answer [] refl), tt), tt), tt)

call_is_passed : (b : Bool) → IsPassedOn (call_facts b)
call_is_passed true = no_answer (call_facts true) refl
call_is_passed false = not_mine (call_facts false) refl

whole_is_lawful : (b : Bool) → RepliesWereLawful (whole_facts b)
whole_is_lawful true =
    ((((call_is_lawful true, call_is_passed true), tt), λ m. refl), (refl, refl, refl, refl))
whole_is_lawful false =
    ((((call_is_lawful false, call_is_passed false), tt), λ m. absurd (cc m)), tt)

whole_is_passed : (b : Bool) → IsPassedOn (whole_facts b)
whole_is_passed true = λ n reply d mine a s e. grind (arith, eq-eqb, ne_eqb)
whole_is_passed false = not_mine (whole_facts false) refl

whole_call_keeps_the_law : RepliesReachTheirFibril whole_call
whole_call_keeps_the_law =
    replies_reach_their_fibril whole_call (λ t. whole_is_lawful (1 == t))
    (λ t. whole_is_passed (1 == t))

end_is_lawful : (b : Bool) → RepliesWereLawful (end_facts b)
end_is_lawful true =
    let ends : RepliesWereLawful (after_end true) =
    (((call_is_lawful true, call_is_passed true), tt), tt) in
    (((ends, no_answer (after_end true) refl), tt), λ m. refl)
end_is_lawful false =
    let ends : RepliesWereLawful (after_end false) =
    (((call_is_lawful false, call_is_passed false), tt), tt) in
    (((ends, not_mine (after_end false) refl), tt), λ m. absurd (cc m))

-- the fibril that sent the call has ended
end_is_passed : (b : Bool) → IsPassedOn (end_facts b)
end_is_passed true = λ n reply d mine a s e. grind (arith, eq-eqb, ne_eqb)
end_is_passed false = not_mine (end_facts false) refl

end_of_fibril_keeps_the_law : RepliesReachTheirFibril end_of_fibril
end_of_fibril_keeps_the_law =
    replies_reach_their_fibril end_of_fibril (λ t. end_is_lawful (1 == t))
    (λ t. end_is_passed (1 == t))

-- the call is sent, and this task receives the answer
abbrev before_reply : TaskNo → List Entry
before_reply t = sent_call ++ answered t

-- the second fibril gets the reply
reply_to_another : RepliesReachTheirFibril (before_reply client ++ gets second 0 done) → ⊥
reply_to_another law =
    let it = (law 1).sent [] (facts 1 (before_reply client)) 2 1 (Some 0) done refl in grind arith

-- the reply goes to another slot
reply_to_another_slot : RepliesReachTheirFibril (before_reply client ++ gets first 1 done) → ⊥
reply_to_another_slot law =
    let it = (law 1).sent [] (facts 1 (before_reply client)) 1 1 (Some 1) done refl in grind arith

-- a fibril gets the reply to a call that no fibril sent
reply_without_a_call : RepliesReachTheirFibril ((call ++ answered client) ++ gets first 0 done) → ⊥
reply_without_a_call law =
    let it = (law 1).sent [] (facts 1 (call ++ answered client)) 1 1 (Some 0) done refl in
    grind arith

-- the fibril gets the reply twice
second_reply : RepliesReachTheirFibril (whole_call ++ gets first 0 done) → ⊥
second_reply law =
    (law 1).once [] (facts 1 whole_call) 1 1 (Some 0) done refl 1 (Some 0) done (inl refl)

stands_in_all : (x : Fact) (event before : List Fact) → Stands x event → Stands x (event ++ before)
stands_in_all x [] before s = absurd s
stands_in_all x (e ∷ event) before s = grind (arith, stands_in_all x event before)

-- the fibril gets another reply than the outcome
another_reply : RepliesReachTheirFibril (before_reply client ++ gets first 0 not_there) → ⊥
another_reply law =
    let p : List Fact = facts 1 (before_reply client) in
    let x : Fact = Answer 1 not_there in
    let it : StandsInOwnEvent x p = (law 1).outcome [] p 1 1 (Some 0) not_there refl in
    let all : Stands x (it.event ++ (Head true ∷ it.before)) =
    stands_in_all x it.event (Head true ∷ it.before) it.stands in
    let there : Stands x p = subst (Stands x) (sym it.split) all in
    grind arith

-- the fibril gets the reply in an event of the server
in_anothers_event : RepliesReachTheirFibril (before_reply server ++ gets first 0 done) → ⊥
in_anothers_event law =
    let p : List Fact = facts 1 (before_reply server) in
    let it : StandsInOwnEvent (Answer 1 done) p = (law 1).outcome [] p 1 1 (Some 0) done refl in
    let mine : is_mine p ≡ true =
    ap is_mine it.split ∙ own_is_mine it.event it.before it.one_event in
    cc

-- a step of the client that does nothing
abbrev step : List Entry
step = entry.Head client request.Nothing ∷ entry.Outcome outcome.Done ∷ []

no_reply_in_step :
    (event before : List Fact) →
    facts 1 (before_reply client ++ step) ≡ event ++ (Head true ∷ before) → IsInOneEvent event →
    Stands (Answer 1 done) event → ⊥
no_reply_in_step [] before at one s = s
no_reply_in_step (a ∷ []) before at one s = grind arith
no_reply_in_step (a ∷ b ∷ event) before at one s = grind arith

-- the fibril gets the reply in a later event of the client
late_reply : RepliesReachTheirFibril ((before_reply client ++ step) ++ gets first 0 done) → ⊥
late_reply law =
    let p : List Fact = facts 1 (before_reply client ++ step) in
    let it : StandsInOwnEvent (Answer 1 done) p = (law 1).outcome [] p 1 1 (Some 0) done refl in
    no_reply_in_step it.event it.before it.split it.one_event it.stands

-- the reply is passed over
passed_over : RepliesReachTheirFibril (before_reply client) → ⊥
passed_over law =
    let event : List Fact = Answer 1 done ∷ Other ∷ [] in
    let it : Stands (Gets 1 1 (Some 0) done) event =
    (law 1).passed_on [] event (facts 1 sent_call) 1 1 (Some 0) done refl tt tt (inl refl)
    (inr (inr (inr (inl refl)))) (λ s. grind arith) in
    grind arith

-- the fibril ends in the very event whose reply is passed over
passed_over_at_the_end :
    RepliesReachTheirFibril (before_reply client ++ (entry.Ends client first ∷ [])) → ⊥
passed_over_at_the_end law =
    let event : List Fact = Ends 1 ∷ Answer 1 done ∷ Other ∷ [] in
    let it : Stands (Gets 1 1 (Some 0) done) event =
    (law 1).passed_on [] event (facts 1 sent_call) 1 1 (Some 0) done refl tt tt (inr (inl refl))
    (inr (inr (inr (inr (inl refl))))) (λ s. grind arith) in
    grind arith
