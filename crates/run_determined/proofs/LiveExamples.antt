-- A fibril that waits for an answer, at work on short lists: those in which the call is still to be answered, and those
-- of machines that lose it. In each the task's own list names the call, so by that list alone it is still to come.
use Rattle.std.proofs.Common.{ℕ, zero, suc, ◌≡◌, ◌++◌, false, List, [], ◌∷◌, Some, refl, sym, subst, ◌∙◌}
use Rattle.std.specs.Prelude.{◌==◌}
use Rattle.std.proofs.lemmas.Bool.{eq-eqb, false≢true}
use Rattle.ipc_ids.specs.declared.numbers.TaskNo.{TaskNo}
use Rattle.ipc_ids.specs.declared.numbers.CallNo.{CallNo}
use Rattle.ipc_ids.specs.declared.numbers.FibrilNo.{FibrilNo}
use Rattle.ipc_ids.specs.declared.message.Reply.{Reply}
use Rattle.ipc_ids.specs.declared.message.Why.{Why}
use Rattle.ipc_ids.specs.declared.message.Why.TheVariants as why
use Rattle.ipc_ids.specs.declared.message.Request.TheVariants as request
use Rattle.ipc_ids.specs.declared.entry.Entry.{Entry}
use Rattle.ipc_ids.specs.declared.entry.Entry.TheVariants as entry
use Rattle.ipc_ids.specs.Codes.{eok}
use Rattle.ipc_ids.specs.Tales.{past}
use Rattle.ipc_ids.specs.Life.{life}
use Rattle.fibril_core.specs.declared.fibrils.Status.TheVariants.{Blocked}
use Rattle.fibril_core.specs.Fibrils.{FibrilOrder, why_at, fibril_at}
use Rattle.async_sessions.specs.Sessions.{no_sessions}
use Rattle.async_task.specs.Contexts.{new_context}
use Rattle.async_task.specs.AsyncState.{AsyncState}
use Rattle.async_laws.specs.NoLostWakes.{IsStillToCome}
use Rattle.run_determined.specs.LiveWaits.{IsStillToBeAnswered, WaitsForLiveCalls}

abbrev client : TaskNo
client = record { 0 = 1 }

abbrev server : TaskNo
server = record { 0 = 2 }

abbrev call : CallNo
call = record { 0 = 1 }

abbrev fibril : FibrilNo
fibril = record { 0 = 1 }

abbrev reply : Reply
reply = record { code = eok; args = 0 ∷ 0 ∷ 0 ∷ 0 ∷ 0 ∷ [] }

-- one fibril, which waits for the answer of call 1
abbrev order : FibrilOrder
order = record
    { fibrils = record { number = fibril; status = Blocked (why.Answer call); stamp = 1 } ∷ []; next_stamp = 2 }

-- it sent the call from its slot 0
abbrev waiting : AsyncState
waiting = record {
  me = client;
  bodies = [];
  order = order;
  contexts = Some (new_context 0) ∷ [];
  conns = [];
  pool = no_sessions;
  awaited = record { call = call; fibril = fibril; slot = Some 0 } ∷ [];
  work = [];
}

-- by the task's own list the answer is still to come
comes_by_its_list : IsStillToCome waiting fibril (why.Answer call)
comes_by_its_list = (Some 0, refl)

-- a call of this task is accepted, and received by the server
abbrev calls : TaskNo → List Entry
calls from =
    entry.Head from request.Nothing
    ∷ entry.Accepted call (record { task = from; phone = record { 0 = 0 } }) 512 (Some server)
    ∷ entry.Head server request.Receive
    ∷ entry.Received call server
    ∷ []

-- the server answers it
abbrev answers : List Entry
answers = entry.Head server (request.Answer 1 reply) ∷ entry.Answered call reply (Some server) ∷ []

-- only that fibril waits, and for call 1
one_waits : (n : ℕ) (m : CallNo) → why_at (fibril_at order n) ≡ Some (why.Answer m) → call ≡ m
one_waits zero m h = absurd (cc h)
one_waits (suc zero) m h = call_is (one (why.Answer call) (why.Answer m) h) where
  one : (v w : Why) → Some v ≡ Some w → v ≡ w
  one v w e = cc

  call_is : why.Answer call ≡ why.Answer m → call ≡ m
  call_is e = cc
one_waits (suc (suc n)) m h = absurd (cc h)

-- while the server holds the call, and once its answer waits
waits_while_it_is_held : WaitsForLiveCalls 1 (past (calls client)) waiting
waits_while_it_is_held f n blocked =
    subst (λ (m : CallNo). IsStillToBeAnswered 1 (life m.0 (past (calls client)))) (one_waits f.0 n blocked) refl

waits_for_its_answer : WaitsForLiveCalls 1 (past (calls client ++ answers)) waiting
waits_for_its_answer f n blocked =
    subst (λ (m : CallNo). IsStillToBeAnswered 1 (life m.0 (past (calls client ++ answers))))
    (one_waits f.0 n blocked) refl

-- ---- machines that lose the call

-- the kernel drops the answer that is awaited
answer_is_dropped : WaitsForLiveCalls 1
    (past (calls client ++ (answers ++ (entry.Head client request.Receive ∷ entry.Dropped call client ∷ []))))
    waiting → ⊥
answer_is_dropped law = law fibril call refl

-- it is delivered, and nothing of it comes to the fibril
answer_is_lost : WaitsForLiveCalls 1
    (past (calls client ++ (answers ++ (entry.Head client request.Receive ∷ entry.Delivered call client ∷ []))))
    waiting → ⊥
answer_is_lost law = law fibril call refl

-- the call vanishes though its caller lives
call_vanishes : WaitsForLiveCalls 1
    (past (calls client ++ (entry.Head server (request.Answer 1 reply) ∷ entry.Vanished call ∷ []))) waiting → ⊥
call_vanishes law = law fibril call refl

-- the call was never made
call_was_not_made : WaitsForLiveCalls 1 (past []) waiting → ⊥
call_was_not_made law = law fibril call refl

-- it is a call of another task
call_of_another : WaitsForLiveCalls 1 (past (calls server)) waiting → ⊥
call_of_another law = false≢true (sym ne ∙ eq-eqb 2 1 (law fibril call refl)) where
  ne : (2 == 1) ≡ false
  ne = refl
