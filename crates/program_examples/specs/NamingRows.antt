-- What the naming service asks and what it makes of a call that it receives, a row for each, with all values apart.
use Rattle.std.specs.Prelude.{◌≡◌, ℕ, ◌+◌, true, false, List, [], ◌∷◌, ◌++◌, Some}
use Rattle.ipc_ids.specs.declared.message.Mode.TheVariants.{Plain}
use Rattle.ipc_ids.specs.declared.message.Request.TheVariants as ask
use Rattle.ipc_ids.specs.declared.message.Outcome.{Outcome}
use Rattle.ipc_ids.specs.declared.message.Outcome.TheVariants as got
use Rattle.task_ends.specs.declared.introduced.End.{End}
use Rattle.task_ends.specs.declared.introduced.Introduced.{Introduced}
use Rattle.task_ends.specs.declared.introduced.Wait.{Wait}
use Rattle.naming_service.specs.declared.received.ReceivedCall.{ReceivedCall}
use Rattle.naming_service.specs.declared.received.Work.{Work}
use Rattle.naming_service.specs.declared.received.Work.TheVariants.{Answer, Forward}
use Rattle.naming_service.specs.Naming.{NamingState, started, wanted, after}
use Rattle.program_examples.specs.Apart.{five, call_number, code, message, reply, label}

-- a task that introduced itself over this phone, with a value or without one, and whether it has ended
abbrev pub no_value : End
no_value = record { has = false; value = 0 }

-- this value
abbrev pub value : ℕ → End
value n = record { has = true; value = n }

-- one that has not ended, and one that has
abbrev pub introduced_as : (task phone : ℕ) → End → Introduced
introduced_as t p end = record { label = label t p; end = end; ended = false }

abbrev pub ended_as : (task phone : ℕ) → End → Introduced
ended_as t p end = record { label = label t p; end = end; ended = true }

-- call n waits for the end of this task
abbrev pub wait_of : ℕ → ℕ → Wait
wait_of n t = record { call = call_number n; task = t }

-- tasks 21 and 22 introduced themselves, 23 and 24 have ended
abbrev pub tasks : List Introduced
tasks =
    introduced_as 21 31 (value 41) ∷ introduced_as 22 32 no_value ∷ ended_as 23 33 (value 43)
    ∷ ended_as 24 34 no_value ∷ []

-- who waits for their ends
abbrev pub waits : List Wait
waits = wait_of 51 21 ∷ wait_of 52 22 ∷ wait_of 53 21 ∷ []

-- a call that is pending for this service, with its second and third argument
abbrev pub pending_call : ℕ → (service second third : ℕ) → ReceivedCall
pending_call n service second third =
    record {
      number = call_number n;
      msg = message 2 (five service second third 1 (n + 100));
      label = label (n + 200) (n + 300);
    }

-- the calls that are pending
abbrev pub pending : List ReceivedCall
pending = pending_call 61 11 62 63 ∷ pending_call 64 12 65 66 ∷ pending_call 67 11 68 69 ∷ []

-- services 13 and 14 are registered
abbrev pub before : NamingState
before =
    record {
      registry = (13, 3) ∷ (14, 4) ∷ [];
      pending = pending;
      ends = record { introduced = tasks; waits = waits };
      work = [];
      taken = 90;
    }

-- a receive of call 99 with this method and these arguments, over this phone of this task
abbrev pub received : ℕ → List ℕ → (task phone : ℕ) → Outcome
received method args t p = got.Received (call_number 99) (message method args) (label t p)

-- what that makes of the service; it is one outcome more
abbrev pub Makes : Outcome → NamingState → Type 0
Makes outcome state = after before outcome ≡ record state { taken = 91 }

-- call n is to be answered with this code alone
abbrev pub answers : ℕ → ℕ → Work
answers n c = Answer (call_number n) (reply c (five 0 0 0 0 0))

-- it answers call 99 so, and all else stays
abbrev pub Answers : Outcome → ℕ → Type 0
Answers outcome c = Makes outcome (record before { work = answers 99 c ∷ [] })

-- call n is to go on over this phone
abbrev pub forwards : ℕ → ℕ → (second third : ℕ) → Work
forwards n phone second third = Forward (call_number n) phone (message 2 (five second third 0 0 0))

-- services are registered: the calls that wait for one go on over its phone, in their order, behind the answer
pub record Registrations : Type 0 where
  pub taken : Makes (received 1 (five 11 71 72 73 5) 25 35)
      (record before {
        registry = (13, 3) ∷ (14, 4) ∷ (11, 5) ∷ [];
        pending = pending_call 64 12 65 66 ∷ [];
        work = answers 99 0 ∷ forwards 61 5 62 63 ∷ forwards 67 5 68 69 ∷ [];
      })
  pub of_a_phone_that_comes_again : Makes (received 1 (five 15 71 72 73 3) 25 35)
      (record before { registry = (14, 4) ∷ (15, 3) ∷ []; work = answers 99 0 ∷ [] })
  pub of_the_same_service : Makes (received 1 (five 13 71 72 73 3) 25 35)
      (record before { registry = (14, 4) ∷ (13, 3) ∷ []; work = answers 99 0 ∷ [] })
  -- EEXIST where it is registered with another phone, and ELIMIT where there was no phone
  pub of_a_known_service : Answers (received 1 (five 13 71 72 73 5) 25 35) 3
  pub without_a_phone : Answers (received 1 (five 13 71 72 73 64) 25 35) 5

-- who wants a service is passed on, waits, or is refused with ENOENT
pub record Connections : Type 0 where
  pub there : Makes (received 2 (five 14 71 72 73 74) 25 35)
      (record before { work = forwards 99 4 71 72 ∷ [] })
  pub waiting : Makes (received 2 (five 12 71 72 1 74) 25 35)
      (record before {
        pending =
            pending
            ++ record {
              number = call_number 99;
              msg = message 2 (five 12 71 72 1 74);
              label = label 25 35;
            } ∷ [];
      })
  pub not_waiting : Answers (received 2 (five 12 71 72 2 74) 25 35) 1

-- tasks introduce themselves, leave a value, and wait for the end of another
pub record TaskEnds : Type 0 where
  pub introduced : Makes (received 512 (five 71 72 73 74 75) 25 35)
      (record before {
        ends = record { introduced = tasks ++ introduced_as 25 35 no_value ∷ []; waits = waits };
        work = answers 99 0 ∷ [];
      })
  pub introduced_again : Answers (received 512 (five 71 72 73 74 75) 21 36) 3
  pub introduced_after_its_end : Answers (received 512 (five 71 72 73 74 75) 23 33) 3
  pub leaves : Makes (received 513 (five 71 72 73 74 75) 22 32)
      (record before {
        ends =
            record {
              introduced =
                  introduced_as 21 31 (value 41) ∷ introduced_as 22 32 (value 71) ∷ ended_as 23 33 (value 43)
                  ∷ ended_as 24 34 no_value ∷ [];
              waits = waits;
            };
        work = answers 99 0 ∷ [];
      })
  pub leaves_again : Makes (received 513 (five 71 72 73 74 75) 21 31)
      (record before {
        ends =
            record {
              introduced =
                  introduced_as 21 31 (value 71) ∷ introduced_as 22 32 no_value ∷ ended_as 23 33 (value 43)
                  ∷ ended_as 24 34 no_value ∷ [];
              waits = waits;
            };
        work = answers 99 0 ∷ [];
      })
  pub leaves_over_another_phone : Answers (received 513 (five 71 72 73 74 75) 22 36) 1
  pub leaves_after_its_end : Answers (received 513 (five 71 72 73 74 75) 23 33) 1
  pub leaves_unknown : Answers (received 513 (five 71 72 73 74 75) 25 35) 1
  pub waits_for_it : Makes (received 514 (five 22 72 73 74 75) 25 35)
      (record before { ends = record { introduced = tasks; waits = waits ++ wait_of 99 22 ∷ [] } })
  pub waits_for_ended : Makes (received 514 (five 23 72 73 74 75) 25 35)
      (record before { work = Answer (call_number 99) (reply 0 (five 1 43 0 0 0)) ∷ [] })
  pub waits_for_ended_without_a_value : Makes (received 514 (five 24 72 73 74 75) 25 35)
      (record before { work = Answer (call_number 99) (reply 0 (five 0 0 0 0 0)) ∷ [] })
  pub waits_for_unknown : Answers (received 514 (five 26 72 73 74 75) 25 35) 1

-- phones are hung up, and tasks end by that
pub record Hangups : Type 0 where
  pub ends : Makes (received 0 (five 71 72 73 74 75) 21 31)
      (record before {
        ends =
            record {
              introduced =
                  ended_as 21 31 (value 41) ∷ introduced_as 22 32 no_value ∷ ended_as 23 33 (value 43)
                  ∷ ended_as 24 34 no_value ∷ [];
              waits = wait_of 52 22 ∷ [];
            };
        work =
            answers 99 0 ∷ Answer (call_number 51) (reply 0 (five 1 41 0 0 0))
            ∷ Answer (call_number 53) (reply 0 (five 1 41 0 0 0)) ∷ [];
      })
  pub ends_without_a_value : Makes (received 0 (five 71 72 73 74 75) 22 32)
      (record before {
        ends =
            record {
              introduced =
                  introduced_as 21 31 (value 41) ∷ ended_as 22 32 no_value ∷ ended_as 23 33 (value 43)
                  ∷ ended_as 24 34 no_value ∷ [];
              waits = wait_of 51 21 ∷ wait_of 53 21 ∷ [];
            };
        work = answers 99 0 ∷ answers 52 0 ∷ [];
      })
  pub of_another_phone : Answers (received 0 (five 71 72 73 74 75) 21 36) 0
  pub of_one_that_has_ended : Answers (received 0 (five 71 72 73 74 75) 23 33) 0
  pub of_unknown : Answers (received 0 (five 71 72 73 74 75) 25 35) 0
  -- a method of none of these
  pub other_method : Answers (received 515 (five 71 72 73 74 75) 25 35) 1
  pub data_method : Answers (received 3 (five 71 72 73 74 75) 25 35) 1

-- what is owed: two answers and a forward
abbrev pub owing : NamingState
owing =
    record before {
      work =
          Answer (call_number 81) (reply 82 (five 83 84 85 86 87)) ∷ forwards 88 6 89 91
          ∷ Answer (call_number 92) (reply 93 (five 94 95 96 97 98)) ∷ [];
    }

-- the first is asked, whatever came, and the others stay in their order; where none is owed the service receives
pub record OwedWork : Type 0 where
  pub answer : wanted owing ≡ ask.Answer 81 (reply 82 (five 83 84 85 86 87))
  pub forward : wanted (record before { work = forwards 88 6 89 91 ∷ answers 99 0 ∷ [] })
      ≡ ask.Forward 88 6 Plain (Some (message 2 (five 89 91 0 0 0)))
  pub none : wanted before ≡ ask.Receive
  pub done : after owing got.Done
      ≡ record before {
        work = forwards 88 6 89 91 ∷ Answer (call_number 92) (reply 93 (five 94 95 96 97 98)) ∷ [];
        taken = 91;
      }
  pub refused : after owing (got.Refused (code 98))
      ≡ record before {
        work = forwards 88 6 89 91 ∷ Answer (call_number 92) (reply 93 (five 94 95 96 97 98)) ∷ [];
        taken = 91;
      }
  pub nothing_came : after before got.Empty ≡ record before { taken = 91 }
  pub answer_came : after before (got.Answered (call_number 81) (reply 82 (five 83 84 85 86 87)))
      ≡ record before { taken = 91 }
  pub start : started
      ≡ record { registry = []; pending = []; ends = record { introduced = []; waits = [] }; work = []; taken = 0 }
