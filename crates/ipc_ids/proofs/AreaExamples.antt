-- The law of shared areas at work on short lists: two that keep it, and some that break it.
use Rattle.std.proofs.Common.{ℕ, ◌≡◌, ◌≤◌, ◌++◌, Some, List, [], ◌∷◌, refl, inl, inr, arith}
use Rattle.std.specs.Prelude.{◌+◌}
use Rattle.std.proofs.lemmas.Bool.{eq-eqb, ne_eqb, cases_eq}
use Rattle.ipc_ids.specs.declared.numbers.TaskNo.{TaskNo}
use Rattle.ipc_ids.specs.declared.numbers.CallNo.{CallNo}
use Rattle.ipc_ids.specs.declared.numbers.StoreNo.{StoreNo}
use Rattle.ipc_ids.specs.declared.numbers.Label.{Label}
use Rattle.ipc_ids.specs.declared.message.Msg.{Msg}
use Rattle.ipc_ids.specs.declared.message.Reply.{Reply}
use Rattle.ipc_ids.specs.declared.message.Request.TheVariants as request
use Rattle.ipc_ids.specs.declared.message.Outcome.TheVariants as outcome
use Rattle.ipc_ids.specs.declared.entry.Entry.{Entry}
use Rattle.ipc_ids.specs.declared.entry.Entry.TheVariants as entry
use Rattle.ipc_ids.specs.Codes.{eok}
use Rattle.ipc_ids.specs.Methods.{data_read, share_out, first_user_method}
use Rattle.ipc_ids.specs.Holdings.{held, last_store, on_top, newest_first}
use Rattle.ipc_ids.specs.AreaLaw.{HoldsAround, IsLawfulEntry, AllLawful, AreasAreLawful}

abbrev client : TaskNo
client = record { 0 = 1 }

abbrev server : TaskNo
server = record { 0 = 2 }

abbrev one : CallNo
one = record { 0 = 1 }

abbrev first_store : StoreNo
first_store = record { 0 = 1 }

abbrev second_store : StoreNo
second_store = record { 0 = 2 }

abbrev clients_phone : Label
clients_phone = record { task = client; phone = record { 0 = 0 } }

-- a message, and a reply that accepts, with these first arguments
abbrev msg : ℕ → ℕ → ℕ → ℕ → Msg
msg method a b c = record { method = method; args = a ∷ b ∷ c ∷ 0 ∷ 0 ∷ [] }

abbrev reply : ℕ → ℕ → Reply
reply a b = record { code = eok; args = a ∷ b ∷ 0 ∷ 0 ∷ 0 ∷ [] }

-- the client makes an area of one page with these rights
abbrev after_area : ℕ → List Entry
after_area rights =
    entry.Head client (request.AreaMake 4096 1 rights)
    ∷ entry.AreaMade client 4096 1 rights first_store
    ∷ entry.Outcome outcome.Done
    ∷ []

-- it calls the server with this method, and the server answers
abbrev after_answer : ℕ → ℕ → ℕ → List Entry
after_answer rights method asked =
    after_area rights
    ++ (entry.Head client (request.Call 0 (msg method 4096 1 asked))
    ∷ entry.Accepted one clients_phone method (Some server)
    ∷ entry.Outcome (outcome.Accepted one)
    ∷ entry.Head server request.Receive
    ∷ entry.Received one server
    ∷ entry.Outcome (outcome.Received one (msg method 4096 1 asked) clients_phone)
    ∷ entry.Head server (request.Answer 1 (reply 8192 0))
    ∷ entry.Answered one (reply 8192 0) (Some server)
    ∷ [])

-- the client lets the server read its area
abbrev read_share : List Entry
read_share = after_answer 3 share_out 1 ++ (entry.AreaMade server 8192 1 1 first_store ∷ entry.Outcome outcome.Done ∷ [])

-- the client pokes, and the answer of its DATA_READ brings bytes into the same area
abbrev own_writes : List Entry
own_writes =
    after_area 3
    ++ (entry.Head client (request.Poke 4100 (7 ∷ 8 ∷ []))
    ∷ entry.Wrote client 4100 2 first_store
    ∷ entry.Outcome outcome.Done
    ∷ entry.Head client (request.Call 0 (msg data_read 4096 1 0))
    ∷ entry.Accepted one clients_phone data_read (Some server)
    ∷ entry.Outcome (outcome.Accepted one)
    ∷ entry.Head client request.Receive
    ∷ entry.Delivered one client
    ∷ entry.Wrote client 4096 1 first_store
    ∷ [])

server_holds_it : held 2 8192 (newest_first read_share) ≡ Some (record { pages = 1; rights = 1; store = 1 })
server_holds_it = refl

client_holds_it_still : held 1 4096 (newest_first read_share) ≡ Some (record { pages = 1; rights = 3; store = 1 })
client_holds_it_still = refl

one_store : last_store (newest_first read_share) ≡ 1
one_store = refl

read_share_keeps_the_law : AreasAreLawful read_share
read_share_keeps_the_law = grind (arith, eq-eqb, ne_eqb)

clients_area : (at count : ℕ) (p : List Entry) → held 1 4096 p ≡ Some (record { pages = 1; rights = 3; store = 1 }) →
    4096 ≤ at → at + count ≤ 8192 → HoldsAround p 1 at count 1
clients_area at count p there low high =
    record {
      base = 4096;
      area = record { pages = 1; rights = 3; store = 1 };
      held_there = there;
      same_store = refl;
      writable = refl;
      begins = low;
      ends = high;
    }

own_writes_keep_the_law : AreasAreLawful own_writes
own_writes_keep_the_law = (
  tt,
  (
    inl (record { asked = refl; fresh = refl }),
    (
      tt,
      (
        tt,
        (
          (inl refl, clients_area 4100 2 _ refl (omega arith) (omega arith)),
          (
            tt,
            (
              tt,
              (
                tt,
                (
                  tt,
                  (
                    tt,
                    (
                      tt,
                      ((inr (inr (refl, 1, refl, inl (inl refl))), clients_area 4096 1 _ refl (omega arith) (omega arith)), tt),
                    ),
                  ),
                ),
              ),
            ),
          ),
        ),
      ),
    ),
  ),
)

at_end : (es p : List Entry) (e : Entry) → AllLawful p (es ++ (e ∷ [])) → IsLawfulEntry (on_top es p) e []
at_end [] p e l = l.0
at_end (x ∷ es) p e l = at_end es (x ∷ p) e l.1

-- the server gets a right that the client's area has not
wider_rights : AreasAreLawful (after_answer 1 share_out 3 ++ (entry.AreaMade server 8192 1 3 first_store ∷ [])) → ⊥
wider_rights l =
    let e : Entry = entry.AreaMade server 8192 1 3 first_store in
    let it : IsLawfulEntry (newest_first (after_answer 1 share_out 3)) e [] = at_end (after_answer 1 share_out 3) [] e l in
    grind arith

-- it gets the bytes of a new store
another_store : AreasAreLawful (after_answer 3 share_out 1 ++ (entry.AreaMade server 8192 1 1 second_store ∷ [])) → ⊥
another_store l =
    let e : Entry = entry.AreaMade server 8192 1 1 second_store in
    let it : IsLawfulEntry (newest_first (after_answer 3 share_out 1)) e [] = at_end (after_answer 3 share_out 1) [] e l in
    grind arith

-- it gets an area by a call that shares nothing
no_share_call : AreasAreLawful (after_answer 3 first_user_method 1 ++ (entry.AreaMade server 8192 1 1 first_store ∷ [])) → ⊥
no_share_call l =
    let e : Entry = entry.AreaMade server 8192 1 1 first_store in
    let it : IsLawfulEntry (newest_first (after_answer 3 first_user_method 1)) e [] = at_end (after_answer 3 first_user_method 1) [] e l in
    grind arith

-- a task makes an area over a store that it did not make
area_over_a_later_store :
    AreasAreLawful
    (entry.Head client (request.AreaMake 4096 1 3) ∷ entry.AreaMade client 4096 1 3 second_store ∷ []) → ⊥
area_over_a_later_store l = grind arith

-- the last byte lies behind the area
write_behind : AreasAreLawful
    (after_area 3 ++ (entry.Head client (request.Poke 8190 (7 ∷ 8 ∷ 9 ∷ [])) ∷ entry.Wrote client 8190 3 first_store ∷ [])) → ⊥
write_behind l = let it = l.1.1.1.1.0.1 in grind (arith, eq-eqb, ne_eqb, cases_eq 4096 it.base)

-- the area may only be read
write_to_read_only : AreasAreLawful
    (after_area 1 ++ (entry.Head client (request.Poke 4096 (7 ∷ [])) ∷ entry.Wrote client 4096 1 first_store ∷ [])) → ⊥
write_to_read_only l = let it = l.1.1.1.1.0.1 in grind (arith, eq-eqb, ne_eqb, cases_eq 4096 it.base)

-- a task writes in an event of another task
write_by_another : AreasAreLawful
    (after_area 3 ++ (entry.Head server (request.Poke 4096 (7 ∷ [])) ∷ entry.Wrote client 4096 1 first_store ∷ [])) → ⊥
write_by_another l = let it = l.1.1.1.1.0.0 in grind arith

-- the bytes of a DATA_READ are written as the server answers, before their delivery
write_before_delivery : AreasAreLawful (after_answer 3 data_read 0 ++ (entry.Wrote client 4096 1 first_store ∷ [])) → ⊥
write_before_delivery l =
    let e : Entry = entry.Wrote client 4096 1 first_store in
    let it : IsLawfulEntry (newest_first (after_answer 3 data_read 0)) e [] = at_end (after_answer 3 data_read 0) [] e l in
    grind arith

-- a task writes to an area that is gone
write_to_a_gone_area : AreasAreLawful
    (after_area 3
    ++ (entry.Head client (request.AreaDrop 4096)
    ∷ entry.AreaGone client 4096
    ∷ entry.Head client (request.Poke 4096 (7 ∷ []))
    ∷ entry.Wrote client 4096 1 first_store
    ∷ [])) →
    ⊥
write_to_a_gone_area l = let it = l.1.1.1.1.1.1.0.1 in grind (arith, eq-eqb, ne_eqb, cases_eq 4096 it.base)
