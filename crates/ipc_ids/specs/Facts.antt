-- What the laws of replies and of exchanges read in a list of entries, for one task: its events,
-- what its fibrils send and get, and the exchanges that they begin and end.
use Rattle.std.specs.Prelude.{ℕ, ◌==◌, Bool, true, false, Option, List, [], ◌∷◌}
use Rattle.ipc_ids.specs.declared.message.ExchangeMode.{ExchangeMode}
use Rattle.ipc_ids.specs.declared.message.Reply.{Reply}
use Rattle.ipc_ids.specs.declared.message.Outcome.{Outcome}
use Rattle.ipc_ids.specs.declared.message.Outcome.TheVariants as outcome
use Rattle.ipc_ids.specs.declared.entry.Entry.{Entry}
use Rattle.ipc_ids.specs.declared.entry.Entry.TheVariants as entry

-- how, of which session and over which phone an exchange is begun
pub record Terms : Type 0 where
  pub mode : ExchangeMode
  pub session : ℕ
  pub phone : ℕ

-- one entry, as far as the laws of one task read it: the head of an event, which names the task or
-- another; a call that the kernel accepts, of whatever task; an outcome that answers a call, of
-- whatever event; and what a fibril of the task does. A call from no slot is for an exchange that
-- is being begun
pub data Fact : Type 0 where
  Head : (is_mine : Bool) → Fact
  Accepts : (call : ℕ) → Fact
  Answer : (call : ℕ) → (reply : Reply) → Fact
  Sent : (fibril call : ℕ) → (slot : Option ℕ) → Fact
  Gets : (fibril call : ℕ) → (slot : Option ℕ) → (reply : Reply) → Fact
  Ends : (fibril : ℕ) → Fact
  Begins : (fibril exchange : ℕ) → Terms → Fact
  EndsExchange : (exchange : ℕ) → Fact
  Drops : (exchange : ℕ) → Fact
  Other : Fact

-- what a fibril does, where its task is the one that the laws speak of
abbrev pub if_mine : Bool → Fact → Fact
if_mine true x = x
if_mine false x = Other

abbrev pub outcome_fact : Outcome → Fact
outcome_fact (outcome.Answered n reply) = Answer n.0 reply
outcome_fact _ = Other

-- what an entry says of task t
abbrev pub fact : ℕ → Entry → Fact
fact t (entry.Head u asked) = Head (u.0 == t)
fact t (entry.Kill u) = Head (u.0 == t)
fact t (entry.Gone u) = Head (u.0 == t)
fact t (entry.Spawn u) = Head (u.0 == t)
fact t (entry.Accepted n from method to) = Accepts n.0
fact t (entry.Outcome o) = outcome_fact o
fact t (entry.Sent u f n slot) = if_mine (u.0 == t) (Sent f.0 n.0 slot)
fact t (entry.Gets u f n slot reply) = if_mine (u.0 == t) (Gets f.0 n.0 slot reply)
fact t (entry.Ends u f) = if_mine (u.0 == t) (Ends f.0)
fact t (entry.Begins u f e mode session phone) =
    if_mine (u.0 == t) (Begins f.0 e.0 (record { mode = mode; session = session; phone = phone }))
fact t (entry.ExchangeEnds u f e) = if_mine (u.0 == t) (EndsExchange e.0)
fact t (entry.Drops u f e) = if_mine (u.0 == t) (Drops e.0)
fact t _ = Other

-- the facts of task t, the newest first, after these entries, the first of which comes first
abbrev pub facts_onto : ℕ → List Entry → List Fact → List Fact
facts_onto t [] p = p
facts_onto t (e ∷ es) p = facts_onto t es (fact t e ∷ p)

-- what the entries of a list say of task t, the newest first
abbrev pub facts : ℕ → List Entry → List Fact
facts t h = facts_onto t h []
