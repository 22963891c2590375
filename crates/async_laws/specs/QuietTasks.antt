-- A list of entries that tells of no fibril of a task: the task's program runs none, or there is no
-- such task.
use Rattle.std.specs.Prelude.{ℕ, ◌≡◌, None, List, [], ◌∷◌, ⊤}
use Rattle.ipc_ids.specs.declared.entry.Entry.{Entry}
use Rattle.ipc_ids.specs.Facts.{Fact, Other, fact, facts}
use Rattle.ipc_ids.specs.Replies.{sent, RepliesWereLawful}
use Rattle.ipc_ids.specs.Exchanges.{ExchangesWereLawful}

-- no fact is a call that a fibril sent, and so each was lawful
pub record HasNoFibril (p : List Fact) : Type 0 where
  pub unsent : (n : ℕ) → sent n p ≡ None
  pub replies : RepliesWereLawful p
  pub exchanges : ExchangesWereLawful p

-- the entries say so of task t
abbrev pub TellsOfNoFibril : List Entry → ℕ → Type 0
TellsOfNoFibril h t = HasNoFibril (facts t h)

-- these entries say nothing of task t
abbrev pub AreSilent : ℕ → List Entry → Type 0
AreSilent t [] = ⊤
AreSilent t (e ∷ es) = (fact t e ≡ Other) × AreSilent t es
