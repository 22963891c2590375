-- What every run of a script keeps: the laws of calls, of phones, of shared areas, of replies, of exchanges and of
-- services, and no fibril waits for what has been.
use Rattle.std.specs.Prelude.{ℕ, suc, ◌≡◌, ◌++◌, true, List}
use Rattle.ipc_ids.specs.declared.message.Event.{Event}
use Rattle.ipc_ids.specs.declared.entry.Entry.{Entry}
use Rattle.ipc_ids.specs.Laws.{LivesAreLawful, AnsweredAtMostOnce, KillEndsHeldCalls}
use Rattle.ipc_ids.specs.AreaLaw.{AreasAreLawful}
use Rattle.route_laws.specs.PhoneLaw.{CallsGoWherePhonesLead}
use Rattle.ipc_ids.specs.Replies.{RepliesReachTheirFibril}
use Rattle.ipc_ids.specs.Exchanges.{ExchangesAreLawful}
use Rattle.task_ends.specs.EndLaw.{WaitersGetTheSameEnd}
use Rattle.block_server.specs.BlockLaw.{ReadsGiveTheLastWrite}
use Rattle.script_lines.specs.Plan.{Plan}
use Rattle.script_lines.specs.Sound.{has_service}
use Rattle.task_system.specs.Any.{IsBlockServer}
use Rattle.task_system.specs.Run.{start, state_after, run}
use Rattle.run_laws.specs.RunHistory.{beginning, KeepsAllWakes}

-- the entries of a run of this script keep the laws: of a call's life, of one answer, of a kill, of phones, of shared
-- areas, of replies, of exchanges, of ends and of blocks
pub record KeepsLaws (plan : Plan) (h : List Entry) : Type 0 where
  pub lives : LivesAreLawful h
  pub answers : AnsweredAtMostOnce h
  pub kills : KillEndsHeldCalls h
  -- a call goes where its phone leads, by the wires of the script and the entries before it
  pub phones : CallsGoWherePhonesLead (beginning plan) h
  pub areas : AreasAreLawful h
  pub replies : RepliesReachTheirFibril h
  pub exchanges : ExchangesAreLawful h
  -- where the first task is the naming service, who waits for the end of a task is told of it
  pub ends : has_service plan.tasks ≡ true → WaitersGetTheSameEnd 1 h
  -- of each block server, who reads a block is given what was written last
  pub blocks : (i : ℕ) → IsBlockServer i plan.tasks → ReadsGiveTheLastWrite (suc i) h

-- after each event of a run no task with fibrils has lost a wake-up
abbrev pub LosesNoWake : Plan → List Event → Type 0
LosesNoWake plan events =
    (done rest : List Event) → events ≡ done ++ rest → KeepsAllWakes (state_after (start plan) done)

-- the run of a script under a schedule
pub record IsLawfulRun (plan : Plan) (events : List Event) : Type 0 where
  pub laws : KeepsLaws plan (run plan events)
  pub wakes : LosesNoWake plan events
