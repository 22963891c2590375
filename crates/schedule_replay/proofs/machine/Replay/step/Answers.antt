use Rattle.std.proofs.Common.{ap}
use Rattle.schedule_replay.specs.Replay.{ReplayState}
use Rattle.run_laws.proofs.RunHistories.{kept_by}
use Rattle.schedule_replay.proofs.machine.Replay.step.Goals as goal

pub returns-in-Ok-clause-history : goal.returns-in-Ok-clause-history
returns-in-Ok-clause-history c = λ b h told.
    kept_by b h c.self.inside.system c.args.self.now.state c.turn.new.self c.args.event.now
    (ap (λ (r : ReplayState). r.state) c.self.view_is)
    c.in-Ok.ensures.state
    c.requires.may
    told
