use Rattle.script_reader.proofs.recent.RecentTasks.named_in.Goals as goal

pub returns-in-Some : goal.returns-in-Some
returns-in-Some c = λ names both. c.in-Some.ensures names both.0

pub returns-in-None : goal.returns-in-None
returns-in-None c = λ names both. c.named_by-in-None.ensures names both.1
