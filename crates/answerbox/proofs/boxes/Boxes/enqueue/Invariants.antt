use Rattle.answerbox.proofs.boxes.Boxes.enqueue.Given as goal

abbrev pub ghosts-admit : goal.ghosts-admit
ghosts-admit a = record { name = a.blank.name; parts = a.blank.parts }
