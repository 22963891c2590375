use Rattle.answerbox.proofs.boxes.Boxes.lose_caller.Given as goal

abbrev pub ghosts-lose_caller_with : goal.ghosts-lose_caller_with
ghosts-lose_caller_with a = record { name = a.blank.name; parts = a.blank.parts }
