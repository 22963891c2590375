use Rattle.answerbox.proofs.boxes.Boxes.leave_uncounted.Given as goal

abbrev pub ghosts-leave_with : goal.ghosts-leave_with
ghosts-leave_with a = record { name = a.blank.name; parts = a.blank.parts }
