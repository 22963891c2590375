use Rattle.answerbox.proofs.boxes.Boxes.first_of.Given as goal

abbrev pub ghosts-first_of_with : goal.ghosts-first_of_with
ghosts-first_of_with a = record { name = a.blank.name; parts = a.blank.parts }
