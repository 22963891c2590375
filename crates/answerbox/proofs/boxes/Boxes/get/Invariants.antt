use Rattle.answerbox.proofs.boxes.Boxes.get.Given as goal

abbrev pub ghosts-get_with : goal.ghosts-get_with
ghosts-get_with a = record { name = a.blank.name; parts = a.blank.parts }
