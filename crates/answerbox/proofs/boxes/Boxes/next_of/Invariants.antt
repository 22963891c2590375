use Rattle.answerbox.proofs.boxes.Boxes.next_of.Given as goal

abbrev pub ghosts-next_of_with : goal.ghosts-next_of_with
ghosts-next_of_with a = record { name = a.blank.name; parts = a.blank.parts }
