use Rattle.answerbox.proofs.boxes.Boxes.read.Given as goal

abbrev pub ghosts-read_with : goal.ghosts-read_with
ghosts-read_with a = record { name = a.blank.name; parts = a.blank.parts }
