use Rattle.answerbox.proofs.boxes.Boxes.go_by.Given as goal

abbrev pub ghosts-go_by_with : goal.ghosts-go_by_with
ghosts-go_by_with g a = record { name = a.blank.name; parts = a.blank.parts }
