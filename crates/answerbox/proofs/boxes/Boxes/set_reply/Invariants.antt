use Rattle.answerbox.proofs.boxes.Boxes.set_reply.Given as goal

abbrev pub ghosts-give : goal.ghosts-give
ghosts-give a = record { name = a.blank.name; parts = a.blank.parts }
