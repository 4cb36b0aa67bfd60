use Rattle.lru_boxes.proofs.tie.DeskTie.note.Given as goal

abbrev pub ghosts-note_said : goal.ghosts-note_said
ghosts-note_said a = record { said = a.said.now }
