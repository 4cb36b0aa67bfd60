use Rattle.std.proofs.Common.{[], ◌∷◌}
use Rattle.lru_inbox.proofs.tie.LogTie.send.Given as goal

abbrev pub ghosts-send_said : goal.ghosts-send_said
ghosts-send_said g a = record { said = a.said.now ∷ [] }
