use Rattle.std.proofs.Common.{[], ◌∷◌}
use Rattle.lru_inbox.proofs.tie.LogTie.put.Given as goal

abbrev pub ghosts-put_said : goal.ghosts-put_said
ghosts-put_said g a = record { said = a.said.now ∷ [] }
