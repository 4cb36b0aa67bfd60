use Rattle.lru_inbox.proofs.tie.LogTie.take.Given as goal

abbrev pub ghosts-take_counted : goal.ghosts-take_counted
ghosts-take_counted g a = record { count = a.count }
