use Rattle.lru_inbox.proofs.tie.LogTie.show.Given as goal

abbrev pub ghosts-show_counted : goal.ghosts-show_counted
ghosts-show_counted g a = record { count = a.count }
