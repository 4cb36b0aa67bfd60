use Rattle.std.specs.Prelude.{MatchOption}
use Rattle.std.proofs.Common.{subst}
use Rattle.lru_memory_folder.specs.HeldInside.{files_in}
use Rattle.lru_memory_folder.specs.ReplayInside.{KeepsAll, HasChosen}
use Rattle.lru_memory_folder.proofs.KeptLemmas.{marked_chosen, marked_all}
use Rattle.lru_memory_folder.proofs.replay.Replay.into_lost.Goals as goal

pub returns-in-Some : goal.returns-in-Some
returns-in-Some c = λ h names byte r. marked_chosen names byte h _
    (subst (λ o. MatchOption o (KeepsAll names h.calls c.args.self.names_left) (λ files. HasChosen names byte h (files_in files.entries))) c.in-Some.is r.chosen)

pub returns : goal.returns
returns c = λ h names byte r. marked_all names byte c.args.self.names_left h (files_in c.args.self.lost.entries)
    (subst (λ o. MatchOption o (KeepsAll names h.calls c.args.self.names_left) (λ files. HasChosen names byte h (files_in files.entries))) c.in-None.is r.chosen) r.lost
