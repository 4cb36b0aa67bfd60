use Rattle.std.proofs.Common.{map, take}
use Rattle.lru_memory_folder.specs.DeedInside.{noted_of}
use Rattle.lru_memory_folder.specs.ReplayInside.{IsReplay}
use Rattle.lru_memory_folder.proofs.journal.CallJournal.after_loss.Given as goal

-- the calls so far were made again
abbrev pub invariant-loop-ended : goal.invariant-loop-ended
invariant-loop-ended l = IsReplay l.names l.byte (record { begun = l.self.begun; calls = map noted_of (take l.ended-index l.ended-items) }) l.replay
