use Rattle.lru_memory_folder.specs.HeldInside.{files_in}
use Rattle.lru_memory_folder.proofs.KeptLemmas.{keeps_start, marked_start}
use Rattle.lru_memory_folder.proofs.replay.Replay.new.Goals as goal

pub returns : goal.returns
returns c = λ byte. record {
  held = c.in_ok-copy_all.ensures;
  lost = marked_start byte (files_in c.args.begun.now.entries) _ c.in_ok-copy_all-2.ensures;
  chosen = keeps_start c.args.names;
}
