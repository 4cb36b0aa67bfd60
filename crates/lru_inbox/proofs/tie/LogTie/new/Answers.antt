use Rattle.lru_inbox.proofs.Moves.{begins}
use Rattle.lru_inbox.proofs.tie.LogTie.new.Goals as goal

pub of_words-requires : goal.of_words-requires
of_words-requires g c = begins _ _
