use Rattle.lru_boxes.proofs.Moves.{begins}
use Rattle.lru_boxes.proofs.tie.DeskTie.new.Goals as goal

pub of_words-requires : goal.of_words-requires
of_words-requires c = begins _
