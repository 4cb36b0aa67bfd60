use Rattle.std.proofs.Common.{◌≡◌, ◌++◌, List, ℕ, drop}
use Rattle.std.specs.Io.KnownBytes.{Appends}
use Rattle.lru_lines.specs.Pieces.{pieces_text}
use Rattle.lru_lines.proofs.pieces.write_pieces.Given as goal

-- what is written so far, and what is still to be
abbrev pub invariant-loop-piece : goal.invariant-loop-piece
invariant-loop-piece g l =
    (done : List ℕ) × (Appends (g.W.Write.contents l.fn.writer) (g.W.Write.contents l.writer) done × (done ++ pieces_text (drop l.piece-index l.pieces) ≡ pieces_text l.pieces))
