use Rattle.std.proofs.Common.{◌+◌, ◌++◌, List, drop, get_or, sym, ap, ◌∙◌, subst, arith, append_assoc, append-nil}
use Rattle.std.specs.Io.KnownBytes.{Appends}
use Rattle.std.proofs.lemmas.List.{at_drop_more, drop_all}
use Rattle.lru_lines.specs.declared.pieces.Piece.{Piece}
use Rattle.lru_lines.specs.declared.pieces.Piece.TheVariants.{Number}
use Rattle.lru_lines.specs.Pieces.{piece_text, pieces_text}
use Rattle.lru_lines.proofs.WriteLaws.{appends_then}
use Rattle.lru_lines.proofs.pieces.write_pieces.Goals as goal

pub loop-piece-preserved : goal.loop-piece-preserved
loop-piece-preserved g c =
    let inv = c.loop-piece.invariant in
    let pieces = c.args.pieces.now in
    let place = c.loop-piece.piece-index in
    let piece = get_or pieces place (Number 0) in
    let rest = drop (place + 1) pieces in (
      inv.0 ++ piece_text piece,
      (
        appends_then (g.W.Write.contents c.args.writer.now) (g.W.Write.contents c.loop-piece.writer) (g.W.Write.contents c.write_piece.new.writer) inv.0 (piece_text piece) inv.1.0 c.in_ok-write_piece.ensures.text,
        append_assoc inv.0 (piece_text piece) (pieces_text rest)
            ∙ ap (λ xs. inv.0 ++ xs) (sym (at_drop_more pieces_text pieces place (Number 0) (omega arith)))
            ∙ inv.1.1,
      ),
    )

pub returns-clause-text : goal.returns-clause-text
returns-clause-text g c =
    let inv = c.loop-piece.invariant in
    let pieces = c.args.pieces.now in
    subst (Appends (g.W.Write.contents c.args.writer.now) (g.W.Write.contents c.loop-piece.writer))
    (sym (append-nil inv.0) ∙ ap (λ (ps : List Piece). inv.0 ++ pieces_text ps) (sym (drop_all c.loop-piece.piece-index pieces (omega (arith, c.loop-piece-test.false)))) ∙ inv.1.1)
    inv.1.0
