use Rattle.std.proofs.Common.{◌+◌, ◌++◌, ◌∷◌, [], ℕ, get_or, drop, sym, ap, ◌∙◌, append_assoc, arith}
use Rattle.std.proofs.lemmas.List.{at_drop_more}
use Rattle.lru_shard_files.specs.declared.snapshot.Keyed.{Keyed}
use Rattle.lru_tool_inside.specs.Replies.{pairs_text, pair_text}
use Rattle.lru_lines.proofs.WriteLaws.{appends_then}
use Rattle.lru_tool_inside.proofs.replies.write_pairs.Goals as goal

pub loop-data-preserved : goal.loop-data-preserved
loop-data-preserved g c =
    let inv = c.loop-data.invariant in
    let pairs = c.args.pairs.now in
    let i = c.loop-data.data-index in
    let none : Keyed × ℕ = (record { key = 0; value = 0 }, 0) in
    let pair = get_or pairs i none in
    let rest = drop (i + 1) pairs in (
      inv.0 ++ pair_text pair,
      (
        appends_then (g.W.Write.contents c.args.writer.now) (g.W.Write.contents c.loop-data.writer) (g.W.Write.contents c.write_pair.new.writer) inv.0 (pair_text pair) inv.1.0 c.in_ok-write_pair.ensures.text,
        append_assoc inv.0 (pair_text pair) (pairs_text rest ++ 10 ∷ [])
            ∙ ap (λ xs. inv.0 ++ xs) (sym (append_assoc (pair_text pair) (pairs_text rest) (10 ∷ [])) ∙ sym (at_drop_more (λ ps. pairs_text ps ++ 10 ∷ []) pairs i none (omega arith)))
            ∙ inv.1.1,
      ),
    )
