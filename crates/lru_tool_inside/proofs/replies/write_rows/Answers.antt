use Rattle.std.proofs.Common.{◌++◌, ◌∷◌, [], ℕ, sym, ap, ◌∙◌, append_assoc}
use Rattle.lru_shard_files.specs.declared.snapshot.Keyed.{Keyed}
use Rattle.lru_tool_inside.specs.Replies.{pairs_text, pair_text}
use Rattle.lru_lines.proofs.WriteLaws.{appends_then}
use Rattle.lru_tool_inside.proofs.replies.write_rows.Goals as goal

pub loop-data-preserved : goal.loop-data-preserved
loop-data-preserved g c =
    let inv = c.loop-data.invariant in
    let pair : Keyed × ℕ = (c.in-Some.«data».now, c.in-Some.weight) in
    let rest = c.next.new.self in (
      inv.0 ++ pair_text pair,
      (
        appends_then (g.W.Write.contents c.args.writer.now) (g.W.Write.contents c.loop-data.writer) (g.W.Write.contents c.write_pair.new.writer) inv.0 (pair_text pair) inv.1.0 c.in_ok-write_pair.ensures.text,
        append_assoc inv.0 (pair_text pair) (pairs_text rest ++ 10 ∷ [])
            ∙ ap (λ xs. inv.0 ++ xs) (sym (append_assoc (pair_text pair) (pairs_text rest) (10 ∷ [])) ∙ ap (λ ps. pairs_text ps ++ 10 ∷ []) (sym c.in-Some.ensures.steps))
            ∙ inv.1.1,
      ),
    )
