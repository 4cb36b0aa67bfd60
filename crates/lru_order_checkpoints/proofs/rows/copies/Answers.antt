use Rattle.std.proofs.Common.{ℕ, List, [], ◌∷◌, ◌++◌, sym, ap, ◌∙◌, subst, append_assoc}
use Rattle.lru_frames.specs.Copies.{AreEach}
use Rattle.lru_order_checkpoints.specs.Captures.{IsCopy}
use Rattle.lru_frames.proofs.Copied.{each_more}
use Rattle.lru_order_checkpoints.proofs.rows.copies.Goals as goal

pub loop-pair-preserved : goal.loop-pair-preserved
loop-pair-preserved g c =
    let inv = c.loop-pair.invariant in
    let front : List ((ℕ × g.row.V.Denot) × ℕ) = inv.0 in
    let p : (ℕ × g.row.V.Denot) × ℕ = (c.in-Some.pair.now, c.in-Some.weight) in
    let P = IsCopy g.V.Clone.is_clone in (
      front ++ p ∷ [],
      (
        append_assoc front (p ∷ []) _ ∙ sym (ap (λ z. front ++ z) c.in-Some.ensures.steps) ∙ inv.1.0,
        subst (AreEach P (front ++ p ∷ [])) (sym c.in_ok-push.ensures.items) (each_more P front _ p _ inv.1.1 c.in_ok-copied.ensures),
      ),
    )
