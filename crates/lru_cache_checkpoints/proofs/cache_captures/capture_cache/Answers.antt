use Rattle.std.proofs.Common.{ℕ, List, [], ◌∷◌, ◌++◌, refl, sym, ap, ◌∙◌, subst, append_assoc}
use Rattle.lru_frames.specs.Copies.{AreEach, IsEntryCopy}
use Rattle.lru_frames.proofs.Copied.{each_more}
use Rattle.lru_cache_checkpoints.proofs.cache_captures.capture_cache.Goals as goal

pub loop-key-preserved : goal.loop-key-preserved
loop-key-preserved g c =
    let inv = c.loop-key.invariant in
    let front : List (g.row.K.Denot × g.row.V.Denot × ℕ) = inv.0 in
    let p : g.row.K.Denot × g.row.V.Denot × ℕ = (c.in-Some.key.now, c.in-Some.value.now, c.in-Some.weight) in
    let P = IsEntryCopy g.K.Clone.is_clone g.V.Clone.is_clone in (
      front ++ p ∷ [],
      (
        append_assoc front (p ∷ []) _ ∙ sym (ap (λ z. front ++ z) c.in-Some.ensures.steps) ∙ inv.1.0,
        subst (AreEach P (front ++ p ∷ [])) (sym c.in_ok-push.ensures.items) (each_more P front _ p _ inv.1.1 (c.in_ok-key.ensures.cases, (c.in_ok-data.ensures.cases, refl))),
      ),
    )
