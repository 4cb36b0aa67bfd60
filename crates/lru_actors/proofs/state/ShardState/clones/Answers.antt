use Rattle.std.proofs.Common.{ℕ, List, [], ◌∷◌, ◌++◌, refl, sym, ap, ◌∙◌, subst, append_assoc}
use Rattle.lru_actors.specs.Messages.{AreClones}
use Rattle.lru_actors.proofs.Rows.{clones_more}
use Rattle.lru_actors.proofs.state.ShardState.clones.Goals as goal

pub loop-key-preserved : goal.loop-key-preserved
loop-key-preserved g c =
    let inv = c.loop-key.invariant in
    let front : List (g.row.K.Denot × ℕ) = inv.0 in
    let p : g.row.K.Denot × ℕ = (c.in-Some.key.now, c.in-Some.weight) in (
      front ++ p ∷ [],
      (
        append_assoc front (p ∷ []) _ ∙ sym (ap (λ z. front ++ z) c.in-Some.ensures.steps) ∙ inv.1.0,
        subst (AreClones g.K.Clone.is_clone (front ++ p ∷ [])) (sym c.in_ok-push.ensures.items) (clones_more g.K.Clone.is_clone front _ p _ inv.1.1 c.in_ok-clone.ensures.cases refl),
      ),
    )
