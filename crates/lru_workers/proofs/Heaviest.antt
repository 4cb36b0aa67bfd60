-- The greatest weight among one effect more.
use Rattle.std.proofs.Common.{◌≡◌, ℕ, ◌+◌, ◌<◌, List, length, take, refl, sym, ap, ◌∙◌}
use Rattle.std.specs.Prelude.{max}
use Rattle.std.proofs.Math.ListN.{get_or}
use Rattle.std.proofs.lemmas.List.{take_more}
use Rattle.std.proofs.lemmas.List.Recursion.{max_push}
use Rattle.lru_actors.specs.declared.effect.Effect.{Effect}
use Rattle.lru_workers.specs.Batch.{weight_put, heaviest_put}

pub heaviest_more : {K : Type 0} (es : List (Effect K)) (i : ℕ) (e : Effect K) → i < length es → e ≡ get_or es i e → heaviest_put (take (i + 1) es) ≡ max (heaviest_put (take i es)) (weight_put e)
heaviest_more es i e within is_e =
    ap heaviest_put (take_more es i e within) ∙ max_push heaviest_put weight_put refl (λ _ _. refl) (take i es) (get_or es i e) ∙ ap (λ x. max (heaviest_put (take i es)) (weight_put x)) (sym is_e)
