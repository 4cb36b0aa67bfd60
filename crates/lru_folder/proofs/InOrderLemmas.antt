-- One step more in order.
use Rattle.std.proofs.Common.{◌≡◌, ◌+◌, ℕ, suc, List, [], ◌∷◌, ◌++◌, length, refl, subst, arith}
use Rattle.lru_folder.specs.Folder.{InOrder}

pub in_order-push : {F T : Type 0} (Step : ℕ → T → F → F → Type 0) (n at : ℕ) (ts : List T) (t : T) (old mid new : F) → at ≡ length ts + n
    → InOrder Step n ts old mid → Step at t mid new → InOrder Step n (ts ++ t ∷ []) old new
in_order-push Step n at [] t old mid new is so_far step =
    let here : at ≡ n = omega arith in
    (new, subst (λ f. Step n t f new) so_far (subst (λ k. Step k t mid new) here step), refl)
in_order-push Step n at (first ∷ ts) t old mid new is so_far step =
    let later : at ≡ length ts + suc n = omega arith in
    (so_far.0, so_far.1, in_order-push Step (suc n) at ts t so_far.0 mid new later so_far.2 step)
