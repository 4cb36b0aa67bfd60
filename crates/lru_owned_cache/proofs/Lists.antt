-- Lists, and what a visit of their items in order has shown.
use Rattle.std.proofs.Common.{◌≡◌, List, [], ◌∷◌, ◌++◌, sym, subst}
use Rattle.std.specs.Prelude.{reverse}
use Rattle.std.specs.List.{FoldsTo}
use Rattle.std.proofs.lemmas.Fn.{FoldsTo-push}
use Rattle.std.proofs.lemmas.List.{reverse-append}

module _ {A : Type 0} (a b : A) (xs ys : List A) where
  pub same_head : a ∷ xs ≡ b ∷ ys → a ≡ b
  same_head e = cc

  pub same_tail : a ∷ xs ≡ b ∷ ys → xs ≡ ys
  same_tail e = cc

-- the visit goes on with what is this item
module _ {A F : Type 0} (Step : F → A → F → Type 0) (visit last : F) (shown : List A) (item : A) (after : F) (given : A) (is : given ≡ item) (step : Step last given after) where
  pub shown_more : FoldsTo Step visit shown last → FoldsTo Step visit (shown ++ item ∷ []) after
  shown_more so_far = FoldsTo-push Step visit shown last item after so_far (subst (λ x. Step last x after) is step)

-- also where the items are kept the other way round
pub shown_before : {A F : Type 0} (Step : F → A → F → Type 0) (visit last : F) (shown : List A) (item : A) (after : F) (given : A) → given ≡ item → Step last given after
    → FoldsTo Step visit (reverse shown) last → FoldsTo Step visit (reverse (item ∷ shown)) after
shown_before Step visit last shown item after given is step so_far =
    subst (λ items. FoldsTo Step visit items after) (sym (reverse-append (item ∷ []) shown)) (shown_more Step visit last (reverse shown) item after given is step so_far)
