-- One copy more.
use Rattle.std.proofs.Common.{List, [], ◌∷◌, ◌++◌}
use Rattle.lru_frames.specs.Copies.{AreEach}

module _ {A B : Type 0} (P : A → B → Type 0) where
  pub each_more : (xs : List A) (ys : List B) (x : A) (y : B) → AreEach P xs ys → P x y → AreEach P (xs ++ x ∷ []) (ys ++ y ∷ [])
  each_more [] [] x y h p = (p, tt)
  each_more [] (b ∷ ys) x y h p = absurd h
  each_more (a ∷ xs) [] x y h p = absurd h
  each_more (a ∷ xs) (b ∷ ys) x y h p = (h.0, each_more xs ys x y h.1 p)
