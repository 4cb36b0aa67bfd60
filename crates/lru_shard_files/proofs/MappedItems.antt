-- A list that gets the items of another one by one, each seen by f.
use Rattle.std.proofs.Common.{◌≡◌, ℕ, ◌+◌, ◌<◌, ◌≤◌, List, [], ◌∷◌, ◌++◌, length, take, get_or, sym, ap, ◌∙◌}
use Rattle.std.specs.Prelude.{map}
use Rattle.std.proofs.lemmas.List.{take_all}
use Rattle.lru_shard_files.proofs.SnapshotLoadLemmas.{map_take_more}

module _ {X Y : Type 0} (f : X → Y) (xs : List X) (i : ℕ) (ys : List Y) (done : ys ≡ map f (take i xs)) where
  pub mapped_more : (d : X) (y : Y) (new : List Y) → i < length xs → y ≡ f (get_or xs i d) → new ≡ ys ++ y ∷ [] → new ≡ map f (take (i + 1) xs)
  mapped_more d y new lt one more = more ∙ (λ j. done j ++ one j ∷ []) ∙ sym (map_take_more f xs i d lt)

  pub mapped_all : length xs ≤ i → ys ≡ map f xs
  mapped_all le = done ∙ ap (λ zs. map f zs) (take_all i xs le)
