-- The rows of a shard as a list of hashes beside a list of pairs.
use Rattle.std.proofs.Common.{◌≡◌, ℕ, List, [], ◌∷◌, length, map, suc, refl, sym, ap, ◌∙◌}
use Rattle.std.specs.List.{zip}
use Rattle.lru_shard.specs.Row.{Row, pair_of}
use Rattle.lru_actors.specs.Messages.{listed}

pub zip_length : {A B : Type 0} (xs : List A) (ys : List B) → length xs ≡ length ys → length (zip xs ys) ≡ length xs
zip_length [] ys e = refl
zip_length (x ∷ xs) [] e = cc
zip_length (x ∷ xs) (y ∷ ys) e = let f : length xs ≡ length ys = cc in ap suc (zip_length xs ys f)

pub zip_listed : {K : Type 0} (rows : List (Row K)) → zip (map (λ (r : Row K). r.key) rows) (map pair_of rows) ≡ map listed rows
zip_listed [] = refl
zip_listed (r ∷ rows) = ap (λ l. listed r ∷ l) (zip_listed rows)
