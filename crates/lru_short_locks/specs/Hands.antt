-- Lists of hands: what they count, and what stands among them.
use Rattle.std.specs.Prelude.{◌≡◌, ℕ, zero, suc, ◌+◌, ◌==◌, if◌then◌else◌, List, [], ◌∷◌, ◌⊎◌}
use Rattle.atomic_table.specs.Seated.{TableId}

-- the name of no table
abbrev pub no_table : TableId
no_table = record { words = 0; slots = 0; views_name = 0; atom = 0; block = 0; offset = 0; slot_names = [] }

-- f of each, added up
abbrev pub total : {A : Type 0} → (A → ℕ) → List A → ℕ
total f [] = 0
total f (x ∷ xs) = f x + total f xs

-- how often x stands there
abbrev pub times : ℕ → List ℕ → ℕ
times x xs = total (λ y. if y == x then 1 else 0) xs

-- so many numbers, from this one up
abbrev pub up : ℕ → ℕ → List ℕ
up from zero = []
up from (suc count) = from ∷ up (suc from) count

abbrev pub Among : {A : Type 0} → A → List A → Type 0
Among x [] = ⊥
Among x (y ∷ ys) = (x ≡ y) ⊎ Among x ys

-- it stands in such a list of some hand
abbrev pub Held : {Hand A : Type 0} → (Hand → List A) → A → List Hand → Type 0
Held f x [] = ⊥
Held f x (v ∷ vs) = Among x (f v) ⊎ Held f x vs
