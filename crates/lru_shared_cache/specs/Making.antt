-- Which values are being made, by the hashes of their keys.
use Rattle.std.specs.Prelude.{ℕ, Bool, not, nat_eq, List, filter}
use Rattle.std.specs.List.{list_any}
use Rattle.lru_shared_cache.specs.declared.locked.Note.{Note}

abbrev pub note : ℕ → ℕ → Note
note hash number = record { hash = hash; number = number }

-- whether one of this hash is
abbrev pub is_among : List Note → ℕ → Bool
is_among notes hash = list_any (λ n. nat_eq n.hash hash) notes

-- those that are not of this hash
abbrev pub left_of : List Note → ℕ → List Note
left_of notes hash = filter (λ n. not (nat_eq n.hash hash)) notes

-- those that have not this number
abbrev pub left_but : List Note → ℕ → List Note
left_but notes number = filter (λ n. not (nat_eq n.number number)) notes
