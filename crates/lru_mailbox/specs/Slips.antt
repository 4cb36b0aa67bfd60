-- Slips: one for each pair that was put into a box, with its number there.
use Rattle.std.specs.Prelude.{◌≡◌, ℕ, ◌+◌, ◌<◌, ◌≤◌, ◌==◌, ◌&&◌, Bool, List, [], ◌∷◌, length, map, count_by, sum_by, if◌then◌else◌, nat_lt, refl}
use Rattle.std.specs.declared.alloc.Global.{Global}
use Rattle.std.specs.Prelude.{Vec}
use Rattle.std.specs.Coded.{Coded, code_by, coded×, coded_ℕ, coded_list}
use Rattle.lru_mailbox.specs.declared.slip.Slip.{Slip}

abbrev pub slip_of : ℕ → ℕ → ℕ → Slip
slip_of number hash weight = record { number = number; hash = hash; weight = weight }

abbrev pub slip_code : Coded Slip
slip_code = code_by (ℕ × (ℕ × ℕ)) (coded× coded_ℕ (coded× coded_ℕ coded_ℕ)) (λ s. (s.number, (s.hash, s.weight))) (λ t. slip_of t.0 t.1.0 t.1.1) (λ _. refl)

-- the same number, hash and weight
abbrev pub is_same : Slip → Slip → Bool
is_same s t = (s.number == t.number) && ((s.hash == t.hash) && (s.weight == t.weight))

-- the slips that one share has, and the room that was made for more
pub record Share : Type 0 where
  pub slips : List Slip
  pub room : ℕ

abbrev pub share_of : List Slip → ℕ → Share
share_of slips room = record { slips = slips; room = room }

abbrev pub share_code : Coded Share
share_code = code_by (List Slip × ℕ) (coded× (coded_list slip_code) coded_ℕ) (λ s. (s.slips, s.room)) (λ t. share_of t.0 t.1) (λ _. refl)

-- what each share has
abbrev pub slips_in : List Share → List (List Slip)
slips_in shares = map (λ s. s.slips) shares

-- the lists in vectors of slips
abbrev pub lists_of : List (Vec Slip Global) → List (List Slip)
lists_of vectors = map (λ v. v.items) vectors

-- P holds of each element
abbrev pub Every : {X : Type 0} → (X → Type 0) → List X → Type 0
Every P [] = Unit {0}
Every P (x ∷ xs) = P x × Every P xs

-- how many slips pass a test, in all lists
abbrev pub count_in : (Slip → Bool) → List (List Slip) → ℕ
count_in p lists = sum_by (λ slips. count_by p slips) lists

-- the numbers rise, from `from` or more on
abbrev pub RisesFrom : ℕ → List Slip → Type 0
RisesFrom from [] = Unit {0}
RisesFrom from (s ∷ ss) = (from ≤ s.number) × RisesFrom (s.number + 1) ss

abbrev pub IsRising : List Slip → Type 0
IsRising slips = RisesFrom 0 slips

-- the numbers are `from`, the next one, and so on
abbrev pub IsRun : ℕ → List Slip → Type 0
IsRun from [] = Unit {0}
IsRun from (s ∷ ss) = (s.number ≡ from) × IsRun (from + 1) ss

abbrev pub IsBelow : ℕ → Slip → Type 0
IsBelow top s = s.number < top

-- What became of the slips that were put, in any number of shares: each was taken, is lost or is left
pub record IsSettled (puts takes : List (List Slip)) (lost left : List Slip) : Type 0 where
  -- they have the numbers below `total`, each once
  pub total : ℕ
  pub numbers : (n : ℕ) → count_in (λ s. s.number == n) puts ≡ (if nat_lt n total then 1 else 0)
  -- each slip stands as often among those taken, lost and left as among those put, with the same hash and weight
  pub stands : (s : Slip) → count_in (is_same s) puts ≡ count_in (is_same s) takes + (count_by (is_same s) lost + count_by (is_same s) left)
  -- numbers in one share rise
  pub puts_rise : Every IsRising puts
  pub takes_rise : Every IsRising takes
  -- those taken are below those left and lost, and those left below those lost
  pub left_from : ℕ
  pub lost_from : ℕ
  pub taken_below : Every (Every (IsBelow left_from)) takes
  pub left_within : Every (λ s. (left_from ≤ s.number) × (s.number < lost_from)) left
  pub lost_above : Every (λ s. (left_from ≤ s.number) × (lost_from ≤ s.number)) lost

-- so many shares, and nothing told in any
pub record AreFresh (count : ℕ) (shares : List Share) : Type 0 where
  pub count_is : length shares ≡ count
  pub empty : Every (λ l. l ≡ []) (slips_in shares)
