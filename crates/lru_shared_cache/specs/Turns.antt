-- All shards in turn, and a closure that goes on from one to the next in the state in which that one left it.
use Rattle.std.specs.Prelude.{◌≡◌, ℕ, zero, suc}

-- the shards with the numbers below this are changed one after another, from shard 0 on, each from the state in which the one before left the closure, and the others stay. `does` says what is known of all shards where one of them is changed so
abbrev pub InTurn : {F S T : Type 0} → (T → ℕ → (S → S → Type 0) → T → Type 0) → (F → S → F → S → Type 0) → ℕ → T → F → F → T → Type 0
InTurn does Step zero old visit left new = (new ≡ old) × (left ≡ visit)
InTurn {F} {S} {T} does Step (suc n) old visit left new = (mid : T) × ((state : F) × (InTurn does Step n old visit state mid × does mid n (λ before after. Step state before left after) new))

-- the same where the closure stays as it is
abbrev pub EachInTurn : {S T : Type 0} → (T → ℕ → (S → S → Type 0) → T → Type 0) → (S → S → Type 0) → ℕ → T → T → Type 0
EachInTurn does P zero old new = new ≡ old
EachInTurn {S} {T} does P (suc n) old new = (mid : T) × (EachInTurn does P n old mid × does mid n P new)

-- a closure goes on over the numbers below this, one after another from 0 on, at each from the state in which the one before left it
abbrev pub GoesOn : {F : Type 0} → (ℕ → F → F → Type 0) → ℕ → F → F → Type 0
GoesOn Step zero visit left = left ≡ visit
GoesOn {F} Step (suc n) visit left = (state : F) × (GoesOn Step n visit state × Step n state left)
