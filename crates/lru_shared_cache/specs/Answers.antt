-- What the answers of a shared cache say by themselves, where nothing is known of the entries that other threads may change.
use Rattle.std.specs.Prelude.{◌≡◌, ℕ, Result, Ok, Err}
use Rattle.std.specs.Borrow.{Bor}
use Rattle.lru_shared_cache.specs.declared.calls.NotGot.{NotGot}
use Rattle.lru_shared_cache.specs.declared.calls.NotGot.TheVariants.{Memory, Unmade, Refused as Unput}

-- what is handed back where no value is answered: the key, and what was made
abbrev pub HandsBack : {K V E : Type 0} → (Result (V × ℕ) E → Type 0) → K → NotGot K V E → Type 0
HandsBack Makes key (Memory k) = k ≡ key
HandsBack Makes key (Unmade k e) = (k ≡ key) × Makes (Err e)
HandsBack {K} {V} Makes key (Unput r) = (r.key ≡ key) × ((weight : ℕ) × Makes (Ok (r.value, weight)))

-- a closure that was lent a value may have answered this
abbrev pub MayShow : {V R : Type 0} → (Bor V → R → Type 0) → R → Type 0
MayShow {V} post answer = (lent : Bor V) × post lent answer
