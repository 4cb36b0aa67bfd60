-- A cache whose uses are counted, and who is let in.
use Rattle.std.specs.Prelude.{◌≡◌, ℕ, ◌-◌, ◌<◌, ◌≤◌, Bool, true, false, nat_lt, List, Option, None, Result, Ok, Err, refl}
use Rattle.std.specs.List.{list_all}
use Rattle.std.specs.Coded.{Coded, code_by, coded×}
use Rattle.lru_owned_cache.specs.declared.entry.Entry.{Entry}
use Rattle.lru_owned_cache.specs.Cache.{Cached, cached_code, entry_of, without, Leaves, Puts}
use Rattle.lru_admission.specs.Sketch.{Counted, counted_code, estimate}
use Rattle.lru_admission.specs.declared.admission.NotAdmitted.{NotAdmitted}
use Rattle.lru_admission.specs.declared.admission.NotAdmitted.TheVariants.{Rarer, Refused}

-- a cache, and how often its keys were used
pub record Watched (K V S : Type 0) : Type 0 where
  pub cache : Cached K V S
  pub sketch : Counted

abbrev pub watched : {K V S : Type 0} → Cached K V S → Counted → Watched K V S
watched cache sketch = record { cache = cache; sketch = sketch }

abbrev pub watched_code : {K V S : Type 0} → Coded K → Coded V → Coded S → Coded (Watched K V S)
watched_code {K} {V} {S} key value hashes =
    code_by (Cached K V S × Counted) (coded× (cached_code key value hashes) counted_code) (λ w. (w.cache, w.sketch)) (λ p. watched p.0 p.1) (λ _. refl)

module _ {K V : Type 0} where
  -- each of these entries was used less often than so many times, as far as is known, where keys have these hashes
  abbrev pub all_rarer : (K → ℕ) → Counted → ℕ → List (Entry K V) → Bool
  all_rarer hash sketch count gone = list_all (λ e. nat_lt (estimate sketch (hash e.key)) count) gone

  -- who is let in: a key that was used more often than each entry that would have to go
  abbrev pub is_let_in : (K → ℕ) → Counted → K → List (Entry K V) → Bool
  is_let_in hash sketch key gone = all_rarer hash sketch (estimate sketch (hash key)) gone

  -- the answer whether all entries that go, for the others to be within limits, were used less often than so many times
  abbrev pub AsksVictims : (K → ℕ) → Counted → List (Entry K V) → ℕ → ℕ → ℕ → Bool → Type 0
  AsksVictims hash sketch entries count w n answer =
      (front : List (Entry K V)) × ((gone : List (Entry K V)) × (Leaves w n entries front gone × (answer ≡ all_rarer hash sketch count gone)))

  module _ (eq : K → K → Bool) (hash : K → ℕ) where
    -- an entry of this weight is let in: whatever the entries are that would have to go, where the key has none
    abbrev pub LetsIn : {S : Type 0} → Watched K V S → K → ℕ → Type 0
    LetsIn old k w = (front gone : List (Entry K V)) → entry_of eq old.cache.entries k ≡ None →
        Leaves (old.cache.most_weight - w) (old.cache.most_entries - 1) (without eq old.cache.entries k) front gone → is_let_in hash old.sketch k gone ≡ true

    -- it is not: its key has no entry, it fits by itself, and of those that would have to go one was used as often
    pub record TurnsAway {S : Type 0} (old : Watched K V S) (k : K) (w : ℕ) : Type 0 where
      pub new_key : entry_of eq old.cache.entries k ≡ None
      pub light : w ≤ old.cache.most_weight
      pub some : 0 < old.cache.most_entries
      pub front : List (Entry K V)
      pub gone : List (Entry K V)
      pub leaves : Leaves (old.cache.most_weight - w) (old.cache.most_entries - 1) (without eq old.cache.entries k) front gone
      pub rarer : is_let_in hash old.sketch k gone ≡ false

    -- whether it may enter: an entry that does not fit by itself is the cache's to refuse
    abbrev pub MayEnter : {S : Type 0} → Watched K V S → K → ℕ → Bool → Type 0
    MayEnter old k w true = w ≤ old.cache.most_weight → 0 < old.cache.most_entries → LetsIn old k w
    MayEnter old k w false = TurnsAway old k w

    -- an entry is put as into any cache, where it is let in. Else key and value are handed back, and nothing has changed
    abbrev pub PutsIfAsked : {F S : Type 0} → (F → Entry K V → F → Type 0) → F → Watched K V S → K → V → ℕ → Result (Option (Entry K V)) (NotAdmitted K V) → Watched K V S → Type 0
    PutsIfAsked Step visit old k v w (Ok was) new = LetsIn old k w × (Puts eq Step visit old.cache k v w (Ok was) new.cache × (new.sketch ≡ old.sketch))
    PutsIfAsked Step visit old k v w (Err (Refused r)) new = Puts eq Step visit old.cache k v w (Err r) new.cache × (new ≡ old)
    PutsIfAsked Step visit old k v w (Err (Rarer key value)) new = TurnsAway old k w × ((key ≡ k) × ((value ≡ v) × (new ≡ old)))
