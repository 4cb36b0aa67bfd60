-- Who is let in after any uses.
use Rattle.std.specs.Prelude.{◌≡◌, ℕ, ◌*◌, ◌<◌, ◌==◌, min, max, true, List, [], All, count_by}
use Rattle.lru_owned_cache.specs.declared.entry.Entry.{Entry}
use Rattle.lru_admission.specs.Sketch.{estimate, fresh, counted_all, since_halving}
use Rattle.lru_admission.specs.Admission.{is_let_in}

-- how often a hash was used since the last halving, of all uses from the first on
abbrev pub uses_since : ℕ → List ℕ → ℕ → ℕ
uses_since entries hashes hash = count_by (λ used. used == hash) (since_halving (10 * max 1 entries) [] hashes)

abbrev pub NeverTurnedAway : Type 0 → Type 0 → Type 0
NeverTurnedAway K V = (hash : K → ℕ) (entries : ℕ) (hashes : List ℕ) (key : K) (gone : List (Entry K V)) →
    All (λ e. estimate (counted_all (fresh entries) hashes) (hash e.key) < min 15 (uses_since entries hashes (hash key))) gone →
    is_let_in hash (counted_all (fresh entries) hashes) key gone ≡ true
