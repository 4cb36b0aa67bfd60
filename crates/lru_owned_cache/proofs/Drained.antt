-- All rows go, the first first.
use Rattle.std.proofs.Common.{◌≡◌, ℕ, [], ap, ◌∙◌, subst, arith}
use Rattle.std.specs.List.{FoldsTo}
use Rattle.lru_rows.specs.Rows.{Recency}
use Rattle.lru_owned_cache.specs.declared.entry.Entry.{Entry}
use Rattle.lru_owned_cache.specs.Cache.{Cached, with_entries, Drains}
use Rattle.lru_owned_cache.specs.Representation.{cached_in}
use Rattle.lru_owned_cache.specs.Partings.{DrainsRows}

pub drains : {K V F S : Type 0} (Step : F → Entry K V → F → Type 0) (visit : F) (r r' : Recency K V) → DrainsRows Step visit r r' → (hashes : S) (most_weight most_entries : ℕ) (c : Cached K V S) → cached_in r hashes most_weight most_entries ≡ c →
    Drains Step visit c (cached_in r' hashes most_weight most_entries)
drains {K} {V} {F} {S} Step visit r r' d hashes most_weight most_entries c view = (
  (d.last, subst (λ es. FoldsTo Step visit es d.last) (ap (λ (x : Cached K V S). x.entries) view) d.shown),
  ap (λ x. cached_in x hashes most_weight most_entries) d.left
      ∙ ap (λ n. record { entries = []; places = n; most_weight = most_weight; most_entries = most_entries; hashes = hashes }) (omega arith)
      ∙ ap (λ (x : Cached K V S). with_entries x []) view,
)
