-- How counts are told apart from others.
use Rattle.std.specs.Prelude.{ℕ, refl}
use Rattle.std.specs.Coded.{Coded, code_by, coded×, coded_ℕ}
use Rattle.lru_shared_cache.specs.declared.counts.Left.{Left}
use Rattle.lru_shared_cache.specs.declared.counts.Counts.{Counts}
use Rattle.lru_shared_cache.specs.declared.counts.Counted.{Counted}

abbrev pub left_code : Coded Left
left_code = code_by (ℕ × ℕ) (coded× coded_ℕ coded_ℕ) (λ l. (l.entries, l.weight)) (λ p. record { entries = p.0; weight = p.1 }) (λ _. refl)

abbrev pub counts_code : Coded Counts
counts_code =
    code_by (ℕ × (ℕ × (ℕ × (ℕ × (Left × (Left × (Left × (Left × Left))))))))
    (coded× coded_ℕ (coded× coded_ℕ (coded× coded_ℕ (coded× coded_ℕ (coded× left_code (coded× left_code (coded× left_code (coded× left_code left_code))))))))
    (λ c. (c.hits, (c.misses, (c.puts, (c.refusals, (c.replaced, (c.for_room, (c.past, (c.removed, c.cleared)))))))))
    (λ p. record { hits = p.0; misses = p.1.0; puts = p.1.1.0; refusals = p.1.1.1.0; replaced = p.1.1.1.1.0; for_room = p.1.1.1.1.1.0; past = p.1.1.1.1.1.1.0; removed = p.1.1.1.1.1.1.1.0; cleared = p.1.1.1.1.1.1.1.1 })
    (λ _. refl)

abbrev pub counted_code : {C : Type 0} → Coded C → Coded (Counted C)
counted_code {C} cache = code_by (C × Counts) (coded× cache counts_code) (λ c. (c.cache, c.counts)) (λ p. record { cache = p.0; counts = p.1 }) (λ _. refl)
