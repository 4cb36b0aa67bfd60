-- The rows that stay, by what a test answers.
use Rattle.std.proofs.Common.{◌≡◌, ℕ, ◌+◌, ◌≤◌, List, [], ◌∷◌, ◌++◌, length, map, cond, sym, ap, ◌∙◌, arith}
use Rattle.std.specs.Prelude.{filter, Bool, min}
use Rattle.std.specs.Borrow.{Bor}
use Rattle.std.proofs.lemmas.List.Sums.{sum_by-cons, sum_by-append}
use Rattle.std.proofs.lemmas.List.{length-append}
use Rattle.lru_rows.specs.Rows.{Recency}
use Rattle.lru_owned_cache.specs.declared.entry.Entry.{Entry}
use Rattle.lru_owned_cache.specs.Entries.{weight_of, kept_of, weight_in}
use Rattle.lru_owned_cache.specs.Cache.{Cached, Retains, RetainsLast, with_entries}
use Rattle.lru_owned_cache.specs.Representation.{cached_in, IsKept}
use Rattle.lru_owned_cache.specs.Partings.{RetainsLastRows, RetainsRows}
use Rattle.lru_owned_cache.proofs.Rows.{by_bool, weight-entries, length-entries}

module _ {K V : Type 0} where
  -- what stays is no heavier and no longer
  kept_light : (asked : List (Entry K V × Bool)) → weight_of (kept_of asked) ≤ weight_of (map (λ a. a.0) asked)
  kept_light [] = omega arith
  kept_light (a ∷ rest) =
      by_bool a.1
      (λ is. omega (
        arith,
        kept_light rest,
        ap (λ b. weight_of (map (λ (x : Entry K V × Bool). x.0) (cond b (a ∷ filter (λ (x : Entry K V × Bool). x.1) rest) (filter (λ (x : Entry K V × Bool). x.1) rest)))) is,
        sum_by-cons (λ (e : Entry K V). e.weight) a.0 (kept_of rest),
        sum_by-cons (λ (e : Entry K V). e.weight) a.0 (map (λ (x : Entry K V × Bool). x.0) rest),
      ))
      (λ is. omega (
        arith,
        kept_light rest,
        ap (λ b. weight_of (map (λ (x : Entry K V × Bool). x.0) (cond b (a ∷ filter (λ (x : Entry K V × Bool). x.1) rest) (filter (λ (x : Entry K V × Bool). x.1) rest)))) is,
        sum_by-cons (λ (e : Entry K V). e.weight) a.0 (map (λ (x : Entry K V × Bool). x.0) rest),
      ))

  kept_few : (asked : List (Entry K V × Bool)) → length (kept_of asked) ≤ length (map (λ a. a.0) asked)
  kept_few [] = omega arith
  kept_few (a ∷ rest) =
      by_bool a.1
      (λ is. omega (arith, kept_few rest, ap (λ b. length (map (λ (x : Entry K V × Bool). x.0) (cond b (a ∷ filter (λ (x : Entry K V × Bool). x.1) rest) (filter (λ (x : Entry K V × Bool). x.1) rest)))) is))
      (λ is. omega (arith, kept_few rest, ap (λ b. length (map (λ (x : Entry K V × Bool). x.0) (cond b (a ∷ filter (λ (x : Entry K V × Bool). x.1) rest) (filter (λ (x : Entry K V × Bool). x.1) rest)))) is))

-- what the cache is then
module _ {K V F : Type 0} (step : F → Bor K → Bor V → ℕ → Bool → F → Type 0) (keep : F) (r r' : Recency K V) (s : RetainsRows step keep r r') where
  pub retains : {S : Type 0} (hashes : S) (most_weight most_entries : ℕ) (c : Cached K V S) → cached_in r hashes most_weight most_entries ≡ c → Retains step keep c (cached_in r' hashes most_weight most_entries)
  retains {S} hashes most_weight most_entries c view = record {
    asked = s.asked;
    left = s.left;
    all = s.all ∙ ap (λ (x : Cached K V S). x.entries) view;
    called = s.called;
    kept =
        ap (λ es. record { entries = es; places = length r'.rows + r'.free; most_weight = most_weight; most_entries = most_entries; hashes = hashes }) s.kept
        ∙ ap (λ n. record { entries = kept_of s.asked; places = n; most_weight = most_weight; most_entries = most_entries; hashes = hashes })
        (omega (arith, s.free_is, ap length s.kept, length-entries r'.rows))
        ∙ ap (λ (x : Cached K V S). with_entries x (kept_of s.asked)) view;
  }

  pub kept_retained : (most_weight most_entries used used' : ℕ) → IsKept r used most_weight most_entries → used' ≡ weight_in r'.rows → IsKept r' used' most_weight most_entries
  kept_retained most_weight most_entries used used' was is = record {
    used_is = is;
    light = omega (arith, is, was.light, was.used_is, weight-entries r'.rows, ap weight_of s.kept, kept_light s.asked, ap weight_of s.all, weight-entries r.rows);
    few = omega (arith, was.few, length-entries r'.rows, ap length s.kept, kept_few s.asked, ap length s.all, length-entries r.rows);
  }

module _ {K V F G : Type 0} (step : F → Bor K → Bor V → ℕ → Bool → F → Type 0) (keep : F) (Step : G → Entry K V → G → Type 0) (visit : G) (most : ℕ) (r r' : Recency K V) (s : RetainsLastRows step keep Step visit most r r') where
  pub retains_last : {S : Type 0} (hashes : S) (most_weight most_entries : ℕ) (c : Cached K V S) → cached_in r hashes most_weight most_entries ≡ c → RetainsLast step keep Step visit most c (cached_in r' hashes most_weight most_entries)
  retains_last {S} hashes most_weight most_entries c view = record {
    front = s.front;
    asked = s.asked;
    left = s.left;
    all = ap (λ (x : Cached K V S). x.entries) (sym view) ∙ s.all;
    many = s.many ∙ ap (min most) (sym (length-entries r.rows) ∙ ap (λ (x : Cached K V S). length x.entries) view);
    called = s.called;
    shown = s.shown;
    kept =
        ap (λ es. record { entries = es; places = length r'.rows + r'.free; most_weight = most_weight; most_entries = most_entries; hashes = hashes }) s.kept
        ∙ ap (λ n. record { entries = s.front ++ kept_of s.asked; places = n; most_weight = most_weight; most_entries = most_entries; hashes = hashes })
        (omega (arith, s.free_is, ap length s.kept, length-entries r'.rows))
        ∙ ap (λ (x : Cached K V S). with_entries x (s.front ++ kept_of s.asked)) view;
  }

  pub kept_retained_last : (most_weight most_entries used used' : ℕ) → IsKept r used most_weight most_entries → used' ≡ weight_in r'.rows → IsKept r' used' most_weight most_entries
  kept_retained_last most_weight most_entries used used' was is = record {
    used_is = is;
    light = omega (
      arith,
      is,
      was.light,
      was.used_is,
      weight-entries r'.rows,
      ap weight_of s.kept,
      sum_by-append (λ (e : Entry K V). e.weight) s.front (kept_of s.asked),
      kept_light s.asked,
      ap weight_of s.all,
      sum_by-append (λ (e : Entry K V). e.weight) s.front (map (λ (a : Entry K V × Bool). a.0) s.asked),
      weight-entries r.rows,
    );
    few = omega (
      arith,
      was.few,
      length-entries r'.rows,
      ap length s.kept,
      length-append s.front (kept_of s.asked),
      kept_few s.asked,
      ap length s.all,
      length-append s.front (map (λ (a : Entry K V × Bool). a.0) s.asked),
      length-entries r.rows,
    );
  }
