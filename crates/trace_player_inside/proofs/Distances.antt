-- Laws of distances: where every object has the size 1, a limit keeps the first of the objects that were used, and so a
-- request finds its object where fewer others than the limit were used since.
use Rattle.std.proofs.Common.{◌≡◌, zero, suc, ℕ, ◌+◌, ◌-◌, ◌%◌, ◌^◌, ◌<◌, ◌≤◌, Bool, true, false, cond, not, eqb, List, [], ◌∷◌, length, take, map, Some, None, refl, sym, ap, ◌∙◌, arith, inl, inr}
use Rattle.std.specs.Prelude.{Option, is_some, option_map, nat_lt, nat_le, if◌then◌else◌}
use Rattle.std.proofs.lemmas.Bool.{cases_Bool, cases_lt, cond-true, cond-false, lt-ltb, le-ltb, le-leb, lt-leb}
use Rattle.std.proofs.lemmas.List.{take-take, take_all}
use Rattle.std.proofs.lemmas.List.Sums.{sum_by-take-le}
use Rattle.lru_shard.specs.Row.{Row, row, row_of, is_held, times, without, HasDistinctKeys}
use Rattle.lru_shard.proofs.Rows.{times_yes, times-cons, without_absent, distinct-first}
use Rattle.trace_player_inside.specs.declared.player.Request.{Request}
use Rattle.trace_player_inside.specs.declared.player.Tally.{Tally}
use Rattle.trace_player_inside.specs.Traces.{Rows, load, front, let_in, kept_after, tally_after, played_on, played, no_tally, distance, is_near, near_on, near}
use Rattle.trace_player_inside.proofs.Windows.{Ones, OneSizes, load_one, ones_without, kept, kept_none, let_all, small_mod, used}

is_near_more : (limit : ℕ) (o : Option ℕ) → is_near limit o ≡ is_near (suc limit) (option_map (λ n. suc n) o)
is_near_more limit None = refl
is_near_more limit (Some n) =
    elim (cases_lt n limit) [
      | inl h ↦ lt-ltb n limit h ∙ sym (lt-ltb (suc n) (suc limit) (omega (arith, h)))
      | inr h ↦ le-ltb n limit h ∙ sym (le-ltb (suc n) (suc limit) (omega (arith, h)))
    ]

none_near : (o : Option ℕ) → is_near 0 o ≡ false
none_near None = refl
none_near (Some n) = le-ltb n 0 (omega arith)

-- a key is among the first where it is near
near_held : (limit : ℕ) (rows : Rows) (k : ℕ) → is_held (take limit rows) k ≡ is_near limit (distance rows k)
near_held zero rows k = sym (none_near (distance rows k))
near_held (suc limit) [] k = refl
near_held (suc limit) (r ∷ rows) k =
    elim (cases_Bool (eqb r.key k)) [
      | inl t ↦ ap (λ b. is_some (cond b (Some r) (row_of (take limit rows) k))) t
          ∙ sym (ap (λ b. is_near (suc limit) (cond b (Some 0) (option_map (λ n. suc n) (distance rows k)))) t ∙ lt-ltb 0 (suc limit) (omega arith))
      | inr f ↦ ap (λ b. is_some (cond b (Some r) (row_of (take limit rows) k))) f
          ∙ near_held limit rows k ∙ is_near_more limit (distance rows k)
          ∙ sym (ap (λ b. is_near (suc limit) (cond b (Some 0) (option_map (λ n. suc n) (distance rows k)))) f)
    ]

front_take : (limit : ℕ) (rows : Rows) → Ones rows → front limit rows ≡ take limit rows
front_take zero [] h = refl
front_take (suc limit) [] h = refl
front_take zero (r ∷ rows) h = cond-false (nat_le r.weight 0) (r ∷ front (0 - r.weight) rows) [] (lt-leb r.weight 0 (omega (arith, h.0)))
front_take (suc limit) (r ∷ rows) h =
    let less : suc limit - r.weight ≡ limit = omega (arith, h.0) in
    cond-true (nat_le r.weight (suc limit)) (r ∷ front (suc limit - r.weight) rows) [] (le-leb r.weight (suc limit) (omega (arith, h.0)))
    ∙ ap (λ n. r ∷ front n rows) less ∙ ap (λ rs. r ∷ rs) (front_take limit rows h.1)

-- a key goes from a front as it goes from all
without_take : (n k : ℕ) (rows : Rows) → times k rows ≤ 1 → take n (without (take (suc n) rows) k) ≡ take n (without rows k)
without_take zero k rows h = refl
without_take (suc n) k [] h = refl
without_take (suc n) k (r ∷ rows) h =
    elim (cases_Bool (eqb r.key k)) [
      | inl t ↦ let none : times k rows ≡ 0 = omega (arith, h, times_yes k r rows t) in
          let none_first : times k (take (suc n) rows) ≡ 0 = omega (arith, none, sum_by-take-le (λ (x : Row (Unit {0})). cond (eqb x.key k) 1 0) rows (suc n)) in
          ap (λ b. take (suc n) (cond (not b) (r ∷ without (take (suc n) rows) k) (without (take (suc n) rows) k))) t
          ∙ ap (take (suc n)) (without_absent k (take (suc n) rows) none_first)
          ∙ take-take (suc n) (suc n) rows (omega arith)
          ∙ sym (ap (take (suc n)) (without_absent k rows none))
          ∙ sym (ap (λ b. take (suc n) (cond (not b) (r ∷ without rows k) (without rows k))) t)
      | inr f ↦ ap (λ b. take (suc n) (cond (not b) (r ∷ without (take (suc n) rows) k) (without (take (suc n) rows) k))) f
          ∙ ap (λ rs. r ∷ rs) (without_take n k rows (omega (arith, h, times-cons k r rows)))
          ∙ sym (ap (λ b. take (suc n) (cond (not b) (r ∷ without rows k) (without rows k))) f)
    ]

ones_take : (n : ℕ) (rows : Rows) → Ones rows → Ones (take n rows)
ones_take zero rows h = tt
ones_take (suc n) [] h = tt
ones_take (suc n) (r ∷ rows) h = (h.0, ones_take n rows h.1)

-- what a limit keeps of the first objects is the first of all
kept_front : (limit : ℕ) (rows : Rows) (q : Request) → q.size ≡ 1 → Ones rows → HasDistinctKeys rows → kept_after limit (take limit rows) q ≡ take limit (let_in rows q)
kept_front zero rows q one ones distinct = kept_none q one
kept_front (suc n) rows q one ones distinct =
    cond-false (nat_lt (suc n) (load q)) (without (take (suc n) rows) q.key) (front (suc n) (let_in (take (suc n) rows) q)) (le-ltb (suc n) (load q) (omega (arith, load_one q one)))
    ∙ front_take (suc n) (let_in (take (suc n) rows) q) (load_one q one, ones_without q.key (take (suc n) rows) (ones_take (suc n) rows ones))
    ∙ ap (λ rs. row q.key tt (load q) ∷ rs) (without_take n q.key rows (distinct q.key))

one_more : (t n : ℕ) (b : Bool) → t + suc n < 2 ^ 64 → ((t + (if b then 1 else 0)) % 2 ^ 64 ≡ t + (if b then 1 else 0)) × (t + (if b then 1 else 0) + n < 2 ^ 64)
one_more t n true h = (small_mod (t + 1) (omega (arith, h)), omega (arith, h))
one_more t n false h = (small_mod (t + 0) (omega (arith, h)), omega (arith, h))

hits_on : (limit : ℕ) (qs : List Request) (rows : Rows) (t : Tally) → OneSizes qs → Ones rows → HasDistinctKeys rows → t.hits + length qs < 2 ^ 64
    → (played_on limit (take limit rows) t qs).hits ≡ t.hits + near_on limit rows qs
hits_on limit [] rows t sizes ones distinct fits = omega arith
hits_on limit (q ∷ qs) rows t sizes ones distinct fits =
    let found : is_held (take limit rows) q.key ≡ is_near limit (distance rows q.key) = near_held limit rows q.key in
    let more = one_more t.hits (length qs) (is_near limit (distance rows q.key)) fits in
    let next = tally_after limit (take limit rows) q t in
    let counted_hits : next.hits ≡ t.hits + (if is_near limit (distance rows q.key) then 1 else 0) = ap (λ b. (t.hits + (if b then 1 else 0)) % 2 ^ 64) found ∙ more.0 in
    ap (λ rs. (played_on limit rs next qs).hits) (kept_front limit rows q sizes.0 ones distinct)
    ∙ hits_on limit qs (let_in rows q) next sizes.1 (load_one q sizes.0, ones_without q.key rows ones) (distinct-first rows (row q.key tt (load q)) distinct)
    (omega (arith, counted_hits, more.1))
    ∙ omega (arith, counted_hits)

abbrev no_rows : Rows
no_rows = []

pub hits_near : (limit : ℕ) (qs : List Request) → OneSizes qs → length qs < 2 ^ 64 → (played limit qs).hits ≡ near limit qs
hits_near limit qs sizes fits =
    ap (λ rs. (played_on limit rs no_tally qs).hits) (sym (take_all limit no_rows (omega arith)))
    ∙ hits_on limit qs no_rows no_tally sizes tt (λ k. omega arith) (omega (arith, fits))
    ∙ omega arith

-- the hits of tallies that are those of their limits
pub all_near : (limits : List ℕ) (qs : List Request) (ts : List Tally) → OneSizes qs → length qs < 2 ^ 64 → ts ≡ map (λ n. played n qs) limits → map (λ (t : Tally). t.hits) ts ≡ map (λ n. near n qs) limits
all_near limits qs ts sizes fits e = ap (map (λ (t : Tally). t.hits)) e ∙ go limits
  where
    go : (ns : List ℕ) → map (λ (t : Tally). t.hits) (map (λ n. played n qs) ns) ≡ map (λ n. near n qs) ns
    go [] = refl
    go (n ∷ ns) = ap (λ h. h ∷ map (λ (t : Tally). t.hits) (map (λ m. played m qs) ns)) (hits_near n qs sizes fits) ∙ ap (λ hs. near n qs ∷ hs) (go ns)

kept_take : (limit : ℕ) (qs : List Request) (rows : Rows) → OneSizes qs → Ones rows → HasDistinctKeys rows → kept limit (take limit rows) qs ≡ take limit (let_all rows qs)
kept_take limit [] rows sizes ones distinct = refl
kept_take limit (q ∷ qs) rows sizes ones distinct =
    ap (λ rs. kept limit rs qs) (kept_front limit rows q sizes.0 ones distinct)
    ∙ kept_take limit qs (let_in rows q) sizes.1 (load_one q sizes.0, ones_without q.key rows ones) (distinct-first rows (row q.key tt (load q)) distinct)

-- a cache keeps the objects that are near
pub kept_near : (limit : ℕ) (qs : List Request) (k : ℕ) → OneSizes qs → is_held (kept limit [] qs) k ≡ is_near limit (distance (used qs) k)
kept_near limit qs k sizes =
    ap (λ rs. is_held (kept limit rs qs) k) (sym (take_all limit no_rows (omega arith)))
    ∙ ap (λ rs. is_held rs k) (kept_take limit qs no_rows sizes tt (λ j. omega arith))
    ∙ near_held limit (used qs) k
