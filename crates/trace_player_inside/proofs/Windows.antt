-- Laws of windows over a trace: a window from a place on has the rows of a cache whose limit it keeps.
use Rattle.std.proofs.Common.{◌≡◌, ◌≢◌, zero, suc, ℕ, ◌+◌, ◌-◌, ◌%◌, ◌^◌, ◌<◌, ◌≤◌, min, max, Bool, true, false, cond, not, eqb, ◌||◌, List, [], ◌∷◌, ◌++◌, length, drop, take, set, map, Some, None, refl, sym, ap, ◌∙◌, arith, subst, inl, inr, mod-eq_of_lt}
use Rattle.std.specs.Prelude.{Option, is_some, nat_lt, get_or}
use Rattle.std.proofs.lemmas.Bool.{eqb-true, eqb-false, ne_eqb, cases_eq, cases_Bool, cases_lt, cond_both, cond-true, cond-false, lt-ltb, le-ltb, ltb-true, ltb-false, or_cases, or_left}
use Rattle.std.proofs.lemmas.List.{drop-append-le, drop-drop, drop_more, take_more, get_or_at, set_at, length-take-le, length-map, map-append, append_assoc, length_push, length-drop, nil_from_length}
use Rattle.std.proofs.lemmas.Nat.{mod_below}
use Rattle.std.proofs.lemmas.List.Elements.{filter-append}
use Rattle.lru_shard.specs.Row.{Row, row, row_of, is_held, without, without_last, weight_of, HasDistinctKeys}
use Rattle.lru_shard.proofs.Rows.{by_key, times_yes, times-cons, weight-cons, without_absent, distinct-first}
use Rattle.lru_shard.proofs.Edits.{without_last_push}
use Rattle.lru_shard.proofs.UnitCalls.{times_none}
use Rattle.trace_player_inside.specs.declared.player.Request.{Request}
use Rattle.trace_player_inside.specs.declared.player.Tally.{Tally}
use Rattle.trace_player_inside.specs.declared.one_pass.Window.{Window}
use Rattle.trace_player_inside.specs.Traces.{Rows, AreOfSizeOne, load, front, let_in, kept_after, evicted_by, counted, tally_after, played_on, played, no_tally}
use Rattle.trace_player_inside.specs.Representation.Windows.{is_asked, last_ones, last_place, after, oldest, window_after, tally_of, empty_window}
use Rattle.trace_player_inside.proofs.Fronts.{front_all, front_last}
use Rattle.trace_player_inside.proofs.Places.{asked_after, length-last_ones, drop-last_ones}

-- The rows of a cache with no limit.

abbrev pub let_all : Rows → List Request → Rows
let_all rows [] = rows
let_all rows (q ∷ qs) = let_all (let_in rows q) qs

abbrev pub used : List Request → Rows
used qs = let_all [] qs

let_push : (rows : Rows) (qs : List Request) (q : Request) → let_all rows (qs ++ q ∷ []) ≡ let_in (let_all rows qs) q
let_push rows [] q = refl
let_push rows (x ∷ qs) q = let_push (let_in rows x) qs q

-- a row that stands last, once a request is let in: it goes where the request is for its key
last_same : (rows : Rows) (r : Row (Unit {0})) (q : Request) → r.key ≡ q.key → let_in (rows ++ r ∷ []) q ≡ let_in rows q
last_same rows r q e =
    ap (λ rs. row q.key tt (load q) ∷ rs)
    (filter-append (λ (x : Row (Unit {0})). not (eqb x.key q.key)) rows (r ∷ [])
    ∙ ap (λ rs. without rows q.key ++ rs) (by_key q.key r [] (λ rs. rs ≡ []) (λ _. refl) (λ ne. absurd (eqb-false _ _ ne e)))
    ∙ no_more (without rows q.key))
  where
    no_more : (rs : Rows) → rs ++ [] ≡ rs
    no_more [] = refl
    no_more (x ∷ rs) = ap (λ ys. x ∷ ys) (no_more rs)

last_other : (rows : Rows) (r : Row (Unit {0})) (q : Request) → r.key ≢ q.key → let_in (rows ++ r ∷ []) q ≡ let_in rows q ++ r ∷ []
last_other rows r q ne =
    ap (λ rs. row q.key tt (load q) ∷ rs)
    (filter-append (λ (x : Row (Unit {0})). not (eqb x.key q.key)) rows (r ∷ [])
    ∙ ap (λ rs. without rows q.key ++ rs) (by_key q.key r [] (λ rs. rs ≡ r ∷ []) (λ e. absurd (ne (eqb-true _ _ e))) (λ _. refl)))

let_last_asked : (r : Row (Unit {0})) (qs : List Request) (rows : Rows) → is_asked r.key qs ≡ true → let_all (rows ++ r ∷ []) qs ≡ let_all rows qs
let_last_asked r [] rows h = cc
let_last_asked r (q ∷ qs) rows h =
    elim (cases_eq r.key q.key) [
      | inl e ↦ ap (λ xs. let_all xs qs) (last_same rows r q e)
      | inr ne ↦ ap (λ xs. let_all xs qs) (last_other rows r q ne)
          ∙ let_last_asked r qs (let_in rows q) (elim (or_cases (eqb q.key r.key) (is_asked r.key qs) h) [ inl t ↦ absurd (ne (sym (eqb-true q.key r.key t))) | inr t ↦ t ])
    ]

let_last_alone : (r : Row (Unit {0})) (qs : List Request) (rows : Rows) → is_asked r.key qs ≡ false → let_all (rows ++ r ∷ []) qs ≡ let_all rows qs ++ r ∷ []
let_last_alone r [] rows h = refl
let_last_alone r (q ∷ qs) rows h =
    elim (cases_Bool (eqb q.key r.key)) [
      | inl t ↦ let bad : true ≡ false = sym (or_left (eqb q.key r.key) (is_asked r.key qs) t) ∙ h in cc
      | inr f ↦ ap (λ xs. let_all xs qs) (last_other rows r q (λ e. eqb-false q.key r.key f (sym e)))
          ∙ let_last_alone r qs (let_in rows q) (sym (ap (λ b. b || is_asked r.key qs) f) ∙ h)
    ]

-- A window gives up the object that was used longest ago where its requests up to the first last one go.

slid : (qs : List Request) → 0 < length qs → (r : Row (Unit {0})) × (used qs ≡ used (drop (oldest (last_ones qs)) qs) ++ r ∷ [])
slid [] h = absurd (omega (arith, h))
slid (q ∷ qs) h = go (slid qs) (is_asked q.key qs) refl
  where
    first : (b : Bool) → is_asked q.key qs ≡ b → oldest (last_ones (q ∷ qs)) ≡ oldest (not b ∷ last_ones qs)
    first b e = ap (λ c. oldest (not c ∷ last_ones qs)) e

    long : (xs : List Request) → is_asked q.key xs ≡ true → 0 < length xs
    long [] e = cc
    long (x ∷ xs) e = omega arith

    go : (0 < length qs → (r : Row (Unit {0})) × (used qs ≡ used (drop (oldest (last_ones qs)) qs) ++ r ∷ [])) → (b : Bool) → is_asked q.key qs ≡ b → (s : Row (Unit {0})) × (used (q ∷ qs) ≡ used (drop (oldest (last_ones (q ∷ qs))) (q ∷ qs)) ++ s ∷ [])
    go ih true e =
        let rest = ih (long qs e) in
        (rest.0, let_last_asked (row q.key tt (load q)) qs [] e ∙ rest.1 ∙ sym (ap (λ n. used (drop n (q ∷ qs)) ++ rest.0 ∷ []) (first true e)))
    go ih false e = (row q.key tt (load q), let_last_alone (row q.key tt (load q)) qs [] e ∙ sym (ap (λ n. used (drop n (q ∷ qs)) ++ row q.key tt (load q) ∷ []) (first false e)))

oldest-le : (bs : List Bool) → oldest bs ≤ length bs
oldest-le [] = omega arith
oldest-le (true ∷ bs) = omega arith
oldest-le (false ∷ bs) = omega (arith, oldest-le bs)

-- Rows that weigh 1 each.

abbrev pub Ones : Rows → Type 0
Ones [] = Unit {0}
Ones (r ∷ rows) = (r.weight ≡ 1) × Ones rows

abbrev pub OneSizes : List Request → Type 0
OneSizes [] = Unit {0}
OneSizes (q ∷ qs) = (q.size ≡ 1) × OneSizes qs

pub one_sizes : (qs : List Request) → AreOfSizeOne qs → OneSizes qs
one_sizes [] h = tt
one_sizes (q ∷ qs) h = (h 0 q (omega arith), one_sizes qs (λ k d lt. h (suc k) d (omega (arith, lt))))

pub one_take : (n : ℕ) (qs : List Request) → OneSizes qs → OneSizes (take n qs)
one_take zero qs h = tt
one_take (suc n) [] h = tt
one_take (suc n) (q ∷ qs) h = (h.0, one_take n qs h.1)

one_drop : (n : ℕ) (qs : List Request) → OneSizes qs → OneSizes (drop n qs)
one_drop zero qs h = h
one_drop (suc n) [] h = tt
one_drop (suc n) (q ∷ qs) h = one_drop n qs h.1

pub load_one : (q : Request) → q.size ≡ 1 → load q ≡ 1
load_one q e = ap (λ n. max n 1) e

pub ones_without : (k : ℕ) (rows : Rows) → Ones rows → Ones (without rows k)
ones_without k [] h = tt
ones_without k (r ∷ rows) h = by_key k r rows Ones (λ _. ones_without k rows h.1) (λ _. (h.0, ones_without k rows h.1))

ones_weight : (rows : Rows) → Ones rows → weight_of rows ≡ length rows
ones_weight [] h = refl
ones_weight (r ∷ rows) h = omega (arith, weight-cons r rows, h.0, ones_weight rows h.1)

ones_front : (rows : Rows) (r : Row (Unit {0})) → Ones (rows ++ r ∷ []) → Ones rows
ones_front [] r h = tt
ones_front (x ∷ rows) r h = (h.0, ones_front rows r h.1)

ones_all : (qs : List Request) (rows : Rows) → OneSizes qs → Ones rows → Ones (let_all rows qs)
ones_all [] rows sizes h = h
ones_all (q ∷ qs) rows sizes h = ones_all qs (let_in rows q) sizes.1 (load_one q sizes.0, ones_without q.key rows h)

-- Whether a key has a row, and how many rows there are.

or_no : (b : Bool) → (b || false) ≡ b
or_no true = refl
or_no false = refl

or_swap : (a b c : Bool) → (a || (b || c)) ≡ ((b || a) || c)
or_swap true true c = refl
or_swap true false c = refl
or_swap false true c = refl
or_swap false false c = refl

row_without : (k j : ℕ) (rows : Rows) → k ≢ j → row_of (without rows j) k ≡ row_of rows k
row_without k j [] h = refl
row_without k j (r ∷ rows) h =
    by_key j r rows (λ rs. row_of rs k ≡ row_of (r ∷ rows) k)
    (λ e. row_without k j rows h ∙ sym (cond-false (eqb r.key k) (Some r) (row_of rows k) (ne_eqb r.key k (λ same. h (sym same ∙ eqb-true r.key j e)))))
    (λ e. ap (λ o. cond (eqb r.key k) (Some r) o) (row_without k j rows h))

held_in : (rows : Rows) (q : Request) (k : ℕ) → is_held (let_in rows q) k ≡ (eqb q.key k || is_held rows k)
held_in rows q k =
    elim (cases_Bool (eqb q.key k)) [
      | inl t ↦ ap (λ b. is_some (cond b (Some (row q.key tt (load q))) (row_of (without rows q.key) k))) t ∙ sym (or_left (eqb q.key k) (is_held rows k) t)
      | inr f ↦ ap (λ b. is_some (cond b (Some (row q.key tt (load q))) (row_of (without rows q.key) k))) f
          ∙ ap is_some (row_without k q.key rows (λ e. eqb-false q.key k f (sym e))) ∙ sym (ap (λ b. b || is_held rows k) f)
    ]

held_all : (k : ℕ) (qs : List Request) (rows : Rows) → is_held (let_all rows qs) k ≡ (is_asked k qs || is_held rows k)
held_all k [] rows = refl
held_all k (q ∷ qs) rows =
    held_all k qs (let_in rows q) ∙ ap (λ b. is_asked k qs || b) (held_in rows q k) ∙ or_swap (is_asked k qs) (eqb q.key k) (is_held rows k)

pub used_held : (k : ℕ) (qs : List Request) → is_held (used qs) k ≡ is_asked k qs
used_held k qs = held_all k qs [] ∙ or_no (is_asked k qs)

distinct_all : (qs : List Request) (rows : Rows) → HasDistinctKeys rows → HasDistinctKeys (let_all rows qs)
distinct_all [] rows h = h
distinct_all (q ∷ qs) rows h = distinct_all qs (let_in rows q) (distinct-first rows (row q.key tt (load q)) h)

none_of : (o : Option (Row (Unit {0}))) → is_some o ≡ false → o ≡ None
none_of None h = refl
none_of (Some r) h = cc

length_new : (rows : Rows) (k : ℕ) → is_held rows k ≡ false → length (without rows k) ≡ length rows
length_new rows k h = ap length (without_absent k rows (times_none rows k (none_of (row_of rows k) h)))

length_old : (k : ℕ) (rows : Rows) → HasDistinctKeys rows → is_held rows k ≡ true → length (without rows k) + 1 ≡ length rows
length_old k [] d h = cc
length_old k (r ∷ rows) d h =
    by_key k r rows (λ rs. length rs + 1 ≡ length (r ∷ rows))
    (λ t. omega (arith, ap length (without_absent k rows (omega (arith, d k, times_yes k r rows t)))))
    (λ f. omega (arith, length_old k rows (λ j. omega (arith, d j, times-cons j r rows)) (sym (ap (λ b. is_some (cond b (Some r) (row_of rows k))) f) ∙ h)))

-- What a request for an object of size 1 leaves: all rows, where they fit, or all but the last, where there is one too many.

module _ (limit : ℕ) (rows : Rows) (q : Request) (one : q.size ≡ 1) (ones : Ones (let_in rows q)) where
  kept_fits : length (let_in rows q) ≤ limit → kept_after limit rows q ≡ let_in rows q
  kept_fits h =
      cond-false (nat_lt limit (load q)) (without rows q.key) (front limit (let_in rows q)) (le-ltb limit (load q) (omega (arith, load_one q one, h)))
      ∙ front_all limit (let_in rows q) (omega (arith, ones_weight (let_in rows q) ones, h))

  none_evicted : length (let_in rows q) ≤ limit → evicted_by limit rows q ≡ 0
  none_evicted h =
      let all : length (front limit (let_in rows q)) ≡ length (let_in rows q) = ap length (front_all limit (let_in rows q) (omega (arith, ones_weight (let_in rows q) ones, h))) in
      cond-false (nat_lt limit (load q)) 0 (length (let_in rows q) - length (front limit (let_in rows q))) (le-ltb limit (load q) (omega (arith, load_one q one, h)))
      ∙ omega (arith, all)

  module _ (some : 0 < limit) (left : Rows) (r : Row (Unit {0})) (is : let_in rows q ≡ left ++ r ∷ []) (long : length left ≡ limit) where
    front_left : front limit (let_in rows q) ≡ left
    front_left =
        sym (front_last limit (let_in rows q) (omega (arith, ones_weight (let_in rows q) ones, ap length is, length_push left r, long)))
        ∙ ap (front limit) (ap without_last is ∙ without_last_push left r)
        ∙ front_all limit left (omega (arith, ones_weight left (ones_front left r (subst Ones is ones)), long))

    kept_full : kept_after limit rows q ≡ left
    kept_full = cond-false (nat_lt limit (load q)) (without rows q.key) (front limit (let_in rows q)) (le-ltb limit (load q) (omega (arith, load_one q one, some))) ∙ front_left

    one_evicted : evicted_by limit rows q ≡ 1
    one_evicted =
        cond-false (nat_lt limit (load q)) 0 (length (let_in rows q) - length (front limit (let_in rows q))) (le-ltb limit (load q) (omega (arith, load_one q one, some)))
        ∙ omega (arith, ap length front_left, ap length is, length_push left r)

-- a limit of 0 lets nothing in
pub kept_none : (q : Request) → q.size ≡ 1 → kept_after 0 [] q ≡ []
kept_none q one = cond-true (nat_lt 0 (load q)) [] (front 0 (let_in [] q)) (lt-ltb 0 (load q) (omega (arith, load_one q one)))

none_gone : (q : Request) → q.size ≡ 1 → evicted_by 0 [] q ≡ 0
none_gone q one = cond-true (nat_lt 0 (load q)) 0 (length (let_in [] q) - length (front 0 (let_in [] q))) (lt-ltb 0 (load q) (omega (arith, load_one q one)))

-- A trace with one request more.

abbrev pub kept : ℕ → Rows → List Request → Rows
kept limit rows [] = rows
kept limit rows (q ∷ qs) = kept limit (kept_after limit rows q) qs

kept_push : (limit : ℕ) (rows : Rows) (qs : List Request) (q : Request) → kept limit rows (qs ++ q ∷ []) ≡ kept_after limit (kept limit rows qs) q
kept_push limit rows [] q = refl
kept_push limit rows (x ∷ qs) q = kept_push limit (kept_after limit rows x) qs q

played_push : (limit : ℕ) (rows : Rows) (t : Tally) (qs : List Request) (q : Request) → played_on limit rows t (qs ++ q ∷ []) ≡ tally_after limit (kept limit rows qs) q (played_on limit rows t qs)
played_push limit rows t [] q = refl
played_push limit rows t (x ∷ qs) q = played_push limit (kept_after limit rows x) (tally_after limit rows x t) qs q

-- a window after a trace: it has the rows of the cache under its limit, and counts what that counts
pub record Serves (qs : List Request) (w : Window) : Type 0 where
  pub start : w.start ≤ length qs
  pub held : w.held ≡ length (used (drop w.start qs))
  pub few : w.held ≤ w.limit
  pub rows : kept w.limit [] qs ≡ used (drop w.start qs)
  pub tally : played w.limit qs ≡ tally_of (length qs) w
  pub hits : w.hits < 2 ^ 64
  pub evictions : w.evictions < 2 ^ 64

pub serves_none : (limit : ℕ) → Serves [] (empty_window limit)
serves_none limit = record { start = omega arith; held = refl; few = omega arith; rows = refl; tally = refl; hits = omega arith; evictions = omega arith }

pub small_mod : (n : ℕ) → n < 2 ^ 64 → n % 2 ^ 64 ≡ n
small_mod n h = mod-eq_of_lt {n = n} {m = 2 ^ 64} h

abbrev tally_by : ℕ → ℕ → ℕ → Tally
tally_by n h e = record { requests = n; hits = h; bytes = n; hit_bytes = h; evictions = e }

numbers : (n n' h h' e e' : ℕ) → n ≡ n' → h ≡ h' → e ≡ e' → tally_by n h e ≡ tally_by n' h' e'
numbers n n' h h' e e' p q r = ap (λ m. tally_by m h e) p ∙ ap (λ m. tally_by n' m e) q ∙ ap (λ m. tally_by n' h' m) r

module _ (qs : List Request) (q : Request) (w : Window) (one : q.size ≡ 1) (sizes : OneSizes qs) (fits : length qs + 1 < 2 ^ 64) (s : Serves qs w) where
  abbrev now : Rows
  now = used (drop w.start qs)

  abbrev more : List Request
  more = qs ++ q ∷ []

  ones_now : Ones (let_in now q)
  ones_now = (load_one q one, ones_without q.key now (ones_all (drop w.start qs) [] (one_drop w.start qs sizes) tt))

  grown : used (drop w.start more) ≡ let_in now q
  grown = ap used (drop-append-le w.start qs (q ∷ []) s.start) ∙ let_push [] (drop w.start qs) q

  kept_now : kept w.limit [] more ≡ kept_after w.limit now q
  kept_now = kept_push w.limit [] qs q ∙ ap (λ rs. kept_after w.limit rs q) s.rows

  -- the tally with it, where its object is there or not, and so many are evicted
  counts : (hit : Bool) (gone : ℕ) → is_held now q.key ≡ hit → evicted_by w.limit now q ≡ gone → played w.limit more ≡ counted (tally_of (length qs) w) hit 1 gone
  counts hit gone is_hit is_gone =
      played_push w.limit [] no_tally qs q
      ∙ ap (λ t. tally_after w.limit (kept w.limit [] qs) q t) s.tally
      ∙ ap (λ rs. tally_after w.limit rs q (tally_of (length qs) w)) s.rows
      ∙ ap (λ b. counted (tally_of (length qs) w) b q.size (evicted_by w.limit now q)) is_hit
      ∙ ap (λ n. counted (tally_of (length qs) w) hit n (evicted_by w.limit now q)) one
      ∙ ap (λ n. counted (tally_of (length qs) w) hit 1 n) is_gone

  requests_more : (length qs + 1) % 2 ^ 64 ≡ length more
  requests_more = small_mod (length qs + 1) fits ∙ sym (length_push qs q)

  same_number : (n : ℕ) → n < 2 ^ 64 → (n + 0) % 2 ^ 64 ≡ n
  same_number n h = let same : n + 0 ≡ n = omega arith in ap (λ m. m % 2 ^ 64) same ∙ small_mod n h

  below_mod : (n : ℕ) → n % 2 ^ 64 < 2 ^ 64
  below_mod n = mod_below n (2 ^ 64) (omega arith)

  -- it has the object
  serves_hit : is_held now q.key ≡ true → Serves more (record w { hits = (w.hits + 1) % 2 ^ 64 })
  serves_hit there =
      let as_long : length (let_in now q) ≡ w.held = omega (arith, length_old q.key now (distinct_all (drop w.start qs) [] (λ k. omega arith)) there, s.held) in
      let few : length (let_in now q) ≤ w.limit = omega (arith, as_long, s.few) in
      record {
        start = omega (arith, s.start, length_push qs q);
        held = sym as_long ∙ sym (ap length grown);
        few = s.few;
        rows = kept_now ∙ kept_fits w.limit now q one ones_now few ∙ sym grown;
        tally = counts true 0 there (none_evicted w.limit now q one ones_now few)
            ∙ numbers ((length qs + 1) % 2 ^ 64) (length more) ((w.hits + 1) % 2 ^ 64) ((w.hits + 1) % 2 ^ 64) ((w.evictions + 0) % 2 ^ 64) w.evictions requests_more refl (same_number w.evictions s.evictions);
        hits = below_mod (w.hits + 1);
        evictions = s.evictions;
      }

  module _ (absent : is_held now q.key ≡ false) where
    longer : length (let_in now q) ≡ w.held + 1
    longer = omega (arith, length_new now q.key absent, s.held)

    -- it has room for the object
    serves_room : w.held < w.limit → Serves more (record w { held = w.held + 1 })
    serves_room room =
        let few : length (let_in now q) ≤ w.limit = omega (arith, longer, room) in
        record {
          start = omega (arith, s.start, length_push qs q);
          held = sym longer ∙ sym (ap length grown);
          few = omega (arith, room);
          rows = kept_now ∙ kept_fits w.limit now q one ones_now few ∙ sym grown;
          tally = counts false 0 absent (none_evicted w.limit now q one ones_now few)
              ∙ numbers ((length qs + 1) % 2 ^ 64) (length more) ((w.hits + 0) % 2 ^ 64) w.hits ((w.evictions + 0) % 2 ^ 64) w.evictions requests_more (same_number w.hits s.hits) (same_number w.evictions s.evictions);
          hits = s.hits;
          evictions = s.evictions;
        }

    -- it gives up the object that was used longest ago
    module _ (full : w.limit ≤ w.held) (start : ℕ) (low : start ≤ length more) (r : Row (Unit {0})) (is : let_in now q ≡ used (drop start more) ++ r ∷ []) where
      left_long : length (used (drop start more)) ≡ w.limit
      left_long = omega (arith, ap length is, length_push (used (drop start more)) r, longer, full, s.few)

      serves_some : 0 < w.limit → (kept_after w.limit now q ≡ used (drop start more)) × (evicted_by w.limit now q ≡ min w.limit 1)
      serves_some some = (
        kept_full w.limit now q one ones_now some (used (drop start more)) r is left_long,
        one_evicted w.limit now q one ones_now some (used (drop start more)) r is left_long ∙ omega (arith, some),
      )

      serves_zero : w.limit ≡ 0 → (kept_after w.limit now q ≡ used (drop start more)) × (evicted_by w.limit now q ≡ min w.limit 1)
      serves_zero none =
          let no_rows : now ≡ [] = nil_from_length now (omega (arith, s.held, s.few, none)) in
          let none_left : used (drop start more) ≡ [] = nil_from_length (used (drop start more)) (omega (arith, left_long, none)) in (
            ap (λ n. kept_after n now q) none ∙ ap (λ rs. kept_after 0 rs q) no_rows ∙ kept_none q one ∙ sym none_left,
            ap (λ n. evicted_by n now q) none ∙ ap (λ rs. evicted_by 0 rs q) no_rows ∙ none_gone q one ∙ omega (arith, none),
          )

      serves_either : (kept_after w.limit now q ≡ used (drop start more)) × (evicted_by w.limit now q ≡ min w.limit 1)
      serves_either = elim (cases_lt 0 w.limit) [ inl some ↦ serves_some some | inr none ↦ serves_zero (omega (arith, none)) ]

      serves_full : Serves more (record w { start = start; evictions = (w.evictions + min w.limit 1) % 2 ^ 64 })
      serves_full = record {
        start = low;
        held = omega (arith, left_long, full, s.few);
        few = s.few;
        rows = kept_now ∙ serves_either.0;
        tally = counts false (min w.limit 1) absent serves_either.1
            ∙ numbers ((length qs + 1) % 2 ^ 64) (length more) ((w.hits + 0) % 2 ^ 64) w.hits ((w.evictions + min w.limit 1) % 2 ^ 64) ((w.evictions + min w.limit 1) % 2 ^ 64) requests_more (same_number w.hits s.hits) refl;
        hits = s.hits;
        evictions = below_mod (w.evictions + min w.limit 1);
      }

  module _ (previous : ℕ) (bs : List Bool) (behind : previous ≡ after (last_place q.key qs)) (lasts : bs ≡ last_ones more) where
    held_is : is_held now q.key ≡ nat_lt w.start previous
    held_is = used_held q.key (drop w.start qs) ∙ sym (asked_after w.start q.key qs) ∙ ap (λ n. nat_lt w.start n) (sym behind)

    bs_are : drop w.start bs ≡ last_ones (drop w.start more)
    bs_are = ap (drop w.start) lasts ∙ drop-last_ones w.start more

    first_last : (r : Row (Unit {0})) × (used (drop w.start more) ≡ used (drop (oldest (last_ones (drop w.start more))) (drop w.start more)) ++ r ∷ [])
    first_last = slid (drop w.start more) (omega (arith, length-drop w.start more, length_push qs q, s.start))

    moved : drop (w.start + oldest (drop w.start bs)) more ≡ drop (oldest (last_ones (drop w.start more))) (drop w.start more)
    moved = sym (drop-drop (oldest (drop w.start bs)) w.start more) ∙ ap (λ cs. drop (oldest cs) (drop w.start more)) bs_are

    low_start : w.start + oldest (drop w.start bs) ≤ length more
    low_start = omega (arith, oldest-le (drop w.start bs), ap length bs_are, length-last_ones (drop w.start more), length-drop w.start more, s.start, length_push qs q)

    pub serves_step : Serves more (window_after previous bs w)
    serves_step =
        cond_both (nat_lt w.start previous) (record w { hits = (w.hits + 1) % 2 ^ 64 }) (cond (nat_lt w.held w.limit) (record w { held = w.held + 1 }) (record w { start = w.start + oldest (drop w.start bs); evictions = (w.evictions + min w.limit 1) % 2 ^ 64 }))
        (Serves more)
        (λ hit. serves_hit (held_is ∙ hit))
        (λ miss. cond_both (nat_lt w.held w.limit) (record w { held = w.held + 1 }) (record w { start = w.start + oldest (drop w.start bs); evictions = (w.evictions + min w.limit 1) % 2 ^ 64 })
        (Serves more)
        (λ room. serves_room (held_is ∙ miss) (ltb-true w.held w.limit room))
        (λ full. serves_full (held_is ∙ miss) (ltb-false w.held w.limit full) (w.start + oldest (drop w.start bs)) low_start first_last.0
        (sym grown ∙ first_last.1 ∙ ap (λ xs. used xs ++ first_last.0 ∷ []) (sym moved))))

-- Several windows over one trace.

abbrev pub ServeAll : List Request → List Window → Type 0
ServeAll qs [] = Unit {0}
ServeAll qs (w ∷ ws) = Serves qs w × ServeAll qs ws

pub serve_none : (limits : List ℕ) → ServeAll [] (map empty_window limits)
serve_none [] = tt
serve_none (limit ∷ limits) = (serves_none limit, serve_none limits)

pub serve_step : (qs : List Request) (q : Request) (ws : List Window) (one : q.size ≡ 1) (sizes : OneSizes qs) (fits : length qs + 1 < 2 ^ 64) (previous : ℕ) (bs : List Bool) (behind : previous ≡ after (last_place q.key qs)) (lasts : bs ≡ last_ones (qs ++ q ∷ [])) → ServeAll qs ws → ServeAll (qs ++ q ∷ []) (map (window_after previous bs) ws)
serve_step qs q [] one sizes fits previous bs behind lasts h = tt
serve_step qs q (w ∷ ws) one sizes fits previous bs behind lasts h =
    (serves_step qs q w one sizes fits h.0 previous bs behind lasts, serve_step qs q ws one sizes fits previous bs behind lasts h.1)

pub limit_same : (previous : ℕ) (bs : List Bool) (w : Window) → (window_after previous bs w).limit ≡ w.limit
limit_same previous bs w =
    cond_both (nat_lt w.start previous) (record w { hits = (w.hits + 1) % 2 ^ 64 }) (cond (nat_lt w.held w.limit) (record w { held = w.held + 1 }) (record w { start = w.start + oldest (drop w.start bs); evictions = (w.evictions + min w.limit 1) % 2 ^ 64 }))
    (λ (v : Window). v.limit ≡ w.limit) (λ _. refl)
    (λ _. cond_both (nat_lt w.held w.limit) (record w { held = w.held + 1 }) (record w { start = w.start + oldest (drop w.start bs); evictions = (w.evictions + min w.limit 1) % 2 ^ 64 }) (λ (v : Window). v.limit ≡ w.limit) (λ _. refl) (λ _. refl))

pub limits_same : (previous : ℕ) (bs : List Bool) (ws : List Window) → map (λ (w : Window). w.limit) (map (window_after previous bs) ws) ≡ map (λ (w : Window). w.limit) ws
limits_same previous bs [] = refl
limits_same previous bs (w ∷ ws) = ap (λ n. n ∷ map (λ (v : Window). v.limit) (map (window_after previous bs) ws)) (limit_same previous bs w) ∙ ap (λ ns. w.limit ∷ ns) (limits_same previous bs ws)

pub limits_empty : (limits : List ℕ) → map (λ (w : Window). w.limit) (map empty_window limits) ≡ limits
limits_empty [] = refl
limits_empty (n ∷ ns) = ap (λ ms. n ∷ ms) (limits_empty ns)

-- the tallies of windows are those of their limits
pub tallies : (qs : List Request) (ws : List Window) → ServeAll qs ws → map (tally_of (length qs)) ws ≡ map (λ n. played n qs) (map (λ (w : Window). w.limit) ws)
tallies qs [] h = refl
tallies qs (w ∷ ws) h = ap (λ t. t ∷ map (tally_of (length qs)) ws) (sym h.0.tally) ∙ ap (λ ts. played w.limit qs ∷ ts) (tallies qs ws h.1)

-- a change of each in turn
pub changed_more : (f : Window → Window) (ws now : List Window) (n : ℕ) (d w : Window) → n < length ws → now ≡ map f (take n ws) ++ drop n ws → w ≡ f (get_or now n d)
    → set now n w ≡ map f (take (n + 1) ws) ++ drop (n + 1) ws
changed_more f ws now n d w h is change =
    let long : length (map f (take n ws)) ≡ n = length-map (take n ws) f ∙ length-take-le n ws (omega (arith, h)) in
    let split : now ≡ map f (take n ws) ++ get_or ws n d ∷ drop (n + 1) ws = is ∙ ap (λ xs. map f (take n ws) ++ xs) (drop_more ws n d h) in
    let changed : w ≡ f (get_or ws n d) = change ∙ ap (λ xs. f (get_or xs n d)) split ∙ ap f (get_or_at (map f (take n ws)) (get_or ws n d) (drop (n + 1) ws) d n long) in
    ap (λ xs. set xs n w) split
    ∙ set_at (map f (take n ws)) (get_or ws n d) (drop (n + 1) ws) w n long
    ∙ ap (λ x. map f (take n ws) ++ x ∷ drop (n + 1) ws) changed
    ∙ sym (append_assoc (map f (take n ws)) (f (get_or ws n d) ∷ []) (drop (n + 1) ws))
    ∙ ap (λ xs. xs ++ drop (n + 1) ws) (sym (ap (map f) (take_more ws n d h) ∙ map-append f (take n ws) (get_or ws n d ∷ [])))
