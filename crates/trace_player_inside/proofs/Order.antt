-- Laws of windows in the order of their limits. Where one has an object, those behind it have it too: so a request is played up to
-- the first that has it, and the hits of those before a window are added to its own at the end.
use Rattle.std.proofs.Common.{◌≡◌, suc, ℕ, ◌+◌, ◌%◌, ◌^◌, ◌<◌, ◌≤◌, min, Bool, true, false, cond, List, [], ◌∷◌, ◌++◌, length, take, drop, map, Some, None, refl, sym, ap, ◌∙◌, arith, inl, inr, IsPermutation, Contains}
use Rattle.std.specs.Prelude.{Option, nat_lt, get_or}
use Rattle.std.specs.List.Sorted.{IsNonDecreasing}
use Rattle.std.proofs.Math.Nat.{add-mod-mod, mod-add-mod}
use Rattle.std.proofs.lemmas.List.Sorted.{Contains-permutation}
use Rattle.std.proofs.lemmas.Bool.{cases_Bool, cases_lt, cond-true, cond-false, lt-ltb, ltb-true}
use Rattle.std.proofs.lemmas.List.{drop_more, take_more, get_or_at, get_or-map, get_or_default, length-take-le, length-map, map-append, append_assoc}
use Rattle.lru_shard.specs.Row.{is_held}
use Rattle.trace_player_inside.specs.declared.player.Request.{Request}
use Rattle.trace_player_inside.specs.declared.player.Tally.{Tally}
use Rattle.trace_player_inside.specs.declared.one_pass.Window.{Window}
use Rattle.trace_player_inside.specs.Traces.{distance, is_near}
use Rattle.trace_player_inside.specs.Representation.Windows.{last_place, after, oldest, window_after, empty_window, asked, summed}
use Rattle.trace_player_inside.proofs.Places.{asked_after}
use Rattle.trace_player_inside.proofs.Windows.{used, used_held, OneSizes, Serves, ServeAll, limit_same}
use Rattle.trace_player_inside.proofs.Distances.{kept_near}

-- numbers that do not fall, from one on
abbrev pub Rise : ℕ → List ℕ → Type 0
Rise low [] = Unit {0}
Rise low (n ∷ ns) = (low ≤ n) × Rise n ns

pub rise_from : (low : ℕ) (ns : List ℕ) → ((d : ℕ) → 0 < length ns → low ≤ get_or ns 0 d) → IsNonDecreasing ns → Rise low ns
rise_from low [] first h = tt
rise_from low (n ∷ ns) first h =
    (first 0 (omega arith), rise_from n ns (λ d lt. h 0 1 d (omega arith) (omega (arith, lt))) (λ i j d le lt. h (suc i) (suc j) d (omega (arith, le)) (omega (arith, lt))))

abbrev pub limits_of : List Window → List ℕ
limits_of ws = map (λ (w : Window). w.limit) ws

near_wider : (n m : ℕ) (o : Option ℕ) → n ≤ m → is_near n o ≡ true → is_near m o ≡ true
near_wider n m None le h = h
near_wider n m (Some k) le h = lt-ltb k m (omega (arith, le, ltb-true k n h))

-- a number more, at either end of a sum
more_first : (n h : ℕ) → ((n + 1) % 2 ^ 64 + h) % 2 ^ 64 ≡ ((n + h) % 2 ^ 64 + 1) % 2 ^ 64
more_first n h =
    let swapped : n + 1 + h ≡ n + h + 1 = omega arith in
    mod-add-mod (n + 1) (2 ^ 64) h ∙ ap (λ m. m % 2 ^ 64) swapped ∙ sym (mod-add-mod (n + h) (2 ^ 64) 1)

more_last : (n h : ℕ) → (n + (h + 1) % 2 ^ 64) % 2 ^ 64 ≡ ((n + h) % 2 ^ 64 + 1) % 2 ^ 64
more_last n h =
    let grouped : n + (h + 1) ≡ n + h + 1 = omega arith in
    add-mod-mod n (h + 1) (2 ^ 64) ∙ ap (λ m. m % 2 ^ 64) grouped ∙ sym (mod-add-mod (n + h) (2 ^ 64) 1)

-- what a request makes of a window that does not have its object
abbrev missed : List Bool → Window → Window
missed bs w = cond (nat_lt w.held w.limit) (record w { held = w.held + 1 }) (record w { start = w.start + oldest (drop w.start bs); evictions = (w.evictions + min w.limit 1) % 2 ^ 64 })

abbrev found : Window → Window
found w = record w { hits = (w.hits + 1) % 2 ^ 64 }

abbrev with_hits : ℕ → Window → Window
with_hits n w = record w { hits = n }

found_window : (previous : ℕ) (bs : List Bool) (w : Window) → nat_lt w.start previous ≡ true → window_after previous bs w ≡ found w
found_window previous bs w h = cond-true (nat_lt w.start previous) (found w) (missed bs w) h

missed_window : (previous : ℕ) (bs : List Bool) (w : Window) → nat_lt w.start previous ≡ false → window_after previous bs w ≡ missed bs w
missed_window previous bs w h = cond-false (nat_lt w.start previous) (found w) (missed bs w) h

missed_hits : (bs : List Bool) (w : Window) → (missed bs w).hits ≡ w.hits
missed_hits bs w = go (nat_lt w.held w.limit)
  where
    go : (b : Bool) → (cond b (record w { held = w.held + 1 }) (record w { start = w.start + oldest (drop w.start bs); evictions = (w.evictions + min w.limit 1) % 2 ^ 64 })).hits ≡ w.hits
    go true = refl
    go false = refl

missed_on : (bs : List Bool) (w : Window) (n : ℕ) → with_hits n (missed bs w) ≡ missed bs (with_hits n w)
missed_on bs w n = go (nat_lt w.held w.limit)
  where
    go : (b : Bool) → with_hits n (cond b (record w { held = w.held + 1 }) (record w { start = w.start + oldest (drop w.start bs); evictions = (w.evictions + min w.limit 1) % 2 ^ 64 }))
        ≡ cond b (record w { held = w.held + 1; hits = n }) (record w { start = w.start + oldest (drop w.start bs); evictions = (w.evictions + min w.limit 1) % 2 ^ 64; hits = n })
    go true = refl
    go false = refl

module _ (qs : List Request) (q : Request) (sizes : OneSizes qs) (previous : ℕ) (bs : List Bool) (behind : previous ≡ after (last_place q.key qs)) where
  abbrev far : Option ℕ
  far = distance (used qs) q.key

  found_near : (w : Window) → Serves qs w → nat_lt w.start previous ≡ is_near w.limit far
  found_near w s =
      ap (λ n. nat_lt w.start n) behind
      ∙ asked_after w.start q.key qs
      ∙ sym (used_held q.key (drop w.start qs))
      ∙ ap (λ rs. is_held rs q.key) (sym s.rows)
      ∙ kept_near w.limit qs q.key sizes

  -- where a window has the object, all behind it count a hit
  found_all : (low n : ℕ) (ws : List Window) → is_near low far ≡ true → Rise low (limits_of ws) → ServeAll qs (summed n ws) → summed ((n + 1) % 2 ^ 64) ws ≡ map (window_after previous bs) (summed n ws)
  found_all low n [] near rise h = refl
  found_all low n (w ∷ ws) near rise h =
      let sum : ℕ = (n + w.hits) % 2 ^ 64 in
      let wider : is_near w.limit far ≡ true = near_wider low w.limit far rise.0 near in
      let here : nat_lt w.start previous ≡ true = found_near (with_hits sum w) h.0 ∙ wider in
      ap (λ m. with_hits m w ∷ summed m ws) (more_first n w.hits)
      ∙ ap (λ rest. with_hits ((sum + 1) % 2 ^ 64) w ∷ rest) (found_all w.limit sum ws wider rise.1 h.1)
      ∙ ap (λ v. v ∷ map (window_after previous bs) (summed sum ws)) (sym (found_window previous bs (with_hits sum w) here))

  pub asked_step : (low n : ℕ) (ws : List Window) → Rise low (limits_of ws) → ServeAll qs (summed n ws) → summed n (asked previous bs ws) ≡ map (window_after previous bs) (summed n ws)
  asked_step low n [] rise h = refl
  asked_step low n (w ∷ ws) rise h =
      let sum : ℕ = (n + w.hits) % 2 ^ 64 in
      elim (cases_Bool (nat_lt w.start previous)) [
        | inl t ↦ ap (λ v. summed n (v ∷ cond (nat_lt w.start previous) ws (asked previous bs ws))) (found_window previous bs w t)
            ∙ ap (λ vs. summed n (found w ∷ vs)) (cond-true (nat_lt w.start previous) ws (asked previous bs ws) t)
            ∙ ap (λ m. with_hits m w ∷ summed m ws) (more_last n w.hits)
            ∙ ap (λ rest. with_hits ((sum + 1) % 2 ^ 64) w ∷ rest) (found_all w.limit sum ws (sym (found_near (with_hits sum w) h.0) ∙ t) rise.1 h.1)
            ∙ ap (λ v. v ∷ map (window_after previous bs) (summed sum ws)) (sym (found_window previous bs (with_hits sum w) t))
        | inr f ↦ ap (λ v. summed n (v ∷ cond (nat_lt w.start previous) ws (asked previous bs ws))) (missed_window previous bs w f)
            ∙ ap (λ vs. summed n (missed bs w ∷ vs)) (cond-false (nat_lt w.start previous) ws (asked previous bs ws) f)
            ∙ ap (λ m. with_hits ((n + m) % 2 ^ 64) (missed bs w) ∷ summed ((n + m) % 2 ^ 64) (asked previous bs ws)) (missed_hits bs w)
            ∙ ap (λ v. v ∷ summed sum (asked previous bs ws)) (missed_on bs w sum ∙ sym (missed_window previous bs (with_hits sum w) f))
            ∙ ap (λ rest. window_after previous bs (with_hits sum w) ∷ rest) (asked_step w.limit sum ws rise.1 h.1)
      ]

-- Their limits stay.

pub asked_limits : (previous : ℕ) (bs : List Bool) (ws : List Window) → limits_of (asked previous bs ws) ≡ limits_of ws
asked_limits previous bs [] = refl
asked_limits previous bs (w ∷ ws) =
    ap (λ n. n ∷ limits_of (cond (nat_lt w.start previous) ws (asked previous bs ws))) (limit_same previous bs w)
    ∙ ap (λ ns. w.limit ∷ ns) (go (nat_lt w.start previous) (asked_limits previous bs ws))
  where
    go : (b : Bool) → limits_of (asked previous bs ws) ≡ limits_of ws → limits_of (cond b ws (asked previous bs ws)) ≡ limits_of ws
    go true h = refl
    go false h = h

pub summed_limits : (n : ℕ) (ws : List Window) → limits_of (summed n ws) ≡ limits_of ws
summed_limits n [] = refl
summed_limits n (w ∷ ws) = ap (λ ns. w.limit ∷ ns) (summed_limits ((n + w.hits) % 2 ^ 64) ws)

pub summed_empty : (limits : List ℕ) → summed 0 (map empty_window limits) ≡ map empty_window limits
summed_empty [] = refl
summed_empty (n ∷ ns) = ap (λ ws. empty_window n ∷ ws) (summed_empty ns)

-- Windows that are asked one after another.

pub same_at : (previous : ℕ) (bs : List Bool) (ws now : List Window) (i : ℕ) (d : Window) → i < length ws → now ≡ map (window_after previous bs) (take i ws) ++ drop i ws → get_or now i d ≡ get_or ws i d
same_at previous bs ws now i d h is =
    let f = window_after previous bs in
    let long : length (map f (take i ws)) ≡ i = length-map (take i ws) f ∙ length-take-le i ws (omega (arith, h)) in
    ap (λ xs. get_or xs i d) (is ∙ ap (λ xs. map f (take i ws) ++ xs) (drop_more ws i d h))
    ∙ get_or_at (map f (take i ws)) (get_or ws i d) (drop (i + 1) ws) d i long

asked_in : (previous : ℕ) (bs : List Bool) (ws rest : List Window) (i : ℕ) (d : Window) → i < length ws
    → map (window_after previous bs) (take i ws) ++ window_after previous bs (get_or ws i d) ∷ rest ≡ map (window_after previous bs) (take (i + 1) ws) ++ rest
asked_in previous bs ws rest i d h =
    let f = window_after previous bs in
    sym (append_assoc (map f (take i ws)) (f (get_or ws i d) ∷ []) rest)
    ∙ ap (λ xs. xs ++ rest) (sym (ap (map f) (take_more ws i d h) ∙ map-append f (take i ws) (get_or ws i d ∷ [])))

pub asked_on : (previous : ℕ) (bs : List Bool) (ws : List Window) (i : ℕ) (d : Window) → i < length ws → nat_lt (get_or ws i d).start previous ≡ false
    → asked previous bs ws ≡ map (window_after previous bs) (take i ws) ++ asked previous bs (drop i ws)
    → asked previous bs ws ≡ map (window_after previous bs) (take (i + 1) ws) ++ asked previous bs (drop (i + 1) ws)
asked_on previous bs ws i d h miss so_far =
    let f = window_after previous bs in
    let w : Window = get_or ws i d in
    so_far
    ∙ ap (λ xs. map f (take i ws) ++ asked previous bs xs) (drop_more ws i d h)
    ∙ ap (λ xs. map f (take i ws) ++ f w ∷ xs) (cond-false (nat_lt w.start previous) (drop (i + 1) ws) (asked previous bs (drop (i + 1) ws)) miss)
    ∙ asked_in previous bs ws (asked previous bs (drop (i + 1) ws)) i d h

pub asked_found : (previous : ℕ) (bs : List Bool) (ws : List Window) (i : ℕ) (d : Window) → i < length ws → nat_lt (get_or ws i d).start previous ≡ true
    → asked previous bs ws ≡ map (window_after previous bs) (take i ws) ++ asked previous bs (drop i ws)
    → asked previous bs ws ≡ map (window_after previous bs) (take (i + 1) ws) ++ drop (i + 1) ws
asked_found previous bs ws i d h hit so_far =
    let f = window_after previous bs in
    let w : Window = get_or ws i d in
    so_far
    ∙ ap (λ xs. map f (take i ws) ++ asked previous bs xs) (drop_more ws i d h)
    ∙ ap (λ xs. map f (take i ws) ++ f w ∷ xs) (cond-true (nat_lt w.start previous) (drop (i + 1) ws) (asked previous bs (drop (i + 1) ws)) hit)
    ∙ asked_in previous bs ws (drop (i + 1) ws) i d h

-- Their tallies.

-- what stands at a place is that of its limit
pub made_at : (made : ℕ → Tally) (sorted : List ℕ) (ts : List Tally) (k limit : ℕ) (d : Tally) → k < length sorted → get_or sorted k 0 ≡ limit → ts ≡ map made sorted → get_or ts k d ≡ made limit
made_at made sorted ts k limit d h at e = ap (λ xs. get_or xs k d) e ∙ get_or-map made sorted k 0 d h ∙ ap made at

-- a limit stands in the sorted list
pub stands : (limits sorted : List ℕ) (k : ℕ) → IsPermutation limits sorted → k < length limits → Contains sorted (get_or limits k 0)
stands limits sorted k same h = Contains-permutation limits sorted (get_or limits k 0) same (k, h, get_or_default limits k (get_or limits k 0) 0 h)

pub not_out : (sorted : List ℕ) (limit place : ℕ) → Contains sorted limit → ((k : ℕ) → k < place → get_or sorted k 0 < limit) → ((k : ℕ) → place ≤ k → k < length sorted → limit < get_or sorted k 0) → ⊥
not_out sorted limit place has below above =
    let at : get_or sorted has.0 0 ≡ limit = get_or_default sorted has.0 0 limit has.1 ∙ has.2 in
    elim (cases_lt has.0 place) [
      | inl lt ↦ omega (arith, below has.0 lt, at)
      | inr le ↦ omega (arith, above has.0 le has.1, at)
    ]
