-- What a use and a halving do to estimates.
use Rattle.std.proofs.Common.{◌≡◌, ℕ, ◌+◌, ◌*◌, ◌/◌, ◌%◌, ◌^◌, ◌<◌, ◌≤◌, min, max, List, [], ◌∷◌, length, get_or, map, suc, zero, refl, ◌∙◌, arith}
use Rattle.std.specs.List.{All}
use Rattle.std.proofs.Math.Nat.{mul-le-mul_right}
use Rattle.std.proofs.lemmas.List.{length-set, length-map}
use Rattle.std.proofs.lemmas.List.Elements.{All-get_or}
use Rattle.lru_admission.specs.Sketch.{mixed, counter_by, counter_of, least_of, lifted, all_lifted, raised}

scaled : (x n : ℕ) → 0 < n → x % 2 ^ 32 * n < n * 2 ^ 32
scaled x n some =
    let small : x % 2 ^ 32 ≤ 4294967295 = omega arith in
    omega (arith, mul-le-mul_right n small)

quotient_below : (a n : ℕ) → a < n * 2 ^ 32 → a / 2 ^ 32 < n
quotient_below a n h = omega arith

-- each counter of a hash is there
pub counter-below : (n bits which : ℕ) → 0 < n → counter_by n bits which < n
unfolding counter_by
counter-below n bits which some = quotient_below _ n (scaled (bits / 2 ^ 32 + which * (bits % 2 ^ 32)) n some)

-- a lift lets no counter sink, and lifts none higher than it has to
pub lifted-above : (counts : List ℕ) (c level i : ℕ) → get_or counts i 0 ≤ get_or (lifted counts c level) i 0
lifted-above [] c level i = omega arith
lifted-above (x ∷ xs) zero level zero = omega arith
lifted-above (x ∷ xs) zero level (suc i) = omega arith
lifted-above (x ∷ xs) (suc c) level zero = omega arith
lifted-above (x ∷ xs) (suc c) level (suc i) = lifted-above xs c level i

pub lifted-beneath : (counts : List ℕ) (c level i : ℕ) → get_or (lifted counts c level) i 0 ≤ max (get_or counts i 0) level
lifted-beneath [] c level i = omega arith
lifted-beneath (x ∷ xs) zero level zero = omega arith
lifted-beneath (x ∷ xs) zero level (suc i) = omega arith
lifted-beneath (x ∷ xs) (suc c) level zero = omega arith
lifted-beneath (x ∷ xs) (suc c) level (suc i) = lifted-beneath xs c level i

pub lifted-high : (counts : List ℕ) (c level : ℕ) → c < length counts → level ≤ get_or (lifted counts c level) c 0
lifted-high [] c level h = omega arith
lifted-high (x ∷ xs) zero level h = omega arith
lifted-high (x ∷ xs) (suc c) level h = lifted-high xs c level (omega arith)

-- four lifts to one level
module _ (counts : List ℕ) (a b c d level : ℕ) where
  abbrev one : List ℕ
  one = lifted counts a level

  abbrev two : List ℕ
  two = lifted one b level

  abbrev three : List ℕ
  three = lifted two c level

  abbrev pub four : List ℕ
  four = lifted three d level

  pub length-four : length four ≡ length counts
  length-four = length-set three d _ ∙ (length-set two c _ ∙ (length-set one b _ ∙ length-set counts a _))

  pub four-above : (i : ℕ) → get_or counts i 0 ≤ get_or four i 0
  four-above i = omega (arith, lifted-above counts a level i, lifted-above one b level i, lifted-above two c level i, lifted-above three d level i)

  pub four-beneath : (i : ℕ) → get_or four i 0 ≤ max (get_or counts i 0) level
  four-beneath i = omega (arith, lifted-beneath counts a level i, lifted-beneath one b level i, lifted-beneath two c level i, lifted-beneath three d level i)

  pub first-high : a < length counts → level ≤ get_or four a 0
  first-high h = omega (arith, lifted-high counts a level h, lifted-above one b level a, lifted-above two c level a, lifted-above three d level a)

  pub second-high : b < length counts → level ≤ get_or four b 0
  second-high h = omega (arith, lifted-high one b level (omega (arith, length-set counts a (max (get_or counts a 0) level))), lifted-above two c level b, lifted-above three d level b)

  pub third-high : c < length counts → level ≤ get_or four c 0
  third-high h =
      omega (arith, lifted-high two c level (omega (arith, length-set counts a (max (get_or counts a 0) level), length-set one b (max (get_or one b 0) level))), lifted-above three d level c)

  pub fourth-high : d < length counts → level ≤ get_or four d 0
  fourth-high h =
      lifted-high three d level (omega (arith, length-set counts a (max (get_or counts a 0) level), length-set one b (max (get_or one b 0) level), length-set two c (max (get_or two c 0) level)))

pub length-raised : (counts : List ℕ) (hash : ℕ) → length (raised counts hash) ≡ length counts
unfolding raised
length-raised counts hash = let at = counter_of (length counts) hash in length-four counts (at 0) (at 1) (at 2) (at 3) _

-- between the old value and the level, and at least the level
squeezed : (old level new : ℕ) → old ≤ new → new ≤ max old level → level ≤ new → new ≡ max old level
squeezed old level new a b c = omega arith

min-max : (a b c d level : ℕ) → min (min (max a level) (max b level)) (min (max c level) (max d level)) ≡ max (min (min a b) (min c d)) level
min-max a b c d level = omega arith

min_above : (a b c d e f g h : ℕ) → a ≤ e → b ≤ f → c ≤ g → d ≤ h → min (min a b) (min c d) ≤ min (min e f) (min g h)
min_above a b c d e f g h p q r s = omega arith

raised-above : (counts : List ℕ) (hash : ℕ) (i : ℕ) → get_or counts i 0 ≤ get_or (raised counts hash) i 0
unfolding raised
raised-above counts hash i = let at = counter_of (length counts) hash in four-above counts (at 0) (at 1) (at 2) (at 3) _ i

-- no estimate sinks by a use
pub least-raised_above : (counts : List ℕ) (hash other : ℕ) → least_of counts other ≤ least_of (raised counts hash) other
unfolding least_of
least-raised_above counts hash other =
    let at = counter_of (length counts) other in
    rw length-raised (min_above _ _ _ _ _ _ _ _ (raised-above counts hash (at 0)) (raised-above counts hash (at 1)) (raised-above counts hash (at 2)) (raised-above counts hash (at 3)))

level_over : (least : ℕ) → least < 16 → max least (min 15 (least + 1)) ≡ min 15 (least + 1)
level_over least h = omega arith

-- the estimate of the hash that is used is the level to which its counters are lifted, or what it was
pub least-lifted : (counts : List ℕ) (hash level : ℕ) → 0 < length counts → least_of (all_lifted counts hash level) hash ≡ max (least_of counts hash) level
unfolding least_of
least-lifted counts hash level some =
    let n = length counts in
    let at = counter_of n hash in
    let four_of = four counts (at 0) (at 1) (at 2) (at 3) level in
    let above = four-above counts (at 0) (at 1) (at 2) (at 3) level in
    let beneath = four-beneath counts (at 0) (at 1) (at 2) (at 3) level in
    let first = squeezed _ level _ (above (at 0)) (beneath (at 0)) (first-high counts (at 0) (at 1) (at 2) (at 3) level (counter-below n (mixed hash) 0 some)) in
    let second = squeezed _ level _ (above (at 1)) (beneath (at 1)) (second-high counts (at 0) (at 1) (at 2) (at 3) level (counter-below n (mixed hash) 1 some)) in
    let third = squeezed _ level _ (above (at 2)) (beneath (at 2)) (third-high counts (at 0) (at 1) (at 2) (at 3) level (counter-below n (mixed hash) 2 some)) in
    let fourth = squeezed _ level _ (above (at 3)) (beneath (at 3)) (fourth-high counts (at 0) (at 1) (at 2) (at 3) level (counter-below n (mixed hash) 3 some)) in
    rw (length-four counts (at 0) (at 1) (at 2) (at 3) level, first, second, third, fourth) (min-max _ _ _ _ level)

pub least-raised : (counts : List ℕ) (hash : ℕ) → 0 < length counts → least_of (raised counts hash) hash ≡ max (least_of counts hash) (min 15 (least_of counts hash + 1))
unfolding raised
least-raised counts hash some = least-lifted counts hash (min 15 (least_of counts hash + 1)) some

-- counters of four bits give estimates of four bits
count-small : (counts : List ℕ) (i : ℕ) → All (λ count. count < 16) counts → i < length counts → get_or counts i 0 < 16
count-small counts i small h = All-get_or (λ count. count < 16) counts i 0 h small

min_small : (a b c d : ℕ) → a < 16 → min (min a b) (min c d) < 16
min_small a b c d h = omega arith

pub least-small : (counts : List ℕ) (hash : ℕ) → 0 < length counts → All (λ count. count < 16) counts → least_of counts hash < 16
unfolding least_of
least-small counts hash some small =
    let at = counter_of (length counts) hash in
    min_small _ _ _ _ (count-small counts (at 0) small (counter-below (length counts) (mixed hash) 0 some))

-- halves
get_or-halves : (counts : List ℕ) (i : ℕ) → get_or (map (λ count. count / 2) counts) i 0 ≡ get_or counts i 0 / 2
get_or-halves [] i = refl
get_or-halves (x ∷ xs) zero = refl
get_or-halves (x ∷ xs) (suc i) = get_or-halves xs i

min-halves : (a b c d : ℕ) → min (min (a / 2) (b / 2)) (min (c / 2) (d / 2)) ≡ min (min a b) (min c d) / 2
min-halves a b c d = omega arith

pub least-halved : (counts : List ℕ) (hash : ℕ) → least_of (map (λ count. count / 2) counts) hash ≡ least_of counts hash / 2
unfolding least_of
least-halved counts hash =
    let at = counter_of (length counts) hash in
    rw (length-map, get_or-halves counts (at 0), get_or-halves counts (at 1), get_or-halves counts (at 2), get_or-halves counts (at 3)) (min-halves _ _ _ _)

pub own_raised : (counts : List ℕ) (hash : ℕ) → 0 < length counts → All (λ count. count < 16) counts → least_of (raised counts hash) hash ≡ min 15 (least_of counts hash + 1)
own_raised counts hash some small = least-raised counts hash some ∙ level_over _ (least-small counts hash some small)
