-- What calls met, in numbers that stay at the most that they can be.
use Rattle.std.specs.Prelude.{ℕ, ◌+◌, ◌-◌, ◌^◌, min, Bool, true, false, List, Option, Some, None}
use Rattle.std.specs.List.{fold}
use Rattle.lru_shared_cache.specs.declared.counts.Size.{Size}
use Rattle.lru_shared_cache.specs.declared.counts.Counted.{Counted}
use Rattle.lru_shared_cache.specs.declared.counts.Left.{Left}
use Rattle.lru_shared_cache.specs.declared.counts.Counts.{Counts}
use Rattle.lru_shared_cache.specs.declared.counts.Why.{Why}
use Rattle.lru_shared_cache.specs.declared.counts.Why.TheVariants.{Replaced, ForRoom, Past, Removed, Cleared}

-- so many more
abbrev pub up_by : ℕ → ℕ → ℕ
up_by n more = min (n + more) (2 ^ 64 - 1)

abbrev pub none_left : Left
none_left = record { entries = 0; weight = 0 }

abbrev pub more_left : Left → ℕ → ℕ → Left
more_left l entries weight = record { entries = up_by l.entries entries; weight = up_by l.weight weight }

abbrev pub no_counts : Counts
no_counts = record { hits = 0; misses = 0; puts = 0; refusals = 0; replaced = none_left; for_room = none_left; past = none_left; removed = none_left; cleared = none_left }

-- a key was looked up, and its entry was found or not
abbrev pub looked : Counts → Bool → Counts
looked c true = record c { hits = up_by c.hits 1 }
looked c false = record c { misses = up_by c.misses 1 }

-- an entry was put
abbrev pub put_in : Counts → Counts
put_in c = record c { puts = up_by c.puts 1 }

-- an entry was refused
abbrev pub refused : Counts → Counts
refused c = record c { refusals = up_by c.refusals 1 }

-- so many entries of this weight left
abbrev pub left_by : Counts → Why → ℕ → ℕ → Counts
left_by c Replaced n w = record c { replaced = more_left c.replaced n w }
left_by c ForRoom n w = record c { for_room = more_left c.for_room n w }
left_by c Past n w = record c { past = more_left c.past n w }
left_by c Removed n w = record c { removed = more_left c.removed n w }
left_by c Cleared n w = record c { cleared = more_left c.cleared n w }

-- of entries some left: as many as there are fewer, and as heavy as the others are lighter
abbrev pub fewer : Counts → Why → Size → Size → Counts
fewer c why before after = left_by c why (before.entries - after.entries) (before.weight - after.weight)

-- all but one, of this weight
abbrev pub all_but : Size → ℕ → Size
all_but s w = record { entries = s.entries - 1; weight = s.weight - w }

-- an entry of this weight was put, in place of one of that weight, if there was one: of the others those left for it that are no longer there
abbrev pub put_counted : Counts → Size → Option ℕ → ℕ → Size → Counts
put_counted c before None w after = fewer (put_in c) ForRoom before (all_but after w)
put_counted c before (Some was) w after = fewer (left_by (put_in c) Replaced 1 was) ForRoom (all_but before was) (all_but after w)

-- what was met here and there
abbrev pub both_left : Left → Left → Left
both_left a b = more_left a b.entries b.weight

abbrev pub both_counts : Counts → Counts → Counts
both_counts a b = record {
  hits = up_by a.hits b.hits;
  misses = up_by a.misses b.misses;
  puts = up_by a.puts b.puts;
  refusals = up_by a.refusals b.refusals;
  replaced = both_left a.replaced b.replaced;
  for_room = both_left a.for_room b.for_room;
  past = both_left a.past b.past;
  removed = both_left a.removed b.removed;
  cleared = both_left a.cleared b.cleared;
}

-- what was met in all of these
abbrev pub total : {C : Type 0} → List (Counted C) → Counts
total counted = fold (λ sum one. both_counts sum one.counts) no_counts counted
