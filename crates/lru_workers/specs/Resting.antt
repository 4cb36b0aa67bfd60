-- The workers that have nothing to do.
use Rattle.std.specs.Prelude.{ℕ, ◌+◌, ◌%◌, ◌^◌, ◌==◌, if◌then◌else◌}
use Rattle.lru_workers.specs.declared.trigger.Raised.{Raised}

-- one more has nothing to do as long as the count stays, if it is still the one that it has seen
abbrev pub rested : ℕ → Raised → Raised
rested seen r = if r.count == seen then record r { resting = (r.resting + 1) % 2 ^ 64 } else r
