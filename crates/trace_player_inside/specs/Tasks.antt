-- What can be done of what words ask for.
use Rattle.std.specs.Prelude.{◌≢◌, ℕ, ◌≤◌, []}
use Rattle.trace_player_inside.specs.declared.settings.Asked as plain
use Rattle.trace_player_inside.specs.declared.settings.Asked.TheVariants as plainly
use Rattle.trace_player_inside.specs.declared.words.Asked.{Asked}
use Rattle.trace_player_inside.specs.declared.words.Asked.TheVariants.{Help, HelpMore, Make, Compare, Sample, Other, Misused}

-- a trace is played under some limit
abbrev pub CanBePlayed : plain.Asked → Type 0
CanBePlayed (plainly.Play settings) = settings.limits.items ≢ []
CanBePlayed plainly.Help = Unit {0}
CanBePlayed (plainly.Misused _) = Unit {0}

-- a trace is compared, or sampled, under some limit, and a sample has one key in 1 to 10000
abbrev pub CanBeDone : Asked → Type 0
CanBeDone (Compare comparison) = comparison.limits.items ≢ []
CanBeDone (Sample rate limits) = (1 ≤ rate) × (rate ≤ 10000) × (limits.items ≢ [])
CanBeDone Help = Unit {0}
CanBeDone HelpMore = Unit {0}
CanBeDone (Make _) = Unit {0}
CanBeDone Other = Unit {0}
CanBeDone (Misused _) = Unit {0}
