-- The refusals of an order served by actors.
use Rattle.std.specs.Prelude.{◌≡◌, ℕ, List, codes}
use Rattle.lru_async.specs.declared.refusals.SendRefused.{SendRefused}
use Rattle.lru_async.specs.declared.refusals.SendRefused.TheVariants.{Memory, Closed}
use Rattle.lru_async.specs.declared.refusals.BuildError.{BuildError}
use Rattle.lru_async.specs.declared.refusals.BuildError.TheVariants as build

abbrev pub number_of : {T : Type 0} → SendRefused T → ℕ
number_of (Memory _) = 1
number_of (Closed _) = 2

-- what a refusal hands back
abbrev pub held_in : {T : Type 0} → SendRefused T → T
held_in (Memory held) = held
held_in (Closed held) = held

abbrev pub SameCause : {S T : Type 0} → SendRefused S → SendRefused T → Type 0
SameCause r s = number_of s ≡ number_of r

abbrev pub number_of_build : BuildError → ℕ
number_of_build build.Memory = 1
number_of_build build.Thread = 2
number_of_build build.NoCallbackWorkers = 3

-- what a refusal is called
abbrev pub text_of : {T : Type 0} → SendRefused T → List ℕ
text_of (Memory _) = codes "out of memory"
text_of (Closed _) = codes "closed"

abbrev pub text_of_build : BuildError → List ℕ
text_of_build build.Memory = codes "out of memory"
text_of_build build.Thread = codes "no thread"
text_of_build build.NoCallbackWorkers = codes "no callback workers"
