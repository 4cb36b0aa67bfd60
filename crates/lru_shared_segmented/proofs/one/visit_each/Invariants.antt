use Rattle.std.proofs.Common.{◌≡◌, ℕ, ◌++◌, List, length}
use Rattle.std.specs.Prelude.{map}
use Rattle.std.specs.List.{FoldsTo}
use Rattle.std.specs.Borrow.{Bor}
use denote.Param.Always.{always_mut}
use Rattle.lru_owned_cache.specs.Cache.{parts_of}
use Rattle.lru_segmented.specs.Segmented.{entries}
use Rattle.lru_shared_cache.specs.Calls.{shown}
use Rattle.lru_shared_segmented.proofs.one.visit_each.Given as goal

-- what was given so far, and that the calls at these items and at any that follow are one run
abbrev pub invariant-loop-entry : goal.invariant-loop-entry
invariant-loop-entry g l =
    always_mut g.F.FnMut l.visit
    × ((given : List (Bor g.row.K.Denot × Bor g.row.V.Denot × ℕ))
    × ((map shown given ++ l.rest ≡ map parts_of (entries l.shard.cache))
    × ((more : _) (last : _) → FoldsTo (λ p x q. goal.F-step g p x tt q) l.visit more last → FoldsTo (λ p x q. goal.F-step g p x tt q) l.fn.visit (given ++ more) last)))

abbrev pub decreases-loop-entry : goal.decreases-loop-entry
decreases-loop-entry g l = length l.rest
