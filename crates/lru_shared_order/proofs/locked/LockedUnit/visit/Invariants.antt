use Rattle.std.proofs.Common.{◌≡◌, ◌++◌, List}
use Rattle.std.specs.Prelude.{map}
use Rattle.std.specs.List.{FoldsTo}
use Rattle.std.specs.Borrow.{Bor}
use denote.Param.Always.{always_mut}
use Rattle.lru_shard.specs.Row.{pair_of}
use Rattle.lru_shard.specs.Unit.{shown}
use Rattle.lru_shared_order.proofs.locked.LockedUnit.visit.Given as goal

-- what was given so far, and that the calls at these items and at any that follow are one run
abbrev pub invariant-loop-pair : goal.invariant-loop-pair
invariant-loop-pair g l =
    always_mut g.F.FnMut l.visit
    × ((given : List (Bor g.row.T.Denot × _))
    × ((map shown given ++ l.rest ≡ map pair_of l.self.unit.rows)
    × ((more : _) (last : _) → FoldsTo (λ p x q. goal.F-step g p x tt q) l.visit more last → FoldsTo (λ p x q. goal.F-step g p x tt q) l.fn.visit (given ++ more) last)))
