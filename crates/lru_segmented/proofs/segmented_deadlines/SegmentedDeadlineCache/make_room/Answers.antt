use Rattle.std.proofs.Common.{refl, sym, ◌∙◌}
use Rattle.lru_segmented.proofs.Living.{spares, makes}
use Rattle.lru_segmented.proofs.segmented_deadlines.SegmentedDeadlineCache.make_room.Goals as goal

pub returns-then-has_room : goal.returns-then-has_room
returns-then-has_room g c = spares (λ p e q. goal.F-step g p e tt q) c.args.visit c.args.time c.args.weight _ _ (sym c.has_room.ensures ∙ c.if-has_room.true) refl

pub returns : goal.returns
returns g c = makes (λ p e q. goal.F-step g p e tt q) c.args.visit c.args.time c.args.weight c.args.self.now c.sweep.new.self (sym c.has_room.ensures ∙ c.if-has_room.false) c.sweep.ensures
