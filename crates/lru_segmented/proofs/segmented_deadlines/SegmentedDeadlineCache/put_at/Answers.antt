use Rattle.std.proofs.Common.{rules}
use denote.Param.Always.{mut_total}
use Rattle.lru_segmented.proofs.Living.{folds_from, puts_then}
use Rattle.lru_segmented.proofs.segmented_deadlines.SegmentedDeadlineCache.put_at.Goals as goal

pub make_room-requires : goal.make_room-requires
make_room-requires g c = mut_total _ _ (λ s a. mut_total g.F.FnMut _ (λ t b. c.requires.visit t b.0))

pub returns : goal.returns
returns g c =
    let shown = c.make_room.ensures.0 in (
      c.make_room.new.self,
      (
        ((shown.0.0.now, folds_from _ _ _ _ shown.1 (λ p e q. goal.F-step g p e tt q) (λ s. s.0.now) (λ p e q called. let h = called.met in search rules)), c.make_room.ensures.1),
        puts_then g.K.PartialEq.eq (λ p e q. goal.F-step g p e tt q) _ _ _ c.self.view_is c.args.key c.args.until c.args.weight c.put.result c.put.new.self c.put.ensures,
      ),
    )
