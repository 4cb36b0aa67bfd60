use Rattle.std.proofs.Common.{rules}
use denote.Param.Always.{mut_total}
use Rattle.lru_deadlines.proofs.Living.{folds_from}
use Rattle.lru_shared_deadlines.proofs.Shown.{places_then}
use Rattle.lru_shared_deadlines.proofs.one.put.Goals as goal

pub make_room-requires : goal.make_room-requires
make_room-requires g c = mut_total _ _ (λ s a. mut_total g.F.FnMut _ (λ t b. c.requires.visit t b.0))

pub place-requires-clause-visit : goal.place-requires-clause-visit
place-requires-clause-visit g c = mut_total g.F.FnMut _ (λ t b. c.requires.visit t b.0)

pub returns : goal.returns
returns g c =
    let shown = c.make_room.ensures.0.0 in (
      c.make_room.new.shard,
      (
        (((shown.0.0.now, folds_from _ _ _ _ shown.1 (λ p e q. goal.F-step g p e tt q) (λ s. s.0.now) (λ p e q called. let h = called.met in search rules)), c.make_room.ensures.0.1), c.make_room.ensures.1),
        places_then (λ p e q. goal.F-step g p e tt q) _ g.K.PartialEq.eq c.args.moment _ c.args.key c.args.value c.args.weight c.place.result c.place.new.shard c.place.ensures,
      ),
    )
