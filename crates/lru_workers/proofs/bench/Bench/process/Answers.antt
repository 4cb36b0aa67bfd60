use Rattle.lru_workers.specs.Seats.{slips_at}
use Rattle.lru_workers.proofs.Apart.{all_inside_hold}
use Rattle.lru_workers.proofs.Slips.{none_added}
use Rattle.lru_workers.proofs.bench.Bench.process.Goals as goal

pub returns-then-all_stay_inside-clause-slips : goal.returns-then-all_stay_inside-clause-slips
returns-then-all_stay_inside-clause-slips g c = λ _.
    none_added c.args.state.now.shard.rows c.args.self.now.batch.items c.batch_inside.new.self.effects.items (slips_at c.args.seat.now) (all_inside_hold c.args.self.now.batch.items (c.all_stay_inside.ensures c.if-all_stay_inside.true))
