use Rattle.std.proofs.Common.{◌≡◌, ◌<◌, [], drop, take, ap, ◌∙◌, arith, rules}
use Rattle.std.specs.Vec.Iter.{into_iter_items}
use Rattle.lru_inbox.specs.Logs.{hand}
use Rattle.lru_inbox.proofs.Dealing.{logs_rest}
use Rattle.lru_workers.proofs.Slips.{first_of, rest_of, slips_of_first}
use Rattle.lru_workers.proofs.world.logged_places.Goals as goal

pub logged-requires-clause-fresh : goal.logged-requires-clause-fresh
logged-requires-clause-fresh g c =
    slips_of_first c.next-seat.result (first_of (λ s. s.share.slips ≡ []) (into_iter_items c.loop-shard.seats) (into_iter_items c.next-seat.new.self) c.next-seat.result c.next-seat.ensures.items c.loop-shard.invariant.fresh)

pub logged-requires-clause-log : goal.logged-requires-clause-log
logged-requires-clause-log g c =
    let i = c.loop-shard.invariant in
    let below : c.loop-shard.shard < c.args.count = search rules in
    let logs = ap (λ m. m.0.logs) i.rest ∙ logs_rest c.loop-shard.shard c.args.count below in
    c.in_ok-voice.ensures.one ∙ (λ k. (hand (take 1 (logs k)) [] [], []))

pub loop-shard-preserved : goal.loop-shard-preserved
loop-shard-preserved g c =
    let i = c.loop-shard.invariant in
    let below : c.loop-shard.shard < c.args.count = search rules in
    let logs = ap (λ m. m.0.logs) i.rest ∙ logs_rest c.loop-shard.shard c.args.count below in
    record {
      all = omega (arith, c.in_ok-push.ensures.len, i.all);
      rest = c.in_ok-voice.ensures.rest ∙ (λ k. (hand (drop 1 (logs k)) (i.rest k).0.takers (i.rest k).0.fronts, []));
      fresh = rest_of (λ s. s.share.slips ≡ []) (into_iter_items c.loop-shard.seats) (into_iter_items c.next-seat.new.self) c.next-seat.result c.next-seat.ensures.items i.fresh;
    }
