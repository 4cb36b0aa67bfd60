use Rattle.std.proofs.Common.{◌≡◌, [], ◌∷◌, length, vec_len, rules, arith, length-append}
use Rattle.lru_shared_order.proofs.Units.{own_more}
use Rattle.lru_shared_order.proofs.lru.Lru.into_units.Goals as goal

pub loop-shard-preserved : goal.loop-shard-preserved
loop-shard-preserved g c =
    let here : vec_len c.loop-shard.units ≡ length c.loop-shard.units.items = search rules in
    record {
      len = omega (arith, c.push_reserved.ensures.len, c.loop-shard.invariant.len, length-append c.loop-shard.yielded (c.in-Some.shard ∷ []));
      room = omega (arith, c.loop-shard.invariant.room, c.push_reserved.ensures.capacity);
      own = own_more g.row.N c.len-number.result c.loop-shard.units.items c.push_reserved.new.self.items c.unit_of.result c.push_reserved.ensures.items (omega (arith, here, c.len-number.ensures)) c.loop-shard.invariant.own c.unit_of.ensures;
    }
