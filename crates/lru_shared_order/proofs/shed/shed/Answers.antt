use Rattle.std.proofs.Common.{of_calls, ◌≡◌, ◌<◌, length, true, sym, ◌∙◌, arith}
use Rattle.lru_shard.specs.Row.{weight_of}
use Rattle.lru_shard.specs.Limits.{is_past}
use Rattle.lru_shared_order.proofs.Sheds.{sheds_last}
use Rattle.lru_shared_order.proofs.shed.shed.Goals as goal

pub loop-unit-preserved : goal.loop-unit-preserved
loop-unit-preserved g c =
    let unit = c.loop-unit.unit in
    let room = c.args.room in
    let more : 1 < length unit.rows = omega (arith, c.loop-unit-test.true, c.len.ensures.value) in
    let used = sym c.used_weight.ensures.value in
    let long = sym c.len-in-loop-unit.ensures.value in
    let past : is_past room.weight room.len (weight_of unit.rows) (length unit.rows) ≡ true =
    (λ j. is_past room.weight room.len (used j) (long j)) ∙ sym c.is_past.ensures ∙ c.if-is_past.true in
    record {
      again = search of_calls parts 8;
      sheds = sheds_last (λ p x q. goal.F-step g p x tt q) c.args.visit.now c.args.unit.now room.weight room.len unit c.loop-unit.visit c.loop-unit.invariant.sheds more past c.evict.new.self c.evict.ensures.rows c.in-Some.pair c.in-Some.ensures.answer c.visit.new.self c.visit.ensures;
    }
